-- The past of a connected link doesn't change when another link comes.
use Rattle.std.proofs.Common.{◌≡◌, ℕ, zero, suc, ◌+◌, Bool, true, false, not, ◌||◌, cond, List, [], ◌∷◌, ◌++◌, filter, append_assoc, append-nil, Option, Some, None, refl, sym, ◌∙◌, ap, subst, inl, inr, length, ◌≤◌, arith}
use Rattle.std.specs.List.{list_any, list_all, AllByRecursion}
use Rattle.std.specs.Cmp.Lexicographic.{bytes_decides}
use Rattle.std.proofs.lemmas.Bool.{false≢true, and_parts, or_right}
use Rattle.team_sets.specs.Names.{Name, same_name, has_name}
use Rattle.team_sets.specs.Members.{IsIn}
use Rattle.std.specs.Option.{option_map_or}
use Rattle.team_sets.specs.Order.{least, is_next, order_after, order, names}
use Rattle.team_sets.specs.Ancestry.{named, is_before_within, is_before, past}
use Rattle.team_sets.specs.OrderLaws.{ParentsFirst, NamesDiffer}
use Rattle.team_sets.proofs.Lists.{any_alike, filter_alike, filter_end}
use Rattle.team_sets.proofs.OrderLeast.{of_filter, order_laws}
use Rattle.team_sets.proofs.Pasts.{all_at, all_more, all_names, one_named, reached_connected}

module _ {A : Type 0} (name : A → Name) (prev : A → List Name) (links : List A) (z : A) (differ : NamesDiffer name links) (fresh : has_name (names name links) (name z) ≡ false) where
  -- the same ancestors by any number of steps that is large enough, with z and without it
  Settled : ℕ → A → Type 0
  Settled d x = (n m : ℕ) (a : Name) → d ≤ n → d ≤ m → is_before_within name prev n (links ++ z ∷ []) a x ≡ is_before_within name prev m links a x

  in_names : (xs : List A) (y : A) → IsIn y xs → has_name (names name xs) (name y) ≡ true
  in_names [] y k = absurd k
  in_names (x ∷ xs) y (inl e) = rw e (ap (λ b. b || has_name (names name xs) (name y)) ((bytes_decides (name y) (name y)).1 refl))
  in_names (x ∷ xs) y (inr k) = or_right (same_name (name x) (name y)) (has_name (names name xs) (name y)) (in_names xs y k)

  -- z is no parent of a link that may stand next behind links of the set
  no_parent : (placed : List A) → AllByRecursion (λ x. IsIn x links) placed → (x : A) → is_next name prev placed x ≡ true → has_name (prev x) (name z) ≡ false
  no_parent placed of x next = go (has_name (prev x) (name z)) refl
    where
      go : (b : Bool) → has_name (prev x) (name z) ≡ b → b ≡ false
      go false e = refl
      go true e =
          let y = one_named name placed (name z) (all_names (has_name (names name placed)) (prev x) (name z)
          (and_parts (not (has_name (names name placed) (name x))) (list_all (has_name (names name placed)) (prev x)) next).1 e) in
          absurd (false≢true (sym fresh ∙ subst (λ n. has_name (names name links) n ≡ true) y.2 (in_names links y.0 (all_at (λ w. IsIn w links) placed of y.0 y.1))))

  settled_next : (placed : List A) → AllByRecursion (λ x. IsIn x links) placed → AllByRecursion (Settled (length placed)) placed → (x : A) → is_next name prev placed x ≡ true → Settled (suc (length placed)) x
  unfolding Settled
  settled_next placed of ready x next zero m a h k = absurd (omega arith)
  settled_next placed of ready x next (suc n) zero a h k = absurd (omega arith)
  settled_next placed of ready x next (suc n) (suc m) a h k =
      ap (λ l. has_name (prev x) a || list_any (is_before_within name prev n (links ++ z ∷ []) a) l) (filter_end (λ y. has_name (prev x) (name y)) links z false (no_parent placed of x next) ∙ append-nil (named name prev links (prev x)))
      ∙ ap (λ b. has_name (prev x) a || b) (any_alike (is_before_within name prev n (links ++ z ∷ []) a) (is_before_within name prev m links a) (named name prev links (prev x)) each)
    where
      each : (p : A) → IsIn p (named name prev links (prev x)) → is_before_within name prev n (links ++ z ∷ []) a p ≡ is_before_within name prev m links a p
      each p j =
          let here = of_filter (λ y. has_name (prev x) (name y)) p links j in
          let y = one_named name placed (name p) (all_names (has_name (names name placed)) (prev x) (name p)
          (and_parts (not (has_name (names name placed) (name x))) (list_all (has_name (names name placed)) (prev x)) next).1 here.1) in
          let same : y.0 ≡ p = differ y.0 p (all_at (λ w. IsIn w links) placed of y.0 y.1) here.0 y.2 in
          all_at (λ w. (n m : ℕ) (a : Name) → length placed ≤ n → length placed ≤ m → is_before_within name prev n (links ++ z ∷ []) a w ≡ is_before_within name prev m links a w)
          placed ready p (subst (λ w. IsIn w placed) same y.1) n m a (omega arith) (omega arith)

  weaker : (d : ℕ) (xs : List A) → AllByRecursion (Settled d) xs → AllByRecursion (Settled (suc d)) xs
  unfolding Settled
  weaker d [] all = tt
  weaker d (x ∷ xs) all = (λ n m a h k. all.0 n m a (omega arith) (omega arith), weaker d xs all.1)

  length-more : (xs : List A) (x : A) → length (xs ++ x ∷ []) ≡ suc (length xs)
  length-more [] x = refl
  length-more (y ∷ ys) x = ap suc (length-more ys x)

  all_settled : (list placed : List A) → AllByRecursion (λ x. IsIn x links) placed → AllByRecursion (Settled (length placed)) placed → AllByRecursion (λ x. IsIn x links) list
      → ParentsFirst name prev placed list → AllByRecursion (Settled (length placed + length list)) (placed ++ list)
  all_settled [] placed of ready in_links first = rw append-nil (subst (λ d. AllByRecursion (Settled d) placed) (let e : length placed ≡ length placed + 0 = omega arith in e) ready)
  all_settled (x ∷ xs) placed of ready in_links first =
      let longer : length (placed ++ x ∷ []) ≡ suc (length placed) = length-more placed x in
      let rest = all_settled xs (placed ++ x ∷ []) (all_more (λ w. IsIn w links) placed x of in_links.0)
      (subst (λ d. AllByRecursion (Settled d) (placed ++ x ∷ [])) (sym longer) (all_more (Settled (suc (length placed))) placed x (weaker (length placed) placed ready) (settled_next placed of ready x first.0))) in_links.1 first.1 in
      let sums : length (placed ++ x ∷ []) + length xs ≡ length placed + suc (length xs) = omega arith in
      subst (λ d. AllByRecursion (Settled d) (placed ++ x ∷ xs)) sums (subst (λ l. AllByRecursion (Settled (length (placed ++ x ∷ []) + length xs)) l) (append_assoc placed (x ∷ []) xs) rest)

  length-order : (n : ℕ) (placed : List A) → length (order_after name prev n placed links) ≤ n
  length-order zero placed = omega arith
  length-order (suc n) placed = go (least name (filter (is_next name prev placed) links)) (length-order n)
    where
      go : (o : Option A) → ((placed : List A) → length (order_after name prev n placed links) ≤ n)
          → length (option_map_or (λ x. x ∷ order_after name prev n (placed ++ x ∷ []) links) o []) ≤ suc n
      go None more = omega arith
      go (Some x) more = let h = more (placed ++ x ∷ []) in omega arith

  pub before-stays : (x : A) → IsIn x (order name prev links) → (a : Name) → is_before name prev (links ++ z ∷ []) a x ≡ is_before name prev links a x
  unfolding Settled
  before-stays x k a =
      let arr = (order_laws name prev links differ).0 in
      let short : length (order name prev links) ≤ length links = length-order (length links) [] in
      let long : length (links ++ z ∷ []) ≡ suc (length links) = length-more links z in
      let ready = all_settled (order name prev links) [] tt tt arr.of_links arr.parents_first in
      all_at (λ w. (n m : ℕ) (a : Name) → 0 + length (order name prev links) ≤ n → 0 + length (order name prev links) ≤ m → is_before_within name prev n (links ++ z ∷ []) a w ≡ is_before_within name prev m links a w)
      (order name prev links) ready x k (length (links ++ z ∷ [])) (length links) a (omega arith) (omega arith)

  pub past-stays : (x : A) → IsIn x (order name prev links) → past name prev (links ++ z ∷ []) x ≡ past name prev links x
  past-stays x k =
      filter_end (λ y. is_before name prev (links ++ z ∷ []) (name y) x) links z false (before-stays x k (name z) ∙ go (is_before name prev links (name z) x) refl)
      ∙ append-nil (filter (λ y. is_before name prev (links ++ z ∷ []) (name y) x) links)
      ∙ filter_alike (λ y. is_before name prev (links ++ z ∷ []) (name y) x) (λ y. is_before name prev links (name y) x) links (λ y j. before-stays x k (name y))
    where
      go : (b : Bool) → is_before name prev links (name z) x ≡ b → b ≡ false
      go false e = refl
      go true e =
          let y = one_named name (order name prev links) (name z) (reached_connected name prev links differ x k (length links) (name z) e) in
          let of : IsIn y.0 links = all_at (λ w. IsIn w links) (order name prev links) (order_laws name prev links differ).0.of_links y.0 y.1 in
          absurd (false≢true (sym fresh ∙ subst (λ n. has_name (names name links) n ≡ true) y.2 (in_names links y.0 of)))
