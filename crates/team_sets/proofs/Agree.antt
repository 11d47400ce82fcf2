-- The ancestors of a connected link are the same in any two sets that have the links behind it, and any number of steps that is
-- large enough finds them.
use Rattle.std.proofs.Common.{◌≡◌, ℕ, zero, suc, ◌+◌, Bool, true, false, not, ◌||◌, List, [], ◌∷◌, ◌++◌, append_assoc, append-nil, refl, sym, ◌∙◌, ap, subst, inl, inr, length, ◌≤◌, arith}
use Rattle.std.specs.List.{list_any, list_all, AllByRecursion}
use Rattle.std.proofs.lemmas.Bool.{and_parts, or_left, or_right}
use Rattle.team_sets.specs.Names.{Name, has_name}
use Rattle.team_sets.specs.Members.{IsIn}
use Rattle.team_sets.specs.Order.{is_next, names}
use Rattle.team_sets.specs.Ancestry.{named, is_before_within}
use Rattle.team_sets.specs.OrderLaws.{ParentsFirst, NamesDiffer}
use Rattle.team_sets.proofs.OrderLeast.{in_filter, of_filter}
use Rattle.team_sets.proofs.Pasts.{all_at, all_more, all_names, any_of, one_named}

-- two tests that imply each other give the same answer
pub same_answer : (s t : Bool) → (s ≡ true → t ≡ true) → (t ≡ true → s ≡ true) → s ≡ t
same_answer true t f g = sym (f refl)
same_answer false true f g = g refl
same_answer false false f g = refl

pub any_in : {A : Type 0} (p : A → Bool) (xs : List A) (x : A) → IsIn x xs → p x ≡ true → list_any p xs ≡ true
any_in p [] x k h = absurd k
any_in p (y ∷ ys) x (inl e) h = or_left (p y) (list_any p ys) (subst (λ z. p z ≡ true) (sym e) h)
any_in p (y ∷ ys) x (inr k) h = or_right (p y) (list_any p ys) (any_in p ys x k h)

pub length-more : {A : Type 0} (xs : List A) (x : A) → length (xs ++ x ∷ []) ≡ suc (length xs)
length-more [] x = refl
length-more (y ∷ ys) x = ap suc (length-more ys x)

module _ {A : Type 0} (name : A → Name) (prev : A → List Name) where
  -- a parent of a link that may stand next is one of those placed
  pub parent_placed : (links : List A) → NamesDiffer name links → (placed : List A) → AllByRecursion (λ x. IsIn x links) placed → (x : A) → is_next name prev placed x ≡ true
      → (p : A) → IsIn p (named name prev links (prev x)) → IsIn p placed
  parent_placed links differ placed of x next p k =
      let here = of_filter (λ y. has_name (prev x) (name y)) p links k in
      let y = one_named name placed (name p) (all_names (has_name (names name placed)) (prev x) (name p)
      (and_parts (not (has_name (names name placed) (name x))) (list_all (has_name (names name placed)) (prev x)) next).1 here.1) in
      subst (λ w. IsIn w placed) (differ y.0 p (all_at (λ w. IsIn w links) placed of y.0 y.1) here.0 y.2) y.1

  module _ (links others : List A) (differ : NamesDiffer name links) (apart : NamesDiffer name others) where
    -- the same ancestors in both sets, by any number of steps that is large enough
    Agrees : ℕ → A → Type 0
    Agrees d x = (n m : ℕ) (a : Name) → d ≤ n → d ≤ m → is_before_within name prev n links a x ≡ is_before_within name prev m others a x

    agrees_next : (placed : List A) → AllByRecursion (λ x. IsIn x links) placed → AllByRecursion (λ x. IsIn x others) placed → AllByRecursion (Agrees (length placed)) placed
        → (x : A) → is_next name prev placed x ≡ true → Agrees (suc (length placed)) x
    unfolding Agrees
    agrees_next placed of of_others ready x next zero m a h k = absurd (omega arith)
    agrees_next placed of of_others ready x next (suc n) zero a h k = absurd (omega arith)
    agrees_next placed of of_others ready x next (suc n) (suc m) a h k =
        ap (λ b. has_name (prev x) a || b)
        (same_answer (list_any (is_before_within name prev n links a) (named name prev links (prev x))) (list_any (is_before_within name prev m others a) (named name prev others (prev x))) forth back)
      where
        same : (p : A) → IsIn p placed → is_before_within name prev n links a p ≡ is_before_within name prev m others a p
        same p j =
            all_at (λ w. (n m : ℕ) (a : Name) → length placed ≤ n → length placed ≤ m → is_before_within name prev n links a w ≡ is_before_within name prev m others a w)
            placed ready p j n m a (omega arith) (omega arith)

        forth : list_any (is_before_within name prev n links a) (named name prev links (prev x)) ≡ true → list_any (is_before_within name prev m others a) (named name prev others (prev x)) ≡ true
        forth t =
            let p = any_of (is_before_within name prev n links a) (named name prev links (prev x)) t in
            let j = parent_placed links differ placed of x next p.0 p.1 in
            any_in (is_before_within name prev m others a) (named name prev others (prev x)) p.0
            (in_filter (λ y. has_name (prev x) (name y)) p.0 others (all_at (λ w. IsIn w others) placed of_others p.0 j) (of_filter (λ y. has_name (prev x) (name y)) p.0 links p.1).1)
            (sym (same p.0 j) ∙ p.2)

        back : list_any (is_before_within name prev m others a) (named name prev others (prev x)) ≡ true → list_any (is_before_within name prev n links a) (named name prev links (prev x)) ≡ true
        back t =
            let p = any_of (is_before_within name prev m others a) (named name prev others (prev x)) t in
            let j = parent_placed others apart placed of_others x next p.0 p.1 in
            any_in (is_before_within name prev n links a) (named name prev links (prev x)) p.0
            (in_filter (λ y. has_name (prev x) (name y)) p.0 links (all_at (λ w. IsIn w links) placed of p.0 j) (of_filter (λ y. has_name (prev x) (name y)) p.0 others p.1).1)
            (same p.0 j ∙ p.2)

    weaker : (d : ℕ) (xs : List A) → AllByRecursion (Agrees d) xs → AllByRecursion (Agrees (suc d)) xs
    unfolding Agrees
    weaker d [] all = tt
    weaker d (x ∷ xs) all = (λ n m a h k. all.0 n m a (omega arith) (omega arith), weaker d xs all.1)

    all_agree : (list placed : List A) → AllByRecursion (λ x. IsIn x links) placed → AllByRecursion (λ x. IsIn x others) placed → AllByRecursion (Agrees (length placed)) placed
        → AllByRecursion (λ x. IsIn x links) list → AllByRecursion (λ x. IsIn x others) list → ParentsFirst name prev placed list
        → AllByRecursion (Agrees (length placed + length list)) (placed ++ list)
    all_agree [] placed of of_others ready in_links in_others first =
        rw append-nil (subst (λ d. AllByRecursion (Agrees d) placed) (let e : length placed ≡ length placed + 0 = omega arith in e) ready)
    all_agree (x ∷ xs) placed of of_others ready in_links in_others first =
        let longer : length (placed ++ x ∷ []) ≡ suc (length placed) = length-more placed x in
        let rest = all_agree xs (placed ++ x ∷ []) (all_more (λ w. IsIn w links) placed x of in_links.0) (all_more (λ w. IsIn w others) placed x of_others in_others.0)
        (subst (λ d. AllByRecursion (Agrees d) (placed ++ x ∷ [])) (sym longer) (all_more (Agrees (suc (length placed))) placed x (weaker (length placed) placed ready) (agrees_next placed of of_others ready x first.0)))
        in_links.1 in_others.1 first.1 in
        let sums : length (placed ++ x ∷ []) + length xs ≡ length placed + suc (length xs) = omega arith in
        subst (λ d. AllByRecursion (Agrees d) (placed ++ x ∷ xs)) sums (subst (λ l. AllByRecursion (Agrees (length (placed ++ x ∷ []) + length xs)) l) (append_assoc placed (x ∷ []) xs) rest)

    -- for the links of a list that both sets have, parents first
    pub same_ancestors : (list : List A) → AllByRecursion (λ x. IsIn x links) list → AllByRecursion (λ x. IsIn x others) list → ParentsFirst name prev [] list
        → (x : A) → IsIn x list → (n m : ℕ) (a : Name) → length list ≤ n → length list ≤ m → is_before_within name prev n links a x ≡ is_before_within name prev m others a x
    unfolding Agrees
    same_ancestors list of of_others first x k n m a h j =
        all_at (λ w. (n m : ℕ) (a : Name) → 0 + length list ≤ n → 0 + length list ≤ m → is_before_within name prev n links a w ≡ is_before_within name prev m others a w)
        list (all_agree list [] tt tt tt of of_others first) x k n m a (omega arith) (omega arith)
