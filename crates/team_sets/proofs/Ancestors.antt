-- Ancestry unrolled, transitive, and of a past; and what stands behind a link in the order is no ancestor of it.
use Rattle.std.proofs.Common.{◌≡◌, ℕ, zero, suc, ◌+◌, Bool, true, false, not, ◌||◌, cond, List, [], ◌∷◌, ◌++◌, append_assoc, append-nil, refl, sym, ◌∙◌, ap, subst, inl, inr, ◌⊎◌, length, ◌≤◌, arith, filter, Option, Some, None, take, drop, slice_get}
use Rattle.std.specs.List.{list_any, list_all, AllByRecursion}
use Rattle.std.specs.Option.{option_map_or}
use Rattle.std.proofs.lemmas.Bool.{false≢true, and_parts, or_cases, or_left, or_right, or_parts, not-true}
use Rattle.team_sets.specs.Names.{Name, same_name, has_name}
use Rattle.team_sets.specs.Members.{IsIn}
use Rattle.team_sets.specs.Order.{least, is_next, order_after, order, names}
use Rattle.team_sets.specs.Ancestry.{named, is_before_within, is_before, past}
use Rattle.team_sets.specs.OrderLaws.{ParentsFirst, NamesDiffer}
use Rattle.team_sets.specs.PartLaws.{HasParents}
use Rattle.team_sets.proofs.OrderLeast.{in_filter, of_filter, order_laws, has_name-placed, length-filter-le}
use Rattle.team_sets.proofs.Pasts.{all_at, any_of, reached_placed}
use Rattle.team_sets.proofs.Parts.{order-part}
use Rattle.team_sets.proofs.Agree.{any_in, parent_placed, same_answer, same_ancestors}
use Rattle.team_sets.proofs.Lists.{filter_alike}

module _ {A : Type 0} where
  pub all_of : (P : A → Type 0) (xs : List A) → ((x : A) → IsIn x xs → P x) → AllByRecursion P xs
  all_of P [] h = tt
  all_of P (x ∷ xs) h = (h x (inl refl), all_of P xs (λ y k. h y (inr k)))

  pub in_take : (k : ℕ) (xs : List A) (x : A) → IsIn x (take k xs) → IsIn x xs
  in_take zero xs x h = absurd h
  in_take (suc k) [] x h = absurd h
  in_take (suc k) (y ∷ ys) x (inl e) = inl e
  in_take (suc k) (y ∷ ys) x (inr h) = inr (in_take k ys x h)

  pub in_at : (xs : List A) (k : ℕ) (x : A) → slice_get xs k ≡ Some x → IsIn x xs
  in_at [] k x e = absurd (let bad : ◌≡◌ {A = Option A} None (Some x) = e in cc)
  in_at (y ∷ ys) zero x e = inl (let same : y ≡ x = cc in same)
  in_at (y ∷ ys) (suc k) x e = inr (in_at ys k x e)

  pub filter_filter : (p q : A → Bool) (xs : List A) → ((x : A) → q x ≡ true → IsIn x xs → p x ≡ true) → filter q (filter p xs) ≡ filter q xs
  filter_filter p q [] h = refl
  filter_filter p q (x ∷ xs) h = go (p x) refl (q x) refl (filter_filter p q xs (λ y e k. h y e (inr k)))
    where
      go : (b : Bool) → p x ≡ b → (c : Bool) → q x ≡ c → filter q (filter p xs) ≡ filter q xs
          → filter q (cond b (x ∷ filter p xs) (filter p xs)) ≡ cond c (x ∷ filter q xs) (filter q xs)
      go true is true e more = rw e (ap (λ l. x ∷ l) more)
      go true is false e more = rw e more
      go false is true e more = absurd (false≢true (sym is ∙ h x e (inl refl)))
      go false is false e more = more

  -- where nothing behind the first k passes, these are enough
  pub filter_take : (p : A → Bool) (k : ℕ) (xs : List A) → ((x : A) → IsIn x (drop k xs) → p x ≡ false) → filter p xs ≡ filter p (take k xs)
  filter_take p zero [] h = refl
  filter_take p zero (x ∷ xs) h = rw (h x (inl refl)) (filter_take p zero xs (λ y k. h y (inr k)))
  filter_take p (suc k) [] h = refl
  filter_take p (suc k) (x ∷ xs) h = ap (λ l. cond (p x) (x ∷ l) l) (filter_take p k xs h)

module _ {A : Type 0} (name : A → Name) (prev : A → List Name) where
  -- what follows the first k, parents first behind them
  pub first_drop : (k : ℕ) (placed list : List A) → ParentsFirst name prev placed list → ParentsFirst name prev (placed ++ take k list) (drop k list)
  first_drop zero placed list first = rw append-nil first
  first_drop (suc k) placed [] first = tt
  first_drop (suc k) placed (x ∷ xs) first = subst (λ l. ParentsFirst name prev l (drop k xs)) (append_assoc placed (x ∷ []) (take k xs)) (first_drop k (placed ++ x ∷ []) xs first.1)

  pub first_take : (k : ℕ) (placed list : List A) → ParentsFirst name prev placed list → ParentsFirst name prev placed (take k list)
  first_take zero placed list first = tt
  first_take (suc k) placed [] first = tt
  first_take (suc k) placed (x ∷ xs) first = (first.0, first_take k (placed ++ x ∷ []) xs first.1)

  -- the link at place k may stand next behind the first k
  pub next_at : (k : ℕ) (placed list : List A) (x : A) → ParentsFirst name prev placed list → slice_get list k ≡ Some x → is_next name prev (placed ++ take k list) x ≡ true
  next_at k placed [] x first e = absurd (let bad : ◌≡◌ {A = Option A} None (Some x) = e in cc)
  next_at zero placed (y ∷ ys) x first e = let same : y ≡ x = cc in rw append-nil (subst (λ z. is_next name prev placed z ≡ true) same first.0)
  next_at (suc k) placed (y ∷ ys) x first e = subst (λ l. is_next name prev l x ≡ true) (append_assoc placed (y ∷ []) (take k ys)) (next_at k (placed ++ y ∷ []) ys x first.1 e)

  -- the names of a list, parents first, are new
  pub new_names : (placed list : List A) → ParentsFirst name prev placed list → (y : A) → IsIn y list → has_name (names name placed) (name y) ≡ false
  new_names placed [] first y k = absurd k
  new_names placed (x ∷ xs) first y (inl e) =
      subst (λ z. has_name (names name placed) (name z) ≡ false) e
      (not-true (has_name (names name placed) (name x)) (and_parts (not (has_name (names name placed) (name x))) (list_all (has_name (names name placed)) (prev x)) first.0).0)
  new_names placed (x ∷ xs) first y (inr k) =
      (or_parts (has_name (names name placed) (name y)) (same_name (name x) (name y)) (sym (has_name-placed name prev [] placed x (name y)) ∙ new_names (placed ++ x ∷ []) xs first.1 y k)).0

  length-order : (links : List A) (n : ℕ) (placed : List A) → length (order_after name prev n placed links) ≤ n
  length-order links zero placed = omega arith
  length-order links (suc n) placed = go (least name (filter (is_next name prev placed) links)) (length-order links n)
    where
      go : (o : Option A) → ((placed : List A) → length (order_after name prev n placed links) ≤ n)
          → length (option_map_or (λ x. x ∷ order_after name prev n (placed ++ x ∷ []) links) o []) ≤ suc n
      go None more = omega arith
      go (Some x) more = let h = more (placed ++ x ∷ []) in omega arith

  pub order-le : (links : List A) → length (order name prev links) ≤ length links
  order-le links = length-order links (length links) []

  module _ (links : List A) (differ : NamesDiffer name links) where
    pub of_order : AllByRecursion (λ x. IsIn x links) (order name prev links)
    of_order = (order_laws name prev links differ).0.of_links

    pub order_first : ParentsFirst name prev [] (order name prev links)
    order_first = (order_laws name prev links differ).0.parents_first

    pub in_links : (x : A) → IsIn x (order name prev links) → IsIn x links
    in_links x k = all_at (λ y. IsIn y links) (order name prev links) of_order x k

    -- as many steps as there are links are enough
    pub enough : (x : A) → IsIn x (order name prev links) → (n : ℕ) (a : Name) → length links ≤ n → is_before_within name prev n links a x ≡ is_before name prev links a x
    enough x k n a h =
        let short : length (order name prev links) ≤ length links = order-le links in
        same_ancestors name prev links links differ differ (order name prev links) of_order of_order order_first x k n (length links) a (omega arith) (omega arith)

    more_steps : (n m : ℕ) (a : Name) (x : A) → n ≤ m → is_before_within name prev n links a x ≡ true → is_before_within name prev m links a x ≡ true
    more_steps zero m a x h e = absurd (false≢true e)
    more_steps (suc n) zero a x h e = absurd (omega arith)
    more_steps (suc n) (suc m) a x h e = go (or_cases (has_name (prev x) a) (list_any (is_before_within name prev n links a) (named name prev links (prev x))) e) (λ p. more_steps n m a p (omega arith))
      where
        go : (has_name (prev x) a ≡ true) ⊎ (list_any (is_before_within name prev n links a) (named name prev links (prev x)) ≡ true)
            → ((p : A) → is_before_within name prev n links a p ≡ true → is_before_within name prev m links a p ≡ true)
            → (has_name (prev x) a || list_any (is_before_within name prev m links a) (named name prev links (prev x))) ≡ true
        go (inl d) more = or_left (has_name (prev x) a) (list_any (is_before_within name prev m links a) (named name prev links (prev x))) d
        go (inr d) more =
            let p = any_of (is_before_within name prev n links a) (named name prev links (prev x)) d in
            or_right (has_name (prev x) a) (list_any (is_before_within name prev m links a) (named name prev links (prev x)))
            (any_in (is_before_within name prev m links a) (named name prev links (prev x)) p.0 p.1 (more p.0 p.2))

    -- what is reached from a connected link is its ancestor
    pub reached : (x : A) → IsIn x (order name prev links) → (n : ℕ) (a : Name) → is_before_within name prev n links a x ≡ true → is_before name prev links a x ≡ true
    reached x k n a e = sym (enough x k (n + length links) a (omega arith)) ∙ more_steps n (n + length links) a x (omega arith) e

    pub unrolled : (x : A) → IsIn x (order name prev links) → (a : Name)
        → is_before name prev links a x ≡ (has_name (prev x) a || list_any (is_before name prev links a) (named name prev links (prev x)))
    unrolled x k a = sym (enough x k (suc (length links)) a (omega arith))

    joined : (n m : ℕ) (x y : A) (a : Name) → IsIn y links → is_before_within name prev n links (name y) x ≡ true → is_before_within name prev m links a y ≡ true
        → (s : ℕ) × (is_before_within name prev s links a x ≡ true)
    joined zero m x y a k e f = absurd (false≢true e)
    joined (suc n) m x y a k e f = go (or_cases (has_name (prev x) (name y)) (list_any (is_before_within name prev n links (name y)) (named name prev links (prev x))) e) (λ p d. joined n m p y a k d f)
      where
        go : (has_name (prev x) (name y) ≡ true) ⊎ (list_any (is_before_within name prev n links (name y)) (named name prev links (prev x)) ≡ true)
            → ((p : A) → is_before_within name prev n links (name y) p ≡ true → (s : ℕ) × (is_before_within name prev s links a p ≡ true))
            → (s : ℕ) × (is_before_within name prev s links a x ≡ true)
        go (inl d) more = (
          suc m,
          or_right (has_name (prev x) a) (list_any (is_before_within name prev m links a) (named name prev links (prev x)))
              (any_in (is_before_within name prev m links a) (named name prev links (prev x)) y (in_filter (λ z. has_name (prev x) (name z)) y links k d) f),
        )
        go (inr d) more =
            let p = any_of (is_before_within name prev n links (name y)) (named name prev links (prev x)) d in
            let s = more p.0 p.2 in (
              suc s.0,
              or_right (has_name (prev x) a) (list_any (is_before_within name prev s.0 links a) (named name prev links (prev x)))
                  (any_in (is_before_within name prev s.0 links a) (named name prev links (prev x)) p.0 p.1 s.1),
            )

    pub transitive : (x y : A) → IsIn x (order name prev links) → IsIn y links → (a : Name) → is_before name prev links (name y) x ≡ true → is_before name prev links a y ≡ true
        → is_before name prev links a x ≡ true
    transitive x y k j a e f = let s = joined (length links) (length links) x y a j e f in reached x k s.0 a s.1

    parents_too : (x : A) → IsIn x (order name prev links) → HasParents name prev links (λ y. is_before name prev links (name y) x)
    parents_too x k y z j e i h =
        let s = joined (length links) 1 x y (name z) j e (or_left (has_name (prev y) (name z)) (list_any (is_before_within name prev 0 links (name z)) (named name prev links (prev y))) h) in
        reached x k s.0 (name z) s.1

    pub order-past : (x : A) → IsIn x (order name prev links) → order name prev (past name prev links x) ≡ filter (λ y. is_before name prev links (name y) x) (order name prev links)
    order-past x k = order-part name prev links (λ y. is_before name prev links (name y) x) differ (parents_too x k)

    pub differ-past : (x : A) → NamesDiffer name (past name prev links x)
    differ-past x y z k m e =
        differ y z (of_filter (λ w. is_before name prev links (name w) x) y links k).0 (of_filter (λ w. is_before name prev links (name w) x) z links m).0 e

    -- the links of a connected link's past have the same past there
    pub past-past : (x y : A) → IsIn x (order name prev links) → IsIn y (order name prev (past name prev links x)) → past name prev (past name prev links x) y ≡ past name prev links y
    past-past x y k j =
        filter_alike (λ z. is_before name prev (past name prev links x) (name z) y) (λ z. is_before name prev links (name z) y) (past name prev links x) (λ z i. same (name z))
        ∙ filter_filter (λ z. is_before name prev links (name z) x) (λ z. is_before name prev links (name z) y) links (λ z e i. transitive x y k in_set (name z) above e)
      where
        in_order : IsIn y (order name prev links) × (is_before name prev links (name y) x ≡ true)
        in_order = of_filter (λ z. is_before name prev links (name z) x) y (order name prev links) (subst (λ l. IsIn y l) (order-past x k) j)

        in_set : IsIn y links
        in_set = in_links y in_order.0

        above : is_before name prev links (name y) x ≡ true
        above = in_order.1

        same : (a : Name) → is_before name prev (past name prev links x) a y ≡ is_before name prev links a y
        same a =
            let arr = (order_laws name prev (past name prev links x) (differ-past x)).0 in
            let within : length (order name prev (past name prev links x)) ≤ length (past name prev links x) = order-le (past name prev links x) in
            let fewer : length (past name prev links x) ≤ length links = length-filter-le name prev links (λ z. is_before name prev links (name z) x) links in
            same_ancestors name prev (past name prev links x) links (differ-past x) differ (order name prev (past name prev links x)) arr.of_links
            (all_of (λ z. IsIn z links) (order name prev (past name prev links x)) (λ z i.
            (of_filter (λ w. is_before name prev links (name w) x) z links (all_at (λ w. IsIn w (past name prev links x)) (order name prev (past name prev links x)) arr.of_links z i)).0))
            arr.parents_first y j (length (past name prev links x)) (length links) a (omega arith) (omega arith)

    front_in : (k : ℕ) → AllByRecursion (λ z. IsIn z links) (take k (order name prev links))
    front_in k = all_of (λ z. IsIn z links) (take k (order name prev links)) (λ z i. in_links z (in_take k (order name prev links) z i))

    -- what stands at a place of the order or behind it is no ancestor of the link there
    pub not_later : (k : ℕ) (x : A) → slice_get (order name prev links) k ≡ Some x → (y : A) → IsIn y (drop k (order name prev links)) → is_before name prev links (name y) x ≡ false
    not_later k x at y later = go (is_before name prev links (name y) x) refl
      where
        go : (b : Bool) → is_before name prev links (name y) x ≡ b → b ≡ false
        go false e = refl
        go true e =
            absurd (false≢true (sym (new_names (take k (order name prev links)) (drop k (order name prev links)) (first_drop k [] (order name prev links) order_first) y later)
            ∙ reached_placed name prev links differ (take k (order name prev links)) (front_in k) (first_take k [] (order name prev links) order_first) x
            (next_at k [] (order name prev links) x order_first at) (length links) (name y) e))

    -- the ancestors of the link at a place are its parents among those before it, and theirs
    pub unrolled_at : (k : ℕ) (x : A) → slice_get (order name prev links) k ≡ Some x → (a : Name)
        → is_before name prev links a x
        ≡ (has_name (prev x) a || list_any (is_before name prev links a) (filter (λ y. has_name (prev x) (name y)) (take k (order name prev links))))
    unrolled_at k x at a =
        unrolled x (in_at (order name prev links) k x at) a
        ∙ ap (λ b. has_name (prev x) a || b)
        (same_answer (list_any (is_before name prev links a) (named name prev links (prev x))) (list_any (is_before name prev links a) (filter (λ y. has_name (prev x) (name y)) (take k (order name prev links)))) forth back)
      where
        forth : list_any (is_before name prev links a) (named name prev links (prev x)) ≡ true
            → list_any (is_before name prev links a) (filter (λ y. has_name (prev x) (name y)) (take k (order name prev links))) ≡ true
        forth t =
            let p = any_of (is_before name prev links a) (named name prev links (prev x)) t in
            let j = parent_placed name prev links differ (take k (order name prev links)) (front_in k) x (next_at k [] (order name prev links) x order_first at) p.0 p.1 in
            any_in (is_before name prev links a) (filter (λ y. has_name (prev x) (name y)) (take k (order name prev links))) p.0
            (in_filter (λ y. has_name (prev x) (name y)) p.0 (take k (order name prev links)) j (of_filter (λ y. has_name (prev x) (name y)) p.0 links p.1).1) p.2

        back : list_any (is_before name prev links a) (filter (λ y. has_name (prev x) (name y)) (take k (order name prev links))) ≡ true
            → list_any (is_before name prev links a) (named name prev links (prev x)) ≡ true
        back t =
            let p = any_of (is_before name prev links a) (filter (λ y. has_name (prev x) (name y)) (take k (order name prev links))) t in
            let here = of_filter (λ y. has_name (prev x) (name y)) p.0 (take k (order name prev links)) p.1 in
            any_in (is_before name prev links a) (named name prev links (prev x)) p.0
            (in_filter (λ y. has_name (prev x) (name y)) p.0 links (all_at (λ w. IsIn w links) (take k (order name prev links)) (front_in k) p.0 here.0) here.1) p.2
