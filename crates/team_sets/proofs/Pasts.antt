-- No connected link is its own ancestor, so the past of one has fewer links than the set.
use Rattle.std.proofs.Common.{◌≡◌, ℕ, zero, suc, Bool, true, false, not, List, [], ◌∷◌, ◌++◌, filter, refl, sym, ◌∙◌, ap, subst, append_assoc, append-nil, inl, inr, ◌⊎◌, length, ◌<◌}
use Rattle.std.specs.List.{list_any, list_all, AllByRecursion}
use Rattle.std.specs.Cmp.Lexicographic.{bytes_decides}
use Rattle.std.proofs.lemmas.Bool.{false≢true, and_parts, or_cases, or_left, not-true}
use Rattle.team_sets.specs.Names.{Name, same_name, has_name}
use Rattle.team_sets.specs.Members.{IsIn}
use Rattle.team_sets.specs.Order.{is_next, order, names}
use Rattle.team_sets.specs.Ancestry.{named, is_before_within, is_before, past}
use Rattle.team_sets.specs.OrderLaws.{ParentsFirst, NamesDiffer}
use Rattle.team_sets.proofs.OrderLeast.{of_filter, filter_shrinks, has_name-placed, order_laws}

pub same_name-is : (a b : Name) → same_name a b ≡ true → a ≡ b
same_name-is a b e = (bytes_decides a b).0 e

pub all_names : (p : Name → Bool) (ms : List Name) (a : Name) → list_all p ms ≡ true → has_name ms a ≡ true → p a ≡ true
all_names p [] a all h = absurd (false≢true h)
all_names p (m ∷ ms) a all h = go (or_cases (same_name m a) (has_name ms a) h) (all_names p ms a parts.1)
  where
    parts : (p m ≡ true) × (list_all p ms ≡ true)
    parts = and_parts (p m) (list_all p ms) all

    go : (same_name m a ≡ true) ⊎ (has_name ms a ≡ true) → (has_name ms a ≡ true → p a ≡ true) → p a ≡ true
    go (inl e) more = subst (λ n. p n ≡ true) (same_name-is m a e) parts.0
    go (inr k) more = more k

module _ {A : Type 0} where
  pub any_of : (p : A → Bool) (xs : List A) → list_any p xs ≡ true → (x : A) × IsIn x xs × (p x ≡ true)
  any_of p [] h = absurd (false≢true h)
  any_of p (y ∷ ys) h = go (or_cases (p y) (list_any p ys) h) (any_of p ys)
    where
      go : (p y ≡ true) ⊎ (list_any p ys ≡ true) → (list_any p ys ≡ true → (x : A) × IsIn x ys × (p x ≡ true)) → (x : A) × IsIn x (y ∷ ys) × (p x ≡ true)
      go (inl e) more = (y, inl refl, e)
      go (inr k) more = let r = more k in (r.0, inr r.1, r.2)

  pub all_at : (P : A → Type 0) (xs : List A) → AllByRecursion P xs → (x : A) → IsIn x xs → P x
  all_at P [] all x k = absurd k
  all_at P (y ∷ ys) all x (inl e) = subst P e all.0
  all_at P (y ∷ ys) all x (inr k) = all_at P ys all.1 x k

  pub all_more : (P : A → Type 0) (xs : List A) (x : A) → AllByRecursion P xs → P x → AllByRecursion P (xs ++ x ∷ [])
  all_more P [] x all p = (p, tt)
  all_more P (y ∷ ys) x all p = (all.0, all_more P ys x all.1 p)

  pub in_more : (xs : List A) (x z : A) → IsIn z (xs ++ x ∷ []) → IsIn z xs ⊎ (x ≡ z)
  in_more [] x z (inl e) = inr e
  in_more [] x z (inr k) = absurd k
  in_more (y ∷ ys) x z (inl e) = inl (inl e)
  in_more (y ∷ ys) x z (inr k) = go (in_more ys x z k)
    where
      go : IsIn z ys ⊎ (x ≡ z) → ((y ≡ z) ⊎ IsIn z ys) ⊎ (x ≡ z)
      go (inl h) = inl (inr h)
      go (inr e) = inr e

module _ {A : Type 0} (name : A → Name) where
  pub one_named : (xs : List A) (a : Name) → has_name (names name xs) a ≡ true → (x : A) × IsIn x xs × (name x ≡ a)
  one_named [] a h = absurd (false≢true h)
  one_named (y ∷ ys) a h = go (or_cases (same_name (name y) a) (has_name (names name ys) a) h) (one_named ys a)
    where
      go : (same_name (name y) a ≡ true) ⊎ (has_name (names name ys) a ≡ true)
          → (has_name (names name ys) a ≡ true → (x : A) × IsIn x ys × (name x ≡ a)) → (x : A) × IsIn x (y ∷ ys) × (name x ≡ a)
      go (inl e) more = (y, inl refl, same_name-is (name y) a e)
      go (inr k) more = let r = more k in (r.0, inr r.1, r.2)

module _ {A : Type 0} (name : A → Name) (prev : A → List Name) (links : List A) where
  -- whatever is reached from a link of the list has a name there
  Holds : List A → Type 0
  Holds placed = (x : A) (n : ℕ) (a : Name) → IsIn x placed → is_before_within name prev n links a x ≡ true → has_name (names name placed) a ≡ true

  -- what is reached from a link that may stand next has a name among those placed
  reached : NamesDiffer name links → (placed : List A) → AllByRecursion (λ x. IsIn x links) placed → Holds placed → (x : A) → is_next name prev placed x ≡ true
      → (n : ℕ) (a : Name) → is_before_within name prev n links a x ≡ true → has_name (names name placed) a ≡ true
  unfolding Holds
  reached differ placed of holds x next zero a h = absurd (false≢true h)
  reached differ placed of holds x next (suc n) a h = go (or_cases (has_name (prev x) a) (list_any (is_before_within name prev n links a) (named name prev links (prev x))) h)
    where
      parents : list_all (has_name (names name placed)) (prev x) ≡ true
      parents = (and_parts (not (has_name (names name placed) (name x))) (list_all (has_name (names name placed)) (prev x)) next).1

      go : (has_name (prev x) a ≡ true) ⊎ (list_any (is_before_within name prev n links a) (named name prev links (prev x)) ≡ true) → has_name (names name placed) a ≡ true
      go (inl e) = all_names (has_name (names name placed)) (prev x) a parents e
      go (inr k) =
          let p = any_of (is_before_within name prev n links a) (named name prev links (prev x)) k in
          let here = of_filter (λ y. has_name (prev x) (name y)) p.0 links p.1 in
          let y = one_named name placed (name p.0) (all_names (has_name (names name placed)) (prev x) (name p.0) parents here.1) in
          let same : y.0 ≡ p.0 = differ y.0 p.0 (all_at (λ z. IsIn z links) placed of y.0 y.1) here.0 y.2 in
          holds y.0 n a y.1 (subst (λ z. is_before_within name prev n links a z ≡ true) (sym same) p.2)

  holds_more : NamesDiffer name links → (placed : List A) → AllByRecursion (λ x. IsIn x links) placed → Holds placed → (x : A) → is_next name prev placed x ≡ true → Holds (placed ++ x ∷ [])
  unfolding Holds
  holds_more differ placed of holds x next z n a k h =
      has_name-placed name prev links placed x a ∙ or_left (has_name (names name placed) a) (same_name (name x) a) (go (in_more placed x z k))
    where
      go : IsIn z placed ⊎ (x ≡ z) → has_name (names name placed) a ≡ true
      go (inl m) = holds z n a m h
      go (inr e) = reached differ placed of holds x next n a (subst (λ y. is_before_within name prev n links a y ≡ true) (sym e) h)

  NotOwn : A → Type 0
  NotOwn x = (n : ℕ) → is_before_within name prev n links (name x) x ≡ false

  none_own : NamesDiffer name links → (list placed : List A) → AllByRecursion (λ x. IsIn x links) placed → Holds placed → AllByRecursion (λ x. IsIn x links) list
      → ParentsFirst name prev placed list → AllByRecursion NotOwn list
  unfolding NotOwn
  none_own differ [] placed of holds in_links first = tt
  none_own differ (x ∷ xs) placed of holds in_links first =
      (own, none_own differ xs (placed ++ x ∷ []) (all_more (λ z. IsIn z links) placed x of in_links.0) (holds_more differ placed of holds x first.0) in_links.1 first.1)
    where
      own : (n : ℕ) → is_before_within name prev n links (name x) x ≡ false
      own n = go (is_before_within name prev n links (name x) x) refl
        where
          go : (b : Bool) → is_before_within name prev n links (name x) x ≡ b → b ≡ false
          go false e = refl
          go true e = absurd (false≢true (sym (not-true (has_name (names name placed) (name x)) (and_parts (not (has_name (names name placed) (name x))) (list_all (has_name (names name placed)) (prev x)) first.0).0)
              ∙ reached differ placed of holds x first.0 n (name x) e))

  filter_true : (xs : List A) → filter (λ x. true) xs ≡ xs
  filter_true [] = refl
  filter_true (x ∷ xs) = ap (λ l. x ∷ l) (filter_true xs)

  -- the past of a connected link has fewer links than the set
  pub past-shorter : NamesDiffer name links → (x : A) → IsIn x (order name prev links) → length (past name prev links x) < length links
  unfolding NotOwn Holds
  past-shorter differ x k =
      let a = (order_laws name prev links differ).0 in
      let own : (n : ℕ) → is_before_within name prev n links (name x) x ≡ false =
      all_at (λ y. (n : ℕ) → is_before_within name prev n links (name y) y ≡ false) (order name prev links)
      (none_own differ (order name prev links) [] tt (λ z n b m h. absurd m) a.of_links a.parents_first) x k in
      let of : IsIn x links = all_at (λ y. IsIn y links) (order name prev links) a.of_links x k in
      rw filter_true at (filter_shrinks (λ y. true) (λ y. is_before name prev links (name y) x) x links (λ y h. refl) of refl (own (length links)))

  holds_all : NamesDiffer name links → (list placed : List A) → AllByRecursion (λ x. IsIn x links) placed → Holds placed → AllByRecursion (λ x. IsIn x links) list
      → ParentsFirst name prev placed list → Holds (placed ++ list)
  holds_all differ [] placed of holds in_links first = subst Holds (sym (append-nil placed)) holds
  holds_all differ (x ∷ xs) placed of holds in_links first =
      subst Holds (append_assoc placed (x ∷ []) xs)
      (holds_all differ xs (placed ++ x ∷ []) (all_more (λ z. IsIn z links) placed x of in_links.0) (holds_more differ placed of holds x first.0) in_links.1 first.1)

  -- what is reached from a connected link is connected
  pub reached_connected : NamesDiffer name links → (x : A) → IsIn x (order name prev links) → (n : ℕ) (a : Name) → is_before_within name prev n links a x ≡ true
      → has_name (names name (order name prev links)) a ≡ true
  unfolding Holds
  reached_connected differ x k n a h =
      let arr = (order_laws name prev links differ).0 in
      holds_all differ (order name prev links) [] tt (λ z m b j g. absurd j) arr.of_links arr.parents_first x n a k h

  -- what is reached from a link that may stand next behind a list, parents first, has a name there
  pub reached_placed : NamesDiffer name links → (placed : List A) → AllByRecursion (λ x. IsIn x links) placed → ParentsFirst name prev [] placed → (x : A) → is_next name prev placed x ≡ true
      → (n : ℕ) (a : Name) → is_before_within name prev n links a x ≡ true → has_name (names name placed) a ≡ true
  unfolding Holds
  reached_placed differ placed of first x next n a h = reached differ placed of (holds_all differ placed [] tt (λ z m b j g. absurd j) of first) x next n a h
