-- Ancestors and heights depend on which links are in the set alone.
use Rattle.std.proofs.Common.{◌≡◌, ℕ, zero, suc, ◌+◌, max, Bool, true, false, not, ◌||◌, cond, List, [], ◌∷◌, filter, fold, refl, sym, ◌∙◌, ap, subst, inl, inr, length, ◌≤◌, ◌<◌, arith}
use Rattle.std.specs.List.{list_any, AllByRecursion, IsDistinct}
use Rattle.std.specs.Cmp.Lexicographic.{nat_list_eq_equiv}
use Rattle.std.proofs.lemmas.Bool.{or_left, or_right, not_from_false, not_from_true}
use Rattle.team_sets.specs.Names.{Name, same_name, has_name}
use Rattle.team_sets.specs.Members.{IsIn, HaveSameMembers}
use Rattle.team_sets.specs.Order.{names}
use Rattle.team_sets.specs.Ancestry.{named, is_before_within, is_before, past, height_within, height}
use Rattle.team_sets.specs.OrderLaws.{IsSet}
use Rattle.team_sets.proofs.OrderLeast.{in_filter, of_filter, filter_shrinks}
use Rattle.team_sets.proofs.Pasts.{any_of}
use Rattle.team_sets.proofs.Distinct.{apart}

pub same_bools : (a b : Bool) → (a ≡ true → b ≡ true) → (b ≡ true → a ≡ true) → a ≡ b
same_bools true true h k = refl
same_bools true false h k = sym (h refl)
same_bools false true h k = k refl
same_bools false false h k = refl

module _ {A : Type 0} where
  any_in : (p : A → Bool) (xs : List A) (x : A) → IsIn x xs → p x ≡ true → list_any p xs ≡ true
  any_in p [] x k e = absurd k
  any_in p (y ∷ ys) x (inl same) e = or_left (p y) (list_any p ys) (subst (λ z. p z ≡ true) (sym same) e)
  any_in p (y ∷ ys) x (inr k) e = or_right (p y) (list_any p ys) (any_in p ys x k e)

  any_among : (p q : A → Bool) (xs ys : List A) → ((x : A) → p x ≡ q x) → ((x : A) → IsIn x xs → IsIn x ys) → list_any p xs ≡ true → list_any q ys ≡ true
  any_among p q xs ys alike to h = let r = any_of p xs h in any_in q ys r.0 (to r.0 r.1) (sym (alike r.0) ∙ r.2)

  any_same : (p q : A → Bool) (xs ys : List A) → ((x : A) → p x ≡ q x) → ((x : A) → IsIn x xs → IsIn x ys) → ((x : A) → IsIn x ys → IsIn x xs) → list_any p xs ≡ list_any q ys
  any_same p q xs ys alike to back = same_bools (list_any p xs) (list_any q ys) (any_among p q xs ys alike to) (any_among q p ys xs (λ x. sym (alike x)) back)

  filter_among : (p q : A → Bool) (xs ys : List A) → ((x : A) → p x ≡ q x) → ((x : A) → IsIn x xs → IsIn x ys) → (x : A) → IsIn x (filter p xs) → IsIn x (filter q ys)
  filter_among p q xs ys alike to x k = let r = of_filter p x xs k in in_filter q x ys (to x r.0) (sym (alike x) ∙ r.1)

  -- one more than the greatest value of f in the list, and at least h
  unfoldable pub most : (A → ℕ) → ℕ → List A → ℕ
  most f h xs = fold (λ h x. max h (f x + 1)) h xs

  pub most_within : (f : A → ℕ) (b h : ℕ) (xs : List A) → h ≤ b → ((x : A) → IsIn x xs → f x + 1 ≤ b) → most f h xs ≤ b
  unfolding most
  most_within f b h [] k all = k
  most_within f b h (x ∷ xs) k all = let here : f x + 1 ≤ b = all x (inl refl) in most_within f b (max h (f x + 1)) xs (omega arith) (λ y j. all y (inr j))

  most_from : (f : A → ℕ) (h : ℕ) (xs : List A) → h ≤ most f h xs
  unfolding most
  most_from f h [] = omega arith
  most_from f h (x ∷ xs) = let more : max h (f x + 1) ≤ most f (max h (f x + 1)) xs = most_from f (max h (f x + 1)) xs in omega arith

  pub most_over : (f : A → ℕ) (h : ℕ) (xs : List A) (x : A) → IsIn x xs → f x + 1 ≤ most f h xs
  unfolding most
  most_over f h [] x k = absurd k
  most_over f h (y ∷ ys) x (inl e) =
      let more : max h (f y + 1) ≤ most f (max h (f y + 1)) ys = most_from f (max h (f y + 1)) ys in
      let same : f y ≡ f x = ap f e in omega arith
  most_over f h (y ∷ ys) x (inr k) = most_over f (max h (f y + 1)) ys x k

  most_among : (f g : A → ℕ) (xs ys : List A) → ((x : A) → f x ≡ g x) → ((x : A) → IsIn x xs → IsIn x ys) → most f 0 xs ≤ most g 0 ys
  most_among f g xs ys alike to =
      most_within f (most g 0 ys) 0 xs (omega arith) (λ x k. let over : g x + 1 ≤ most g 0 ys = most_over g 0 ys x (to x k) in let same : f x ≡ g x = alike x in omega arith)

  most_same : (f g : A → ℕ) (xs ys : List A) → ((x : A) → f x ≡ g x) → ((x : A) → IsIn x xs → IsIn x ys) → ((x : A) → IsIn x ys → IsIn x xs) → most f 0 xs ≡ most g 0 ys
  most_same f g xs ys alike to back =
      let le : most f 0 xs ≤ most g 0 ys = most_among f g xs ys alike to in
      let ge : most g 0 ys ≤ most f 0 xs = most_among g f ys xs (λ x. sym (alike x)) back in omega arith

  filter_all : (xs : List A) → filter (λ x. true) xs ≡ xs
  filter_all [] = refl
  filter_all (x ∷ xs) = ap (λ l. x ∷ l) (filter_all xs)

module _ {A : Type 0} (name : A → Name) where
  apart_filter : (n : Name) (p : A → Bool) (xs : List A) → AllByRecursion (λ m. same_name n m ≡ false) (names name xs) → AllByRecursion (λ m. same_name n m ≡ false) (names name (filter p xs))
  apart_filter n p [] d = tt
  apart_filter n p (x ∷ xs) d = go (p x) (apart_filter n p xs d.1)
    where
      go : (b : Bool) → AllByRecursion (λ m. same_name n m ≡ false) (names name (filter p xs)) → AllByRecursion (λ m. same_name n m ≡ false) (names name (cond b (x ∷ filter p xs) (filter p xs)))
      go true h = (d.0, h)
      go false h = h

  -- a part of a set is a set
  pub set-filter : (p : A → Bool) (xs : List A) → IsSet name xs → IsSet name (filter p xs)
  unfolding IsDistinct
  set-filter p [] d = tt
  set-filter p (x ∷ xs) d = go (p x) (set-filter p xs d.1)
    where
      go : (b : Bool) → IsSet name (filter p xs) → IsSet name (cond b (x ∷ filter p xs) (filter p xs))
      go true h = (apart_filter (name x) p xs d.0, h)
      go false h = h

  pub length_among : (xs ys : List A) → IsSet name xs → ((x : A) → IsIn x xs → IsIn x ys) → length xs ≤ length ys
  unfolding IsDistinct
  length_among [] ys d to = omega arith
  length_among (x ∷ xs) ys d to =
      let other : A → Bool = λ y. not (same_name (name x) (name y)) in
      let more : length xs ≤ length (filter other ys) =
      length_among xs (filter other ys) d.1 (λ y k. in_filter other y ys (to y (inr k)) (not_from_false (same_name (name x) (name y)) (apart name (name x) y xs d.0 k))) in
      let fewer : length (filter other ys) < length (filter (λ y. true) ys) =
      filter_shrinks (λ y. true) other x ys (λ y h. refl) (to x (inl refl)) refl (not_from_true (same_name (name x) (name x)) (nat_list_eq_equiv.refl (name x))) in
      let all : length (filter (λ y. true) ys) ≡ length ys = ap length (filter_all ys) in
      omega arith

  -- two lists of one set are of one length
  pub set-length : (xs ys : List A) → IsSet name xs → IsSet name ys → HaveSameMembers xs ys → length xs ≡ length ys
  set-length xs ys d e same =
      let le : length xs ≤ length ys = length_among xs ys d same.forth in
      let ge : length ys ≤ length xs = length_among ys xs e same.back in omega arith

module _ {A : Type 0} (name : A → Name) (prev : A → List Name) (links others : List A) (same : HaveSameMembers links others) where
  named_to : (ns : List Name) (x : A) → IsIn x (named name prev links ns) → IsIn x (named name prev others ns)
  named_to ns = filter_among (λ x. has_name ns (name x)) (λ x. has_name ns (name x)) links others (λ x. refl) same.forth

  named_back : (ns : List Name) (x : A) → IsIn x (named name prev others ns) → IsIn x (named name prev links ns)
  named_back ns = filter_among (λ x. has_name ns (name x)) (λ x. has_name ns (name x)) others links (λ x. refl) same.back

  within_alike : (n : ℕ) (a : Name) (x : A) → is_before_within name prev n links a x ≡ is_before_within name prev n others a x
  within_alike zero a x = refl
  within_alike (suc n) a x =
      ap (λ b. has_name (prev x) a || b)
      (any_same (is_before_within name prev n links a) (is_before_within name prev n others a) (named name prev links (prev x)) (named name prev others (prev x))
      (within_alike n a) (named_to (prev x)) (named_back (prev x)))

  heights_alike : (n : ℕ) (x : A) → height_within name prev n links x ≡ height_within name prev n others x
  unfolding most
  heights_alike zero x = refl
  heights_alike (suc n) x =
      most_same (height_within name prev n links) (height_within name prev n others) (named name prev links (prev x)) (named name prev others (prev x))
      (heights_alike n) (named_to (prev x)) (named_back (prev x))

  module _ (d : IsSet name links) (e : IsSet name others) where
    pub before-same : (a : Name) (x : A) → is_before name prev links a x ≡ is_before name prev others a x
    before-same a x = ap (λ n. is_before_within name prev n links a x) (set-length name links others d e same) ∙ within_alike (length others) a x

    pub height-same : (x : A) → height name prev links x ≡ height name prev others x
    height-same x = ap (λ n. height_within name prev n links x) (set-length name links others d e same) ∙ heights_alike (length others) x

    -- the past of a link has the same members
    pub past-same : (x : A) → HaveSameMembers (past name prev links x) (past name prev others x)
    past-same x =
        let mine : A → Bool = λ y. is_before name prev links (name y) x in
        let theirs : A → Bool = λ y. is_before name prev others (name y) x in
        record {
          forth = filter_among mine theirs links others (λ y. before-same (name y) x) same.forth;
          back = filter_among theirs mine others links (λ y. sym (before-same (name y) x)) same.back;
        }
