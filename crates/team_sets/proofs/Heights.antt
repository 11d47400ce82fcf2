-- The heights of connected links are the same in any two sets that have the links behind them, by any number of steps that is
-- large enough.
use Rattle.std.proofs.Common.{◌≡◌, ℕ, zero, suc, ◌+◌, max, true, List, [], ◌∷◌, ◌++◌, append_assoc, append-nil, fold, refl, sym, ◌∙◌, ap, subst, length, ◌≤◌, arith}
use Rattle.std.specs.List.{AllByRecursion}
use Rattle.team_sets.specs.Names.{Name, has_name}
use Rattle.team_sets.specs.Members.{IsIn}
use Rattle.team_sets.specs.Order.{is_next, order}
use Rattle.team_sets.specs.Ancestry.{named, height_within}
use Rattle.team_sets.specs.AncestryLaws.{HasHeight}
use Rattle.team_sets.specs.OrderLaws.{ParentsFirst, NamesDiffer}
use Rattle.team_sets.proofs.Agree.{length-more, parent_placed}
use Rattle.team_sets.proofs.Ancestors.{of_order, order_first, order-le}
use Rattle.team_sets.proofs.OrderLeast.{in_filter, of_filter}
use Rattle.team_sets.proofs.Pasts.{all_at, all_more}
use Rattle.team_sets.proofs.SameSet.{most, most_over, most_within}

most_le : {A : Type 0} (f g : A → ℕ) (xs ys : List A) → ((x : A) → IsIn x xs → IsIn x ys × (f x ≡ g x)) → most f 0 xs ≤ most g 0 ys
most_le f g xs ys to =
    most_within f (most g 0 ys) 0 xs (omega arith)
    (λ x k. let there = to x k in let over : g x + 1 ≤ most g 0 ys = most_over g 0 ys x there.0 in let same : f x ≡ g x = there.1 in omega (arith, over, same))

most_one : {A : Type 0} (f g : A → ℕ) (xs ys : List A) → ((x : A) → IsIn x xs → IsIn x ys × (f x ≡ g x)) → ((x : A) → IsIn x ys → IsIn x xs × (g x ≡ f x)) → most f 0 xs ≡ most g 0 ys
most_one f g xs ys to back =
    let le : most f 0 xs ≤ most g 0 ys = most_le f g xs ys to in
    let ge : most g 0 ys ≤ most f 0 xs = most_le g f ys xs back in omega (arith, le, ge)

module _ {A : Type 0} (name : A → Name) (prev : A → List Name) where
  module _ (links others : List A) (differ : NamesDiffer name links) (apart : NamesDiffer name others) where
    -- one height in both sets, by any number of steps that is large enough
    IsOneHeight : ℕ → A → Type 0
    IsOneHeight d x = (n m : ℕ) → d ≤ n → d ≤ m → height_within name prev n links x ≡ height_within name prev m others x

    height_next : (placed : List A) → AllByRecursion (λ x. IsIn x links) placed → AllByRecursion (λ x. IsIn x others) placed → AllByRecursion (IsOneHeight (length placed)) placed
        → (x : A) → is_next name prev placed x ≡ true → IsOneHeight (suc (length placed)) x
    unfolding IsOneHeight most
    height_next placed of of_others ready x next zero m h k = absurd (omega arith)
    height_next placed of of_others ready x next (suc n) zero h k = absurd (omega arith)
    height_next placed of of_others ready x next (suc n) (suc m) h k =
        most_one (height_within name prev n links) (height_within name prev m others) (named name prev links (prev x)) (named name prev others (prev x)) forth back
      where
        same : (p : A) → IsIn p placed → height_within name prev n links p ≡ height_within name prev m others p
        same p j =
            all_at (λ w. (n m : ℕ) → length placed ≤ n → length placed ≤ m → height_within name prev n links w ≡ height_within name prev m others w)
            placed ready p j n m (omega arith) (omega arith)

        forth : (p : A) → IsIn p (named name prev links (prev x)) → IsIn p (named name prev others (prev x)) × (height_within name prev n links p ≡ height_within name prev m others p)
        forth p j =
            let here = parent_placed name prev links differ placed of x next p j in (
              in_filter (λ y. has_name (prev x) (name y)) p others (all_at (λ w. IsIn w others) placed of_others p here) (of_filter (λ y. has_name (prev x) (name y)) p links j).1,
              same p here,
            )

        back : (p : A) → IsIn p (named name prev others (prev x)) → IsIn p (named name prev links (prev x)) × (height_within name prev m others p ≡ height_within name prev n links p)
        back p j =
            let here = parent_placed name prev others apart placed of_others x next p j in (
              in_filter (λ y. has_name (prev x) (name y)) p links (all_at (λ w. IsIn w links) placed of p here) (of_filter (λ y. has_name (prev x) (name y)) p others j).1,
              sym (same p here),
            )

    weaker : (d : ℕ) (xs : List A) → AllByRecursion (IsOneHeight d) xs → AllByRecursion (IsOneHeight (suc d)) xs
    unfolding IsOneHeight
    weaker d [] all = tt
    weaker d (x ∷ xs) all = (λ n m h k. all.0 n m (omega arith) (omega arith), weaker d xs all.1)

    all_one : (list placed : List A) → AllByRecursion (λ x. IsIn x links) placed → AllByRecursion (λ x. IsIn x others) placed → AllByRecursion (IsOneHeight (length placed)) placed
        → AllByRecursion (λ x. IsIn x links) list → AllByRecursion (λ x. IsIn x others) list → ParentsFirst name prev placed list
        → AllByRecursion (IsOneHeight (length placed + length list)) (placed ++ list)
    all_one [] placed of of_others ready in_links in_others first =
        rw append-nil (subst (λ d. AllByRecursion (IsOneHeight d) placed) (let e : length placed ≡ length placed + 0 = omega arith in e) ready)
    all_one (x ∷ xs) placed of of_others ready in_links in_others first =
        let longer : length (placed ++ x ∷ []) ≡ suc (length placed) = length-more placed x in
        let rest = all_one xs (placed ++ x ∷ []) (all_more (λ w. IsIn w links) placed x of in_links.0) (all_more (λ w. IsIn w others) placed x of_others in_others.0)
        (subst (λ d. AllByRecursion (IsOneHeight d) (placed ++ x ∷ [])) (sym longer)
        (all_more (IsOneHeight (suc (length placed))) placed x (weaker (length placed) placed ready) (height_next placed of of_others ready x first.0)))
        in_links.1 in_others.1 first.1 in
        let sums : length (placed ++ x ∷ []) + length xs ≡ length placed + suc (length xs) = omega arith in
        subst (λ d. AllByRecursion (IsOneHeight d) (placed ++ x ∷ xs)) sums
        (subst (λ l. AllByRecursion (IsOneHeight (length (placed ++ x ∷ []) + length xs)) l) (append_assoc placed (x ∷ []) xs) rest)

    -- for the links of a list that both sets have, parents first
    pub same_heights : (list : List A) → AllByRecursion (λ x. IsIn x links) list → AllByRecursion (λ x. IsIn x others) list → ParentsFirst name prev [] list
        → (x : A) → IsIn x list → (n m : ℕ) → length list ≤ n → length list ≤ m → height_within name prev n links x ≡ height_within name prev m others x
    unfolding IsOneHeight
    same_heights list of of_others first x k n m h j =
        all_at (λ w. (n m : ℕ) → 0 + length list ≤ n → 0 + length list ≤ m → height_within name prev n links w ≡ height_within name prev m others w)
        list (all_one list [] tt tt tt of of_others first) x k n m (omega arith) (omega arith)

  none_named : (links : List A) → named name prev links [] ≡ []
  none_named [] = refl
  none_named (x ∷ xs) = none_named xs

  root_height : (links : List A) (n : ℕ) (x : A) → prev x ≡ [] → height_within name prev n links x ≡ 0
  root_height links zero x e = refl
  root_height links (suc n) x e =
      ap (λ l. fold (λ h p. max h (height_within name prev n links p + 1)) 0 l) (ap (λ ns. named name prev links ns) e ∙ none_named links)

  pub has_height : (links : List A) → NamesDiffer name links → (x : A) → IsIn x (order name prev links) → HasHeight name prev links x
  has_height links differ x k =
      let short : length (order name prev links) ≤ length links = order-le name prev links in
      let first = order_first name prev links differ in
      let of = of_order name prev links differ in record {
        root = root_height links (length links) x;
        parents = same_heights links links differ differ (order name prev links) of of first x k (length links) (suc (length links)) (omega (arith, short)) (omega (arith, short));
      }
