-- The nodes of a graph are there, and numbered arrows stay when they are sorted.
use Rattle.std.proofs.Common.{◌≡◌, ℕ, suc, ◌<◌, true, List, [], ◌∷◌, ◌++◌, sym, ◌∙◌, ap, subst, inl, inr, length, get_or, flat_map, drop, ◌+◌, Option, Some, append_assoc, drop-cons, add-one}
use Rattle.std.proofs.lemmas.Bool.{or_left}
use Rattle.std.proofs.lemmas.List.{map-append}
use Rattle.std.proofs.lemmas.List.Folds.{list_any-append}
use Rattle.std.specs.List.{All, slice_get}
use Rattle.std.specs.List.Sorted.{IsPermutation}
use Rattle.std.specs.Cmp.{IsTotalOrder}
use Rattle.std.specs.Ordering.{eq_by_cmp}
use Rattle.std.specs.declared.cmp.Ordering.{Ordering}
use Rattle.std.proofs.lemmas.List.Elements.{All-from_recursion, recursion_from_All}
use Rattle.std.proofs.lemmas.List.Sorted.{All-permutation, IsPermutation-sym}
use Rattle.team_sets.specs.Members.{IsIn, HaveSameMembers}
use Rattle.team_sets.specs.Closure.{has}
use Rattle.team_sets.proofs.Agree.{any_in}
use Rattle.team_sets.proofs.Pasts.{all_at}
use Rattle.team_sets.proofs.Sorted.{all_of}
use Rattle.key_reach.specs.Graphs.{arrows_with, ends, found_arrows}
use Rattle.key_reach.specs.Lists.{IsListOf}
use Rattle.key_reach.proofs.Numbered.{in-map, of-map, same-itself}

in-right : {A : Type 0} (xs ys : List A) (x : A) → IsIn x ys → IsIn x (xs ++ ys)
in-right [] ys x k = k
in-right (z ∷ zs) ys x k = inr (in-right zs ys x k)

-- both ends of an arrow are among the ends
tail-there : {A : Type 0} (arrows : List (A × A)) (a : A × A) → IsIn a arrows → IsIn a.0 (flat_map (λ b. b.0 ∷ b.1 ∷ []) arrows)
tail-there [] a k = absurd k
tail-there (b ∷ bs) a (inl e) = inl (ap (λ p. p.0) e)
tail-there (b ∷ bs) a (inr k) = inr (inr (tail-there bs a k))

head-there : {A : Type 0} (arrows : List (A × A)) (a : A × A) → IsIn a arrows → IsIn a.1 (flat_map (λ b. b.0 ∷ b.1 ∷ []) arrows)
head-there [] a k = absurd k
head-there (b ∷ bs) a (inl e) = inr (inl (ap (λ p. p.1) e))
head-there (b ∷ bs) a (inr k) = inr (inr (head-there bs a k))

module _ {A : Type 0} (cmp : A → A → Ordering) (order : IsTotalOrder cmp) where
  abbrev Both : List A → A × A → Type 0
  Both nodes a = (has (eq_by_cmp cmp) nodes a.0 ≡ true) × (has (eq_by_cmp cmp) nodes a.1 ≡ true)

  pub all-ends-there : (more : List A) (arrows : List (A × A)) (nodes : List A) → IsListOf cmp (ends more arrows) nodes
      → All (λ a. (has (eq_by_cmp cmp) nodes a.0 ≡ true) × (has (eq_by_cmp cmp) nodes a.1 ≡ true)) arrows
  all-ends-there more arrows nodes list = All-from_recursion (Both nodes) arrows (all_of (Both nodes) arrows both)
    where
      there : (x : A) → IsIn x (ends more arrows) → has (eq_by_cmp cmp) nodes x ≡ true
      there x k = list.exact x ∙ any_in (eq_by_cmp cmp x) (ends more arrows) x k (same-itself cmp order x)

      both : (a : A × A) → IsIn a arrows → Both nodes a
      both a k = (
        there a.0 (in-right more (flat_map (λ b. b.0 ∷ b.1 ∷ []) arrows) a.0 (tail-there arrows a k)),
        there a.1 (in-right more (flat_map (λ b. b.0 ∷ b.1 ∷ []) arrows) a.1 (head-there arrows a k)),
      )

module _ {A : Type 0} (cmp : A → A → Ordering) where
  pub more-there : (more : List A) (arrows : List (A × A)) (nodes : List A) → IsListOf cmp (ends more arrows) nodes → (x : A) → has (eq_by_cmp cmp) more x ≡ true → has (eq_by_cmp cmp) nodes x ≡ true
  more-there more arrows nodes list x h =
      let rest = flat_map (λ (b : A × A). b.0 ∷ b.1 ∷ []) arrows in
      list.exact x ∙ list_any-append (eq_by_cmp cmp x) more rest ∙ or_left (has (eq_by_cmp cmp) more x) (has (eq_by_cmp cmp) rest x) h

-- a list and its permutation have the same members
pub moved-in : {A : Type 0} (xs ys : List A) → IsPermutation xs ys → (x : A) → IsIn x ys → IsIn x xs
moved-in xs ys moved x k =
    all_at (λ y. IsIn y xs) ys (recursion_from_All (λ y. IsIn y xs) ys (All-permutation (λ y. IsIn y xs) xs ys moved (All-from_recursion (λ y. IsIn y xs) xs (all_of (λ y. IsIn y xs) xs (λ y j. j))))) x k

module _ {A : Type 0} (nodes : List A) where
  abbrev at : ℕ × ℕ → Option A × Option A
  at a = (slice_get nodes a.0, slice_get nodes a.1)

  pub names-kept : (arrows : List (A × A)) (numbers moved : List (ℕ × ℕ)) → arrows_with nodes numbers ≡ found_arrows arrows → IsPermutation numbers moved
      → HaveSameMembers (arrows_with nodes moved) (found_arrows arrows)
  names-kept arrows numbers moved named perm = record { forth = forth; back = back }
    where
      forth : (x : Option A × Option A) → IsIn x (arrows_with nodes moved) → IsIn x (found_arrows arrows)
      forth x k =
          let a = of-map at x moved k in
          subst (λ l. IsIn x l) named (subst (λ y. IsIn y (arrows_with nodes numbers)) a.2 (in-map at a.0 numbers (moved-in numbers moved perm a.0 a.1)))

      back : (x : Option A × Option A) → IsIn x (found_arrows arrows) → IsIn x (arrows_with nodes moved)
      back x k =
          let a = of-map at x numbers (subst (λ l. IsIn x l) (sym named) k) in
          subst (λ y. IsIn y (arrows_with nodes moved)) a.2 (in-map at a.0 moved (moved-in moved numbers (IsPermutation-sym numbers moved perm) a.0 a.1))

  pub named-next : (arrows : List (A × A)) (numbers more : List (ℕ × ℕ)) (i : ℕ) (arrow : A × A) (a : ℕ × ℕ) (whole : List (Option A × Option A))
      → i < length arrows → arrow ≡ get_or arrows i arrow → more ≡ numbers ++ a ∷ [] → slice_get nodes a.0 ≡ Some arrow.0 → slice_get nodes a.1 ≡ Some arrow.1
      → arrows_with nodes numbers ++ found_arrows (drop i arrows) ≡ whole → arrows_with nodes more ++ found_arrows (drop (i + 1) arrows) ≡ whole
  named-next arrows numbers more i arrow a whole lt is pushed tail head was =
      let rest = drop (i + 1) arrows in
      let here : at a ≡ (Some arrow.0, Some arrow.1) = λ j. (tail j, head j) in
      ap (λ l. arrows_with nodes l ++ found_arrows rest) pushed
      ∙ ap (λ l. l ++ found_arrows rest) (map-append at numbers (a ∷ []))
      ∙ append_assoc (arrows_with nodes numbers) (at a ∷ []) (found_arrows rest)
      ∙ ap (λ h. arrows_with nodes numbers ++ (h ∷ found_arrows rest)) here
      ∙ sym (ap (λ l. arrows_with nodes numbers ++ found_arrows l) (split_at arrows i arrow lt is)) ∙ was
    where
      split_at : (xs : List (A × A)) (k : ℕ) (x : A × A) → k < length xs → x ≡ get_or xs k x → drop k xs ≡ x ∷ drop (k + 1) xs
      split_at xs k x lt is = rw add-one (drop-cons xs k x lt ∙ ap (λ y. y ∷ drop (suc k) xs) (sym is))
