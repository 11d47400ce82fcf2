-- A position has all others before it exactly where its ancestors are one fewer than there are positions.
use Rattle.std.proofs.Common.{◌≡◌, ℕ, zero, suc, ◌+◌, Bool, true, false, ◌&&◌, ◌||◌, cond, List, [], ◌∷◌, filter, refl, sym, ◌∙◌, ap, inl, inr, ◌⊎◌, length, ◌≤◌, ◌<◌, arith, eqb}
use Rattle.std.specs.List.{list_all, range_with_len}
use Rattle.std.proofs.lemmas.Bool.{cases_eq, eq-eqb, ne_eqb}
use Rattle.std.proofs.lemmas.List.FromFn.{length-range_with_len}
use Rattle.std.proofs.Math.Nat.{eq-or-lt_of_le}
use Rattle.team_sets.specs.Members.{IsIn}
use Rattle.team_sets.proofs.Lists.{filter_alike}
use Rattle.ancestry.specs.Positions.{Parents, comes_before, has_all_before, past_of}
use Rattle.ancestry.proofs.Nodes.{AreFirst}
use Rattle.ancestry.proofs.Pasts.{range-within, smaller}

filter-le : {A : Type 0} (p : A → Bool) (xs : List A) → length (filter p xs) ≤ length xs
filter-le p [] = omega arith
filter-le p (x ∷ xs) = go (p x) (filter-le p xs)
  where
    go : (b : Bool) → length (filter p xs) ≤ length xs → length (cond b (x ∷ filter p xs) (filter p xs)) ≤ suc (length xs)
    go true h = omega arith
    go false h = omega arith

eqb-suc : (a b : ℕ) → eqb (suc a) (suc b) ≡ eqb a b
eqb-suc a b = go (cases_eq a b)
  where
    go : (a ≡ b) ⊎ (a ≡ b → ⊥) → eqb (suc a) (suc b) ≡ eqb a b
    go (inl e) = rw (eq-eqb (suc a) (suc b) (ap suc e), eq-eqb a b e) refl
    go (inr ne) = rw (ne_eqb (suc a) (suc b) (λ same. ne (omega (arith, same))), ne_eqb a b ne) refl

-- all pass exactly where as many pass as there are
all-pass : {A : Type 0} (p : A → Bool) (xs : List A) → list_all p xs ≡ eqb (length (filter p xs)) (length xs)
all-pass p [] = refl
all-pass p (x ∷ xs) = go (p x) (all-pass p xs) (filter-le p xs)
  where
    go : (b : Bool) → list_all p xs ≡ eqb (length (filter p xs)) (length xs) → length (filter p xs) ≤ length xs
        → (b && list_all p xs) ≡ eqb (length (cond b (x ∷ filter p xs) (filter p xs))) (suc (length xs))
    go true e le = e ∙ sym (eqb-suc (length (filter p xs)) (length xs))
    go false e le = sym (ne_eqb (length (filter p xs)) (suc (length xs)) (λ same. absurd (omega (arith, same, le))))

-- one more passes where b does too
one-more : (q : ℕ → Bool) (b : ℕ) → q b ≡ false → (k n : ℕ) → k ≤ b → b < k + n
    → length (filter (λ a. eqb a b || q a) (range_with_len k n)) ≡ length (filter q (range_with_len k n)) + 1
one-more q b fails k zero low high = absurd (omega (arith, low, high))
one-more q b fails k (suc n) low high = go (eq-or-lt_of_le low) (one-more q b fails (k + 1) n)
  where
    later : k ≡ b → (a : ℕ) → IsIn a (range_with_len (k + 1) n) → (eqb a b || q a) ≡ q a
    later e a j = let m : k + 1 ≤ a = (range-within (k + 1) n a j).0 in ap (λ r. r || q a) (ne_eqb a b (λ same. absurd (omega (arith, m, same, e))))

    rest : (c d : Bool) → c ≡ d → length (filter (λ a. eqb a b || q a) (range_with_len (k + 1) n)) ≡ length (filter q (range_with_len (k + 1) n)) + 1
        → length (cond c (k ∷ filter (λ a. eqb a b || q a) (range_with_len (k + 1) n)) (filter (λ a. eqb a b || q a) (range_with_len (k + 1) n)))
        ≡ length (cond d (k ∷ filter q (range_with_len (k + 1) n)) (filter q (range_with_len (k + 1) n))) + 1
    rest c true e h = rw e (ap suc h ∙ (let z : suc (length (filter q (range_with_len (k + 1) n)) + 1) ≡ suc (length (filter q (range_with_len (k + 1) n))) + 1 = omega arith in z))
    rest c false e h = rw e h

    go : (k ≡ b) ⊎ (k < b) → (k + 1 ≤ b → b < (k + 1) + n → length (filter (λ a. eqb a b || q a) (range_with_len (k + 1) n)) ≡ length (filter q (range_with_len (k + 1) n)) + 1)
        → length (filter (λ a. eqb a b || q a) (range_with_len k (suc n))) ≡ length (filter q (range_with_len k (suc n))) + 1
    go (inl e) more =
        rw (eq-eqb k b e, ap q e ∙ fails)
        (ap suc (ap length (filter_alike (λ a. eqb a b || q a) q (range_with_len (k + 1) n) (later e)))
        ∙ (let z : suc (length (filter q (range_with_len (k + 1) n))) ≡ length (filter q (range_with_len (k + 1) n)) + 1 = omega arith in z))
    go (inr less) more = rest (eqb k b || q k) (q k) (ap (λ r. r || q k) (ne_eqb k b (λ same. absurd (omega (arith, same, less))))) (more (omega (arith, less)) (omega (arith, high)))

pub all-before : (graph : Parents) → AreFirst graph → (b : ℕ) → b < length graph → has_all_before graph b ≡ eqb (length (past_of graph b) + 1) (length graph)
all-before graph first b lt =
    all-pass (λ a. eqb a b || comes_before graph a b) (range_with_len 0 (length graph))
    ∙ ap (λ n. eqb n (length (range_with_len 0 (length graph)))) (one-more (λ a. comes_before graph a b) b (self (comes_before graph b b) refl) 0 (length graph) (omega arith) (omega (arith, lt)))
    ∙ ap (λ n. eqb (length (past_of graph b) + 1) n) (length-range_with_len 0 (length graph))
  where
    self : (r : Bool) → comes_before graph b b ≡ r → comes_before graph b b ≡ false
    self false e = e
    self true e = let less : b < b = smaller graph first b lt b e in absurd (omega (arith, less))
