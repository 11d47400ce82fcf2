-- Names ascend where each is before the next.
use Rattle.std.proofs.Common.{◌≡◌, ℕ, zero, suc, ◌<◌, ◌≤◌, ◌+◌, ◌-◌, true, false, true≢false, List, [], ◌∷◌, length, get_or, IsTrue, arith, refl, sym, ap, ◌∙◌, ◌⊎◌, inl, inr}
use Rattle.std.proofs.Math.Nat.{eq-or-lt_of_le}
use Rattle.std.proofs.lemmas.List.{get_or_default}
use Rattle.team_sets.specs.Names.{Name, name_lt}
use Rattle.link_text.specs.LinkText.{Ascends}

pub ascends_all : (names : List Name) → ((k : ℕ) → suc k < length names → IsTrue (name_lt (get_or names k []) (get_or names (suc k) []))) → Ascends names
ascends_all [] each = tt
ascends_all (n ∷ []) each = tt
ascends_all (n ∷ m ∷ ms) each = (each zero (omega arith), ascends_all (m ∷ ms) (λ k lt. each (suc k) (omega (arith, lt))))

pub each_ascends : (names : List Name) → Ascends names → (k : ℕ) → suc k < length names → IsTrue (name_lt (get_or names k []) (get_or names (suc k) []))
each_ascends [] h k lt = absurd (omega (arith, lt))
each_ascends (n ∷ []) h k lt = absurd (omega (arith, lt))
each_ascends (n ∷ m ∷ ms) h zero lt = h.0
each_ascends (n ∷ m ∷ ms) h (suc k) lt = each_ascends (m ∷ ms) h.1 k (omega (arith, lt))

-- what is read at a place is what the list has there, whatever stands for a place past its end
read_at : (names : List Name) (i j : ℕ) (x : Name) → i ≡ j → j < length names → x ≡ get_or names j x → get_or names i [] ≡ x
read_at names i j x same lt is = ap (λ (k : ℕ). get_or names k []) same ∙ get_or_default names j [] x lt ∙ sym is

pub more : (names : List Name) (i : ℕ) (a b : Name) → ((k : ℕ) → suc k < i → IsTrue (name_lt (get_or names k []) (get_or names (suc k) []))) → 1 ≤ i → i < length names
    → a ≡ get_or names (i - 1) a → b ≡ get_or names i b → name_lt a b ≡ true → (k : ℕ) → suc k < i + 1 → IsTrue (name_lt (get_or names k []) (get_or names (suc k) []))
more names i a b before some lt at_a at_b less k under =
    by_place (eq-or-lt_of_le (let h : suc k ≤ i = omega (arith, under) in h))
  where
    by_place : (suc k ≡ i) ⊎ (suc k < i) → IsTrue (name_lt (get_or names k []) (get_or names (suc k) []))
    by_place (inr h) = before k h
    by_place (inl h) =
        let ea = read_at names k (i - 1) a (omega (arith, h)) (omega (arith, lt, some)) at_a in
        let eb = read_at names (suc k) i b h lt at_b in
        rw (ea, eb) less

pub stops : (names : List Name) (i : ℕ) (a b : Name) → 1 ≤ i → i < length names → a ≡ get_or names (i - 1) a → b ≡ get_or names i b → name_lt a b ≡ false → Ascends names → ⊥
stops names i a b some lt at_a at_b less h =
    let ea = read_at names (i - 1) (i - 1) a refl (omega (arith, lt, some)) at_a in
    let eb = read_at names (suc (i - 1)) i b (omega (arith, some)) lt at_b in
    let there = each_ascends names h (i - 1) (omega (arith, lt, some)) in
    true≢false (sym (rw (ea, eb) at there) ∙ less)
