-- A set of numbers as marks, and as the list of its members.
use Rattle.std.proofs.Common.{◌≡◌, ℕ, ◌<◌, ◌≤◌, Bool, true, false, not, ◌&&◌, ◌||◌, List, [], ◌∷◌, ◌++◌, refl, sym, ◌∙◌, ap, inl, inr, ◌⊎◌, length, get_or, replicate, eqb, ◌≢◌}
use Rattle.std.specs.List.{All, IsDistinct}
use Rattle.std.proofs.lemmas.Bool.{false≢true, eq-eqb, cases_lt}
use Rattle.std.proofs.lemmas.Bool.Decides.{eqb_tells}
use Rattle.std.proofs.lemmas.List.{get_or-set_same, get_or-set_other, get_or_past, get_or-replicate, length-replicate}
use Rattle.std.proofs.lemmas.List.Folds.{list_any-append, list_any_at}
use Rattle.std.proofs.lemmas.Map.Keys.{IsDistinct-push}
use Rattle.std.proofs.lemmas.Map.Steps.{length-le_from_distinct_below}
use Rattle.std.proofs.Math.ListN.{set}
use Rattle.std.specs.Cmp.{nat_eq_equiv}
use Rattle.key_reach.specs.Numbers.{has_number, IsMarked}

same-number : (n : ℕ) → eqb n n ≡ true
same-number n = eq-eqb n n refl

has-at : (ms : List ℕ) (k d : ℕ) → k < length ms → has_number ms (get_or ms k d) ≡ true
has-at ms k d lt = list_any_at (eqb (get_or ms k d)) ms k d lt (same-number (get_or ms k d))

marked-past : (marks : List Bool) (i : ℕ) → get_or marks i false ≡ true → i < length marks
marked-past marks i h = go (cases_lt i (length marks))
  where
    go : (i < length marks) ⊎ (length marks ≤ i) → i < length marks
    go (inl lt) = lt
    go (inr le) = absurd (false≢true (sym (get_or_past marks i false le) ∙ h))

below : (marks : List Bool) (ms : List ℕ) → IsMarked marks ms → (i : ℕ) → has_number ms i ≡ true → i < length marks
below marks ms is i h = marked-past marks i (is.told i ∙ h)

pub members-below : (marks : List Bool) (ms : List ℕ) → IsMarked marks ms → All (λ n. n < length marks) ms
members-below marks ms is k d lt = below marks ms is (get_or ms k d) (has-at ms k d lt)

pub members-few : (marks : List Bool) (ms : List ℕ) → IsMarked marks ms → length ms ≤ length marks
members-few marks ms is = length-le_from_distinct_below ms (length marks) is.distinct (λ q h. below marks ms is q h)

pub marked-none : (n : ℕ) → IsMarked (replicate n false) []
unfolding IsDistinct
marked-none n = record { told = told; distinct = tt }
  where
    told : (i : ℕ) → get_or (replicate n false) i false ≡ false
    told i = go (cases_lt i n)
      where
        go : (i < n) ⊎ (n ≤ i) → get_or (replicate n false) i false ≡ false
        go (inl lt) = get_or-replicate n i false false lt
        go (inr le) = get_or_past (replicate n false) i false (rw length-replicate le)

or-true : (b : Bool) → (b || true) ≡ true
or-true true = refl
or-true false = refl

or-none : (b : Bool) → (b || false) ≡ b
or-none true = refl
or-none false = refl

pub marked-more : (marks : List Bool) (ms : List ℕ) (n : ℕ) → IsMarked marks ms → n < length marks → has_number ms n ≡ false → IsMarked (set marks n true) (ms ++ n ∷ [])
marked-more marks ms n is lt new = record {
  told = told;
  distinct = IsDistinct-push nat_eq_equiv ms n is.distinct new;
}
  where
    told : (i : ℕ) → get_or (set marks n true) i false ≡ has_number (ms ++ n ∷ []) i
    told i = rw (list_any-append (eqb i) ms (n ∷ [])) (go (eqb_tells i n))
      where
        go : ((eqb i n ≡ true) × (i ≡ n)) ⊎ ((eqb i n ≡ false) × (i ≢ n)) → get_or (set marks n true) i false ≡ (has_number ms i || (eqb i n || false))
        go (inl e) = rw (e.0, e.1, get_or-set_same marks n true false lt) (sym (or-true (has_number ms n)))
        go (inr e) = rw (e.0, get_or-set_other marks n i true false e.1, is.told i) (sym (or-none (has_number ms i)))

cleared : (b : Bool) → (b && not b) ≡ false
cleared true = refl
cleared false = refl

pub marked-cleared : (marks old : List Bool) (ms : List ℕ) → IsMarked old ms → ((i : ℕ) → get_or marks i false ≡ (get_or old i false && not (has_number ms i))) → IsMarked marks []
unfolding IsDistinct
marked-cleared marks old ms is each = record {
  told = λ i. each i ∙ ap (λ b. b && not (has_number ms i)) (is.told i) ∙ cleared (has_number ms i);
  distinct = tt;
}
