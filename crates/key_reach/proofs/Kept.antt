-- What isn't in a list is told by its members alone.
use Rattle.std.proofs.Common.{◌≡◌, Bool, not, List, filter}
use Rattle.team_sets.specs.Closure.{has}

-- lists with the same members
pub without-alike : {A : Type 0} (same : A → A → Bool) (known others : List A) → ((x : A) → has same known x ≡ has same others x) → (xs : List A)
    → filter (λ x. not (has same known x)) xs ≡ filter (λ x. not (has same others x)) xs
without-alike same known others alike xs = λ i. filter (λ x. not (alike x i)) xs
