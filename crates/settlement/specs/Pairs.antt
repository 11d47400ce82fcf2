-- Strikes kept as a set of pairs of ids. Only private contracts cite these words.
use Rattle.std.specs.Prelude.{◌≡◌, ℕ, Bool, ◌&&◌, ◌==◌, List, Option, Some, None, find, if◌then◌else◌}
use Rattle.std.specs.HashSet.{HashSet, contains}
use Rattle.team_sets.specs.Settlement.{conflicts}
use Rattle.settlement.specs.declared.striker.Striker.{Striker}
use Rattle.settlement.specs.declared.striker.Decision.{Decision}
use Rattle.settlement.specs.declared.striker.Decision.TheVariants.{Stands, Struck, Lost}
use Rattle.settlement.specs.Ranks.{has_pair, is_senior}

abbrev pub same_pair : ℕ × ℕ → ℕ × ℕ → Bool
same_pair p q = (p.0 == q.0) && (p.1 == q.1)

-- the set has the pairs of the list
abbrev pub HasPairs : {S : Type 0} → List (ℕ × ℕ) → HashSet (ℕ × ℕ) S → Type 0
HasPairs pairs set = (a b : ℕ) → contains same_pair set (a, b) ≡ has_pair pairs a b

abbrev pub set_strikes : {S : Type 0} → HashSet (ℕ × ℕ) S → Striker → Striker → Bool
set_strikes set x y = contains same_pair set (x.id, y.id)

-- what is decided of y by the act at whose turn it leaves, if it does
abbrev pub decision_at : (Striker → Striker → Bool) → Striker → Option Striker → Decision
decision_at strikes y None = Stands
decision_at strikes y (Some x) = if strikes x y then Struck x.id else Lost x.id

abbrev pub decision_from : (Striker → Striker → Bool) → List Striker → Striker → Decision
decision_from strikes stood y = decision_at strikes y (find (λ x. conflicts is_senior strikes x y) stood)
