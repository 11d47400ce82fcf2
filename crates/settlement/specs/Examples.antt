-- Three acts in a ring of strikes, in falling seniority: 1 strikes 2, 2 strikes 3, 3 strikes 1.
use Rattle.std.specs.Prelude.{◌≡◌, ℕ, List, [], ◌∷◌, map}
use Rattle.settlement.specs.declared.striker.Place.{Place}
use Rattle.settlement.specs.declared.striker.Striker.{Striker}
use Rattle.settlement.specs.declared.striker.Decision.TheVariants.{Stands, Struck, Lost}
use Rattle.settlement.specs.Ranks.{decision_of}

abbrev place : ℕ → ℕ → Place
place h n = record { height = h; name = n ∷ [] }

-- an act by the user of a number, who came at the height of that number
abbrev act : ℕ → ℕ → Striker
act n since = record { id = n; by = n; since = place since 0; place = place 9 n }

abbrev ring : List (ℕ × ℕ)
ring = (1, 2) ∷ (2, 3) ∷ (3, 1) ∷ []

-- with 1 the most senior, and with 2 the most senior
abbrev pub RingRow : Type 0
RingRow =
    (map (decision_of ring (act 1 1 ∷ act 2 2 ∷ act 3 3 ∷ [])) (act 1 1 ∷ act 2 2 ∷ act 3 3 ∷ []) ≡ Stands ∷ Struck 1 ∷ Lost 1 ∷ [])
    × (map (decision_of ring (act 1 1 ∷ act 2 0 ∷ act 3 3 ∷ [])) (act 1 1 ∷ act 2 0 ∷ act 3 3 ∷ []) ≡ Lost 2 ∷ Stands ∷ Struck 2 ∷ [])
