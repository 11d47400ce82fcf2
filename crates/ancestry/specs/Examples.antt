-- A diamond of four positions: 0, 1 and 2 with parent 0, 3 with parents 1 and 2.
use Rattle.std.specs.Prelude.{◌≡◌, ℕ, true, false, List, [], ◌∷◌}
use Rattle.ancestry.specs.Positions.{Parents, are_beside, comes_before, has_all_before, height_of, past_of}

abbrev pub diamond : Parents
diamond = [] ∷ (0 ∷ []) ∷ (0 ∷ []) ∷ (1 ∷ 2 ∷ []) ∷ []

abbrev pub DiamondRow : Type 0
DiamondRow =
    (comes_before diamond 0 3 ≡ true) × (comes_before diamond 3 0 ≡ false) × (are_beside diamond 1 2 ≡ true) × (are_beside diamond 1 1 ≡ false)
    × (past_of diamond 3 ≡ 0 ∷ 1 ∷ 2 ∷ []) × (has_all_before diamond 3 ≡ true) × (has_all_before diamond 2 ≡ false) × (height_of diamond 3 ≡ 2)
