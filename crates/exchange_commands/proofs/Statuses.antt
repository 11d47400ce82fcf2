-- The statuses that items make.
use Rattle.std.proofs.Common.{ℕ, Bool, true, false, cond, [], ◌∷◌, Contains, refl, arith}

pub status_among : (refused : Bool) → Contains {X = ℕ} (0 ∷ 1 ∷ 3 ∷ []) (cond refused 1 0)
status_among true = (1, omega arith, refl)
status_among false = (0, omega arith, refl)
