-- A text that is written in parts.
use Rattle.std.proofs.Common.{◌≡◌, ℕ, List, ◌++◌, Result, Ok, Err, OnOk, ap, ◌∙◌, append_assoc}

-- where the last part is written too, all is
pub appends_last : {T E : Type 0} (result : Result T E) (old front back old_front new : List ℕ) → old_front ≡ old ++ front → OnOk result (new ≡ old_front ++ back)
    → OnOk result (new ≡ old ++ (front ++ back))
appends_last (Ok x) old front back old_front new begun e = e ∙ ap (λ (t : List ℕ). t ++ back) begun ∙ append_assoc old front back
appends_last (Err x) old front back old_front new begun e = tt
