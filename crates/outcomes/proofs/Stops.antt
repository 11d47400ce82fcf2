-- What stops a body where a call failed.
use Rattle.std.proofs.Common.{◌≡◌, ◌≤◌, ◌∙◌, ℕ, IsErrAnd, Result, Ok, Err, refl, sym, ap, arith}
use Rattle.tg_outside.specs.Causes.{HasCauseOrMemory}
use Rattle.tg_outside.specs.declared.fault.Fault.{Fault}
use Rattle.tg_outside.specs.declared.fault.Fault.TheVariants as fault
use Rattle.outcomes.specs.declared.stop.Stop.{Stop}
use Rattle.outcomes.specs.declared.stop.Stop.TheVariants.{Failed, Memory}
use Rattle.outcomes.specs.Ending.{HasCauseOrStop, stop_of}

-- a fault that stops as a failure is one
failed_fault : (f : Fault) → stop_of f ≡ Failed → f ≡ fault.Failed
failed_fault fault.Failed e = refl
failed_fault fault.Memory e = absurd (let bad : ◌≡◌ {A = Stop} Memory Failed = e in cc)

stop_failed : {T : Type 0} (r : Result T Stop) (f : Fault) → IsErrAnd r (λ s. s ≡ stop_of f) → r ≡ Err Failed → f ≡ fault.Failed
stop_failed (Ok x) f is e = absurd is
stop_failed {T} (Err s) f is e = failed_fault f (sym is ∙ (let same : ◌≡◌ {A = Result T Stop} (Err s) (Err Failed) = e in cc))

-- two files were read, and a replace failed
pub replace_failed : {T U : Type 0} (a b c d : ℕ) (r : Result T Stop) (f : Fault) → IsErrAnd r (λ s. s ≡ stop_of f) → a ≤ b → b ≤ c → HasCauseOrMemory {T = U} c d (Err f) → HasCauseOrStop a d r
replace_failed {T} {U} a b c d r f is ab bc h = record {
  later = omega (arith, ab, bc, h.later);
  failed = λ e. let rose = h.failed (ap (λ (x : Fault). Err x) (stop_failed r f is e)) in omega (arith, ab, bc, rose);
}
