use Rattle.std.proofs.Common.{◌≡◌, ◌*◌, ◌++◌, take, drop}
use Rattle.lms_ots.specs.Ots.{starts}
use Rattle.lms_ots.proofs.signatures.write_starts.Given as goal

abbrev pub invariant-loop-i : goal.invariant-loop-i
invariant-loop-i l =
    take (32 * l.i) l.out ++ starts l.kind l.id l.q l.digits l.i (drop l.i l.secrets) ≡ starts l.kind l.id l.q l.digits 0 l.secrets
