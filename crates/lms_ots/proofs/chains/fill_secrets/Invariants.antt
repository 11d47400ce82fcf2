use Rattle.std.proofs.Common.{◌≡◌, ◌-◌, ◌++◌, take}
use Rattle.lms_ots.specs.Kinds.{ots_row}
use Rattle.lms_ots.specs.Chains.{secrets_from}
use Rattle.lms_ots.proofs.chains.fill_secrets.Given as goal

abbrev pub invariant-loop-i : goal.invariant-loop-i
invariant-loop-i l =
    let p = (ots_row l.fn.kind).p in
    take l.i l.secrets ++ secrets_from l.id l.q l.seed l.i (p - l.i) ≡ secrets_from l.id l.q l.seed 0 p
