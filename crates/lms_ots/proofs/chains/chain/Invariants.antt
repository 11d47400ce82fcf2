use Rattle.std.proofs.Common.{◌≡◌, ◌-◌}
use Rattle.lms_ots.specs.Chains.{chain}
use Rattle.lms_ots.proofs.chains.chain.Given as goal

abbrev pub invariant-loop-j : goal.invariant-loop-j
invariant-loop-j l =
    chain l.id l.q l.i l.j (l.to - l.j) l.value ≡ chain l.id l.q l.i l.from (l.to - l.from) l.start
