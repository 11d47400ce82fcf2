use Rattle.std.proofs.Common.{arith}
use Rattle.std.proofs.lemmas.Grind.{common_steps}
use Rattle.team_sets.proofs.Standing.{standing-pass}
use Rattle.settlement.proofs.settling.standing_of.Goals as goal

pub returns : goal.returns
returns c = rw standing-pass (grind (arith, common_steps, c.in_ok-ranked.ensures))
