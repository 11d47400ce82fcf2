use Rattle.std.proofs.Common.{refl}
use Rattle.team_model.specs.KeyLines.{lined, with_lines}
use Rattle.team_model.proofs.laws.worked_invitations.Goals as goal

pub returns-clause-invitations : goal.returns-clause-invitations
unfolding lined with_lines
returns-clause-invitations c = (refl, refl, refl)

pub returns-clause-once : goal.returns-clause-once
unfolding lined with_lines
returns-clause-once c = (refl, refl)

pub returns-clause-many : goal.returns-clause-many
unfolding lined with_lines
returns-clause-many c = (refl, refl)

pub returns-clause-revocations : goal.returns-clause-revocations
unfolding lined with_lines
returns-clause-revocations c = (refl, refl, refl, refl, refl)
