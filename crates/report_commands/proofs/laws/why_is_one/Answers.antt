use Rattle.std.proofs.Common.{◌≡◌, ◌∙◌, sym}
use Rattle.outcomes.proofs.Opened.{opening_is_one}
use Rattle.openers.specs.Team.{FindsTeam}
use Rattle.report_commands.specs.Why.{explaining}
use Rattle.report_commands.proofs.laws.why_is_one.Goals as goal

pub returns : goal.returns
returns c = λ file name. opening_is_one FindsTeam file (λ held w o. o ≡ explaining held.links name) c.team_is_found_once.ensures (λ f held found w o p h k. h ∙ sym k)
