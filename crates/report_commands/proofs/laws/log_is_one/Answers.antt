use Rattle.std.proofs.Common.{◌≡◌, ◌∙◌, sym}
use Rattle.team_report.specs.LogText.{log_text}
use Rattle.outcomes.specs.Steps.{saying}
use Rattle.outcomes.proofs.Opened.{opening_is_one}
use Rattle.openers.specs.Team.{FindsTeam}
use Rattle.report_commands.proofs.laws.log_is_one.Goals as goal

pub returns : goal.returns
returns c = λ file. opening_is_one FindsTeam file (λ held w o. o ≡ saying 0 (log_text held.links)) c.team_is_found_once.ensures (λ f held found w o p h k. h ∙ sym k)
