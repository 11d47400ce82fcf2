use Rattle.outcomes.specs.Refusing.{opening}
use Rattle.outcomes.proofs.Opened.{opening_is_one}
use Rattle.openers.specs.Key.{FindsKey}
use Rattle.openers.specs.Team.{FindsTeam}
use Rattle.report_commands.specs.Keys.{IsKeysSaid}
use Rattle.report_commands.proofs.OpenedKeys.{one_said}
use Rattle.report_commands.proofs.laws.keys_is_one.Goals as goal

pub returns : goal.returns
returns c = λ keeper file key_file.
    opening_is_one FindsTeam file (λ held. opening FindsKey key_file (λ s. IsKeysSaid keeper held s)) c.team_is_found_once.ensures
    (λ f held found. opening_is_one FindsKey key_file (λ s. IsKeysSaid keeper held s) c.key_is_found_once.ensures (λ g s there. one_said keeper held s))
