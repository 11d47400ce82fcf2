-- What `log FILE` does.
use Rattle.std.specs.Prelude.{◌≡◌, ℕ, List}
use Rattle.outcomes.specs.Steps.{World, Outcome, saying}
use Rattle.outcomes.specs.Refusing.{opening}
use Rattle.openers.specs.Team.{FindsTeam}
use Rattle.team_report.specs.LogText.{log_text}
use Rattle.team_words.specs.declared.command.Command.{Command}
use Rattle.team_words.specs.declared.command.Command.TheVariants.{Log}

-- what became of each link of a file is printed
abbrev pub logs : List ℕ → World → Outcome → Type 0
logs file = opening FindsTeam file (λ held w o. o ≡ saying 0 (log_text held.links))

abbrev pub does_log : Command → World → Outcome → Type 0
does_log (Log file) w o = logs file w o
does_log _ w o = ⊥
