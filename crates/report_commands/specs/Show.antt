-- What `show FILE` does.
use Rattle.std.specs.Prelude.{◌≡◌, ℕ, List}
use Rattle.team_model.specs.ShowText.{show_text}
use Rattle.outcomes.specs.Steps.{World, Outcome, saying}
use Rattle.outcomes.specs.Refusing.{opening}
use Rattle.openers.specs.Team.{FindsTeam}
use Rattle.team_words.specs.declared.command.Command.{Command}
use Rattle.team_words.specs.declared.command.Command.TheVariants.{Show}

-- the text of the team of a file is printed
abbrev pub shows : List ℕ → World → Outcome → Type 0
shows file = opening FindsTeam file (λ held w o. o ≡ saying 0 (show_text held.team held.links))

abbrev pub does_show : Command → World → Outcome → Type 0
does_show (Show file) w o = shows file w o
does_show _ w o = ⊥
