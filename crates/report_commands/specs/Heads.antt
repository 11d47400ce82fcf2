-- What `heads FILE` does.
use Rattle.std.specs.Prelude.{◌≡◌, ℕ, List}
use Rattle.outcomes.specs.Steps.{World, Outcome, saying}
use Rattle.outcomes.specs.Refusing.{opening}
use Rattle.openers.specs.Team.{FindsTeam}
use Rattle.team_report.specs.HeadsText.{heads_text}
use Rattle.team_words.specs.declared.command.Command.{Command}
use Rattle.team_words.specs.declared.command.Command.TheVariants.{Heads}

-- the heads of the links of a file are printed
abbrev pub lists_heads : List ℕ → World → Outcome → Type 0
lists_heads file = opening FindsTeam file (λ held w o. o ≡ saying 0 (heads_text held.links))

abbrev pub does_heads : Command → World → Outcome → Type 0
does_heads (Heads file) w o = lists_heads file w o
does_heads _ w o = ⊥
