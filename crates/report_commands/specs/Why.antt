-- What `why FILE NAME` does.
use Rattle.std.specs.Prelude.{◌≡◌, ℕ, List, [], ◌∷◌, codes}
use Rattle.std.specs.Option.{option_map_or}
use Rattle.tg_text.specs.Spelling.{line_of}
use Rattle.team_sets.specs.Names.{Name}
use Rattle.team_model.specs.declared.terms.Link.{Link}
use Rattle.outcomes.specs.Steps.{World, Outcome, saying}
use Rattle.outcomes.specs.Refusing.{opening}
use Rattle.openers.specs.Team.{FindsTeam}
use Rattle.team_report.specs.WhyText.{why_named}
use Rattle.team_words.specs.declared.command.Command.{Command}
use Rattle.team_words.specs.declared.command.Command.TheVariants.{Why}

abbrev pub not_held : List ℕ
not_held = line_of (codes "fault" ∷ codes "NotHeld" ∷ [])

-- What is known of the link of a name is printed. A name that no held link has is refused.
abbrev pub explaining : List Link → Name → Outcome
explaining links n = option_map_or (λ text. saying 0 text) (why_named links n) (saying 4 not_held)

abbrev pub explains : List ℕ → Name → World → Outcome → Type 0
explains file name = opening FindsTeam file (λ held w o. o ≡ explaining held.links name)

abbrev pub does_why : Command → World → Outcome → Type 0
does_why (Why file name) w o = explains file name w o
does_why _ w o = ⊥
