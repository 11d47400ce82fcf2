-- What is found of a file that is to be a team's.
use Rattle.std.specs.Prelude.{◌≡◌, ℕ, List, Option, Some, None}
use Rattle.team_sets.specs.Names.{Name}
use Rattle.team_model.specs.declared.terms.Link.{Link}
use Rattle.link_text.specs.TeamFile.{IsFileOf}
use Rattle.link_graph.specs.Held.{Held}
use Rattle.link_intake.specs.Merged.{IsHeldIn}
use Rattle.outcomes.specs.Refusing.{Found, refuses, holds}
use Rattle.outcomes.specs.declared.refusing.FileWord.TheVariants.{NoFile, BadFile}

-- a team file must be there; its links stand in ascending order of names
abbrev pub FindsTeam : Option (List ℕ) → Found Held → Type 0
FindsTeam None (refuses word) = word ≡ NoFile
FindsTeam None (holds held) = ⊥
FindsTeam (Some bytes) (refuses word) = ((team : Name) (links : List Link) → ¬ (IsFileOf bytes team links)) × (word ≡ BadFile)
FindsTeam (Some bytes) (holds held) = IsHeldIn bytes held
