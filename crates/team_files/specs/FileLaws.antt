-- A team file says one team and one set of links.
use Rattle.std.specs.Prelude.{◌≡◌, ℕ, List}
use Rattle.team_sets.specs.Names.{Name}
use Rattle.team_sets.specs.Members.{HaveSameMembers}
use Rattle.team_model.specs.declared.terms.Link.{Link}
use Rattle.link_text.specs.TeamFile.{IsFileOf}

-- what a file is the text of: the file of a set, read back, is that set
abbrev pub FileIsReadOnce : Type 0
FileIsReadOnce = (bytes : List ℕ) (t u : Name) (links others : List Link) → IsFileOf bytes t links → IsFileOf bytes u others → (t ≡ u) × HaveSameMembers links others
