-- The faults of reading, and when they come.
use Rattle.std.specs.Prelude.{◌≡◌, ◌≤◌, ℕ, false, List, length}
use Rattle.tg_text.specs.Limits.{most_link_bytes}
use Rattle.team_sets.specs.Names.{Name}
use Rattle.team_model.specs.declared.terms.Link.{Link}
use Rattle.link_text.specs.LinkText.{IsOfTeam, Reads, proves}
use Rattle.link_text.specs.declared.fault.LineFault.{LineFault}
use Rattle.link_text.specs.declared.fault.LineFault.TheVariants as line
use Rattle.link_text.specs.declared.fault.LinkFault.{LinkFault}
use Rattle.link_text.specs.declared.fault.LinkFault.TheVariants as of_link
use Rattle.link_text.specs.declared.fault.TeamLinkFault.{TeamLinkFault}
use Rattle.link_text.specs.declared.fault.TeamLinkFault.TheVariants as of_team
use Rattle.link_text.specs.declared.fault.TextFault.{TextFault}
use Rattle.link_text.specs.declared.fault.TextFault.TheVariants as of_text

-- The same fault, of the lines and of the text.
abbrev pub as_text_fault : LineFault → TextFault
as_text_fault line.BadText = of_text.BadText
as_text_fault line.Memory = of_text.Memory

-- The same fault, of the text and of the link.
abbrev pub as_link_fault : TextFault → LinkFault
as_link_fault of_text.TooLong = of_link.TooLong
as_link_fault of_text.BadText = of_link.BadText
as_link_fault of_text.Memory = of_link.Memory

-- The same fault, of the lines and of the link of a team.
abbrev pub as_team_fault : LineFault → TeamLinkFault
as_team_fault line.BadText = of_team.BadText
as_team_fault line.Memory = of_team.Memory

-- The bytes aren't too long, and are no link's text.
pub record IsBadText (bytes : List ℕ) : Type 0 where
  pub short : length bytes ≤ most_link_bytes
  pub no_link : (l : Link) → ¬ (Reads bytes l)

-- The bytes are the text of a link that doesn't prove what it says.
pub record IsUnproved (bytes : List ℕ) : Type 0 where
  pub link : Link
  pub reads : Reads bytes link
  pub unproved : proves link ≡ false

-- The bytes are the text of a link that isn't of the team.
pub record IsOfOther (team : Name) (bytes : List ℕ) : Type 0 where
  pub link : Link
  pub reads : Reads bytes link
  pub other : ¬ (IsOfTeam team link)

-- The bytes are the text of a link of the team that doesn't verify.
pub record IsUnverified (team : Name) (bytes : List ℕ) : Type 0 where
  pub link : Link
  pub reads : Reads bytes link
  pub of_team : IsOfTeam team link
  pub unproved : proves link ≡ false
