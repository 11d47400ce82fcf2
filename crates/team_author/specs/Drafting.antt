-- What a draft is, and when there is room for the link that it becomes.
use Rattle.std.specs.Prelude.{◌≤◌, ◌<◌, ◌+◌, ℕ, List, length}
use Rattle.tg_text.specs.Limits.{most_file_bytes, most_links}
use Rattle.tg_text.specs.Spelling.{AreBytes}
use Rattle.team_sets.specs.Names.{Name}
use Rattle.link_text.specs.Drafts.{link_of}
use Rattle.link_text.specs.LinkText.{IsWellFormed}
use Rattle.link_text.specs.TeamFile.{file_text}
use Rattle.link_text.specs.declared.draft.Draft.{Draft}
use Rattle.link_graph.specs.Held.{Held}
use Rattle.team_author.specs.Planning.{greatest_frame}

-- how many bytes a signature of RFC 8554 has at most: that of LMS type 9 and LM-OTS type 1
abbrev pub most_signature_bytes : ℕ
most_signature_bytes = 9324

-- a well-formed link but for its signature: whatever bytes sign it, no more than a signature may have, and whatever its name then is
abbrev pub IsDraft : Draft → Type 0
IsDraft d = (signature : List ℕ) (name : Name) → AreBytes signature → length signature ≤ most_signature_bytes → IsWellFormed (link_of d signature name)

-- there is room for the greatest link
pub record HasRoom (held : Held) : Type 0 where
  pub few : length held.links < most_links
  pub short : length (file_text held.team held.links) + greatest_frame ≤ most_file_bytes
