-- Why a text isn't taken. Only private contracts cite it.
use Rattle.std.specs.Prelude.{◌≡◌, ◌≤◌, ◌<◌, ℕ, true, List, length}
use Rattle.tg_text.specs.Limits.{most_link_bytes}
use Rattle.team_sets.specs.Names.{has_name}
use Rattle.team_sets.specs.Order.{names}
use Rattle.team_model.specs.Judging.{name_of}
use Rattle.team_model.specs.declared.terms.Link.{Link}
use Rattle.link_text.specs.Faults.{IsBadText, IsOfOther, IsUnverified}
use Rattle.link_text.specs.TeamFile.{file_text}
use Rattle.link_graph.specs.Held.{Held}
use Rattle.link_graph.specs.Taking.{Clashes, HasSpace, IsFresh, IsFull}
use Rattle.link_graph.specs.declared.take_fault.TakeFault.{TakeFault}
use Rattle.link_graph.specs.declared.take_fault.TakeFault.TheVariants.{TooLong, BadText, OtherTeam, BadSignature, NameClash, Full, Memory}

-- The fault's cause holds. Memory is short of a text only that isn't too long.
abbrev pub IsCaused : Held → List ℕ → TakeFault → Type 0
IsCaused old bytes TooLong = most_link_bytes < length bytes
IsCaused old bytes BadText = IsBadText bytes
IsCaused old bytes OtherTeam = IsOfOther old.team bytes
IsCaused old bytes BadSignature = IsUnverified old.team bytes
IsCaused old bytes (NameClash n) = Clashes old bytes n
IsCaused old bytes (Full held size) = IsFull old bytes held size
IsCaused old bytes Memory = length bytes ≤ most_link_bytes

-- There is no room for a link, or its name is taken.
abbrev pub IsRoomFault : Held → Link → TakeFault → Type 0
IsRoomFault old l TooLong = ⊥
IsRoomFault old l BadText = ⊥
IsRoomFault old l OtherTeam = ⊥
IsRoomFault old l BadSignature = ⊥
IsRoomFault old l (NameClash n) = (has_name (names name_of old.links) l.name ≡ true) × (n ≡ l.name)
IsRoomFault old l (Full held size) = IsFresh old.links l × (¬ (HasSpace old.team old.links l)) × (held ≡ length old.links) × (size ≡ length (file_text old.team old.links))
IsRoomFault old l Memory = ⊥
