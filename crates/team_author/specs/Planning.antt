-- What is planned of an act without key lines, by a key, at a time.
use Rattle.std.specs.Prelude.{◌≡◌, ℕ, ◌+◌, Bool, ◌||◌, nat_le, nat_lt, if◌then◌else◌, List, [], length, take, Option, Some, None, Result, Ok, Err}
use Rattle.sha2.specs.Sha256.{sha256}
use Rattle.tg_text.specs.Limits.{most_file_bytes, most_link_bytes, most_links}
use Rattle.team_sets.specs.Names.{Name}
use Rattle.acts.specs.declared.entry.Act.{Act}
use Rattle.acts.specs.declared.entry.Entry.{Entry}
use Rattle.team_model.specs.ActTable.{is_found, refusal}
use Rattle.team_model.specs.Judging.{team, team_rules}
use Rattle.team_model.specs.State.{State}
use Rattle.team_model.specs.declared.terms.Link.{Link}
use Rattle.team_model.specs.declared.terms.Reason.{Reason}
use Rattle.lms_keep.specs.declared.key_state.KeyState.{KeyState}
use Rattle.link_text.specs.TeamFile.{file_text}
use Rattle.link_text.specs.declared.draft.Draft.{Draft}
use Rattle.link_graph.specs.Heads.{heads_of}
use Rattle.link_graph.specs.Held.{Held}
use Rattle.replica.specs.Below.{with_pasts}
use Rattle.team_author.specs.declared.plan_fault.PlanFault.{PlanFault}
use Rattle.team_author.specs.declared.plan_fault.PlanFault.TheVariants.{Full, NotPermitted, Memory}

-- how many parents a link has at most
abbrev pub most_parents : ℕ
most_parents = 64

-- how many bytes the text of a planned act has at most
abbrev pub most_act_bytes : ℕ
most_act_bytes = 65536

-- how many bytes the frame of the greatest link has: those of the line `link 1048576`, and of the link's text
abbrev pub greatest_frame : ℕ
greatest_frame = 13 + most_link_bytes

-- the parents of the next link: the heads, or the least of them
abbrev pub parents_of : List Link → List Name
parents_of links = take most_parents (heads_of links)

-- the state in which its act has to be permitted: the team of its parents with their pasts
abbrev pub base_of : List Link → State
base_of links = team team_rules (with_pasts links (parents_of links))

-- there may be no room for one more link
abbrev pub is_full : Held → Bool
is_full held = nat_le most_links (length held.links) || nat_lt most_file_bytes (length (file_text held.team held.links) + greatest_frame)

-- the act with its author and its time, without key lines
abbrev pub entry_of : KeyState → List ℕ → Act → ℕ → Entry
entry_of s key act time = record { user = s.user; device = sha256 key; time = time; act = act; lines = record { news = []; boxes = [] } }

-- The link before it is signed. One that founds a team names neither the team nor parents.
abbrev pub draft_of : Held → List ℕ → Entry → Draft
draft_of held key entry =
    if is_found entry.act then record { team = None; prev = []; key = key; entry = entry }
    else record { team = Some held.team; prev = parents_of held.links; key = key; entry = entry }

abbrev pub by_refusal : Held → List ℕ → Entry → Option Reason → Result Draft PlanFault
by_refusal held key entry (Some reason) = Err (NotPermitted reason)
by_refusal held key entry None = Ok (draft_of held key entry)

-- what is planned: `Full` comes first, and then the reason why the act is refused
abbrev pub planned : Held → KeyState → List ℕ → Act → ℕ → Result Draft PlanFault
planned held s key act time =
    if is_full held then Err Full else by_refusal held key (entry_of s key act time) (refusal (base_of held.links) (entry_of s key act time))

-- this is answered, unless memory is short
abbrev pub IsPlanned : Result Draft PlanFault → Result Draft PlanFault → Type 0
IsPlanned plan (Ok draft) = plan ≡ Ok draft
IsPlanned plan (Err Full) = plan ≡ Err Full
IsPlanned plan (Err (NotPermitted reason)) = plan ≡ Err (NotPermitted reason)
IsPlanned plan (Err Memory) = Unit {0}
