-- What each command needs of the files that it names, and how it ends where they are so and nothing fails.
use Rattle.std.specs.Prelude.{◌≡◌, ◌⊎◌, ℕ, Bool, true, false, if◌then◌else◌, nat_lt, List, Option, Some, None, is_some, Result, Ok, Err}
use Rattle.std.specs.FinMap as fin
use Rattle.tg_outside.specs.Contents.{FileMap}
use Rattle.acts.specs.declared.entry.Act.{Act}
use Rattle.team_sets.specs.Names.{Name, same_name}
use Rattle.lms_tree.specs.Signatures.{public_key}
use Rattle.lms_keep.specs.KeyText.{IsKeyFile, leaves}
use Rattle.lms_keep.specs.Signing.{tree_key}
use Rattle.lms_keep.specs.declared.key_state.KeyState.{KeyState}
use Rattle.link_text.specs.TeamFile.{IsFileOf}
use Rattle.link_text.specs.declared.draft.Draft.{Draft}
use Rattle.link_graph.specs.Held.{Held}
use Rattle.link_intake.specs.declared.item_result.ItemResult.{ItemResult}
use Rattle.link_intake.specs.Merged.{IsMerged}
use Rattle.link_intake.specs.ResultsText.{results_status}
use Rattle.head_sync.specs.Meetings.{IsMet}
use Rattle.head_sync.specs.declared.meeting.Met.{Met}
use Rattle.lockboxes.specs.Keeping.{Keeper}
use Rattle.outcomes.specs.Refusing.{holds}
use Rattle.outcomes.specs.Seeing.{AreKnown, Contents, Counts, Rises}
use Rattle.outcomes.specs.Steps.{World, Outcome}
use Rattle.team_words.specs.declared.command.Command.{Command}
use Rattle.team_words.specs.declared.command.Command.TheVariants.{Heads, Keys, Log, Make, Meet, Merge, Newkey, Plain, Show, Why}
use Rattle.openers.specs.Key.{FindsKey}
use Rattle.openers.specs.Team.{FindsTeam}
use Rattle.team_report.specs.WhyText.{link_named}
use Rattle.team_author.specs.Planning.{planned}
use Rattle.team_author.specs.declared.plan_fault.PlanFault.{PlanFault}
use Rattle.author_commands.specs.Authoring.{found_text, signature_by}
use Rattle.author_commands.specs.Signing.{authored}
use Rattle.exchange_commands.specs.Meet.{met_status}
use Rattle.team_run.specs.Running.{does}

-- the file is there, and is the team file of these links
abbrev pub HoldsTeam : FileMap → List ℕ → Held → Type 0
HoldsTeam files name held = (bytes : List ℕ) × (fin.get files name ≡ Some bytes) × IsFileOf bytes held.team held.links

abbrev pub IsTeamFile : World → List ℕ → Type 0
IsTeamFile w name = (held : Held) × HoldsTeam w.files name held

abbrev pub IsThere : World → List ℕ → Type 0
IsThere w name = (bytes : List ℕ) × (fin.get w.files name ≡ Some bytes)

abbrev pub IsAbsent : World → List ℕ → Type 0
IsAbsent w name = fin.get w.files name ≡ None

-- the file is there, and is that of a key
abbrev pub IsKeyThere : World → List ℕ → Type 0
IsKeyThere w name = (s : KeyState) × (bytes : List ℕ) × (fin.get w.files name ≡ Some bytes) × IsKeyFile bytes s

-- the files that a command names are as it needs them
abbrev pub Serves : Command → World → Type 0
Serves (Make file key_file user title) w = IsAbsent w file × IsAbsent w key_file
Serves (Newkey key_file user) w = IsAbsent w key_file
Serves (Plain file key_file act) w = IsTeamFile w file × IsKeyThere w key_file
Serves (Merge file bundle) w = IsTeamFile w file × IsThere w bundle
Serves (Meet file other) w = IsTeamFile w file × IsTeamFile w other
Serves (Show file) w = IsTeamFile w file
Serves (Log file) w = IsTeamFile w file
Serves (Heads file) w = IsTeamFile w file
Serves (Why file name) w = IsTeamFile w file
Serves (Keys file key_file) w = IsTeamFile w file × IsKeyThere w key_file

-- The bundle is merged into the file, and the status is 1 exactly where an item of it is refused, else 0.
pub record EndsByItems (w : World) (file bundle : List ℕ) (status : ℕ) : Type 0 where
  pub bytes : List ℕ
  pub given : List ℕ
  pub new : Held
  pub results : List ItemResult
  pub held : fin.get w.files file ≡ Some bytes
  pub bundled : fin.get w.files bundle ≡ Some given
  pub merged : IsMerged bytes given new results
  pub ends : status ≡ results_status results

-- 4 where another text has the name of the link that was signed, and else 0
abbrev pub clash_status : Option Bool → ℕ
clash_status (Some false) = 4
clash_status _ = 0

-- 4 where nothing is planned, or the names clash
abbrev pub plan_status : Held → KeyState → Result Draft PlanFault → ℕ
plan_status held s (Err fault) = 4
plan_status held s (Ok d) = clash_status (found_text held (authored d (signature_by s d)))

-- 4 where each leaf of the key has signed, nothing is planned, or the names clash
abbrev pub plain_status : Held → KeyState → Act → ℕ → ℕ
plain_status held s act time = if nat_lt s.next (leaves s.lms) then plan_status held s (planned held s (public_key (tree_key s)) act time) else 4

-- The act is planned of the links of the file by the key of the other, and the status is 4 exactly where the rules refuse it, else 0.
pub record EndsByPlan (w : World) (file key_file : List ℕ) (act : Act) (status : ℕ) : Type 0 where
  pub held : Held
  pub key : KeyState
  pub in_file : FindsTeam (fin.get w.files file) (holds held)
  pub in_key_file : FindsKey (fin.get w.files key_file) (holds key)
  pub ends : status ≡ plain_status held key act w.moment

-- The file holds these links, and the status is 0 exactly where one of them has the name, else 4.
pub record EndsByName (w : World) (file : List ℕ) (name : Name) (status : ℕ) : Type 0 where
  pub held : Held
  pub in_file : FindsTeam (fin.get w.files file) (holds held)
  pub ends : status ≡ (if is_some (link_named held.links name) then 0 else 4)

-- of one team the two meet, and the status is 1 exactly where one of them refuses a link, else 0; of two teams it is 4
abbrev pub EndsMet : Bool → Held → Held → ℕ → Type 0
EndsMet true one two status = (kept : Held) × (given : Held) × (m : Met) × IsMet one two kept given m × (status ≡ met_status m)
EndsMet false one two status = status ≡ 4

-- The links of the two files are those of one team, which meet, or of two teams.
pub record EndsByMeeting (w : World) (file other : List ℕ) (status : ℕ) : Type 0 where
  pub one : Held
  pub two : Held
  pub in_file : FindsTeam (fin.get w.files file) (holds one)
  pub in_other : FindsTeam (fin.get w.files other) (holds two)
  pub ends : EndsMet (same_name one.team two.team) one two status

-- how a command ends whose files are so
abbrev pub EndsWell : Command → World → ℕ → Type 0
EndsWell (Make file key_file user title) w status = status ≡ 0
EndsWell (Newkey key_file user) w status = status ≡ 0
EndsWell (Plain file key_file act) w status = EndsByPlan w file key_file act status
EndsWell (Merge file bundle) w status = EndsByItems w file bundle status
EndsWell (Meet file other) w status = EndsByMeeting w file other status
EndsWell (Show file) w status = status ≡ 0
EndsWell (Log file) w status = status ≡ 0
EndsWell (Heads file) w status = status ≡ 0
EndsWell (Why file name) w status = EndsByName w file name status
EndsWell (Keys file key_file) w status = status ≡ 0

-- a command whose files are so does all, and refuses nothing but items
abbrev pub ServedEndWell : Type 0
ServedEndWell = (keeper : Keeper) (command : Command) (w : World) (o : Outcome) → Serves command w → does keeper command w o → EndsWell command w o.status

-- Where the files of a command are so, and no count of faults rises, its run ends well, or for want of memory.
abbrev pub IsComplete : Command → Contents → Counts → Counts → ℕ → Type 0
IsComplete command old before now status = (w : World) → AreKnown old w → Serves command w → ¬ (Rises before now) → EndsWell command w status ⊎ (status ≡ 6)
