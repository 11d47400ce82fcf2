-- Runs one after another: what becomes of a team's file, whatever the runs are and however they end.
use Rattle.std.specs.Prelude.{◌≡◌, ◌↔◌, ◌<◌, ◌^◌, ◌⊎◌, ◌++◌, ℕ, List, [], ◌∷◌, Contains, Some}
use Rattle.std.specs.List.{AllByRecursion}
use Rattle.std.specs.FinMap as fin
use Rattle.tg_text.specs.Spelling.{IsHash}
use Rattle.acts.specs.declared.entry.Act.{Act}
use Rattle.tg_outside.specs.Contents.{FileMap, IsWord}
use Rattle.team_model.specs.ShowText.{show_text}
use Rattle.team_model.specs.declared.terms.Link.{Link}
use Rattle.link_text.specs.LinkText.{text}
use Rattle.link_graph.specs.Held.{Held}
use Rattle.link_graph.specs.Taking.{HasText}
use Rattle.link_intake.specs.UnionLaws.{Fits, IsAmong, IsTextOf, IsUnion, IsValidText, NoClash}
use Rattle.head_sync.specs.MeetLaws.{IsConnectedText}
use Rattle.lockboxes.specs.Keeping.{Keeper}
use Rattle.outcomes.specs.Ending.{Runs}
use Rattle.outcomes.specs.Refusing.{holds}
use Rattle.outcomes.specs.Seeing.{Contents, IsCut}
use Rattle.outcomes.specs.Steps.{World, Step, Outcome, draw, take_byte, replace, write}
use Rattle.openers.specs.Team.{FindsTeam}
use Rattle.team_words.specs.Words.{IsCommandOf}
use Rattle.team_words.specs.declared.command.Command.{Command}
use Rattle.team_words.specs.declared.command.Command.TheVariants.{Heads, Keys, Log, Make, Meet, Merge, Newkey, Plain, Show, Why}
use Rattle.author_commands.specs.Authoring.{IsAuthoredText}
use Rattle.author_commands.specs.Plain.{plain_plan}
use Rattle.key_commands.specs.Make.{founding, signed_link}
use Rattle.key_commands.specs.Newkey.{drawn_key}
use Rattle.team_run.specs.Running.{does_run}
use Rattle.team_run.specs.Serving.{HoldsTeam}

-- One run of the program: its words, what was outside before it and after it, and its status.
pub record OneRun : Type 0 where
  pub words : List (List ℕ)
  pub old : World
  pub new : World
  pub status : ℕ

-- the contents of objects that all tell theirs
abbrev pub told : World → Contents
told w = record { files = Some w.files; draws = Some w.draws; moment = Some w.moment; input = Some w.input; taken = Some w.taken }

-- The run has the clause of `run`. The keeper gives the public key of a sealing secret, and opens boxes
abbrev pub IsRun : Keeper → OneRun → Type 0
IsRun keeper r = Runs (does_run keeper r.words) (told r.old) (told r.new) r.status

-- Each run has the clause of `run`, and finds the files that the run before it left. All else outside is whatever it is at each run.
abbrev pub AreRuns : Keeper → FileMap → List OneRun → FileMap → Type 0
AreRuns keeper files [] last = last ≡ files
AreRuns keeper files (r ∷ runs) last = (r.old.files ≡ files) × IsRun keeper r × AreRuns keeper r.new.files runs last

-- one of the steps replaces the file
abbrev pub Replaces : List ℕ → List Step → Type 0
Replaces name [] = ⊥
Replaces name (draw ∷ steps) = Replaces name steps
Replaces name (take_byte ∷ steps) = Replaces name steps
Replaces name (replace other bytes ∷ steps) = (other ≡ name) ⊎ Replaces name steps
Replaces name (write byte ∷ steps) = Replaces name steps

-- The run's replace of the file is done: it is among the first steps of the outcome that are.
pub record IsReplaced (keeper : Keeper) (r : OneRun) (name : List ℕ) : Type 0 where
  pub outcome : Outcome
  pub does : does_run keeper r.words r.old outcome
  pub cut : IsCut (told r.new) outcome.steps r.old
  pub replaced : Replaces name cut.first

-- the root that `make` signs
abbrev pub root_of : (List ℕ → List ℕ) → List ℕ → List ℕ → World → Link
root_of public_of user title w = let s = drawn_key user w in signed_link s (founding public_of s title w.moment)

-- the text is that of a connected link of a file
abbrev pub IsConnectedIn : World → List ℕ → List ℕ → Type 0
IsConnectedIn w file b = (held : Held) × FindsTeam (fin.get w.files file) (holds held) × IsConnectedText held b

-- the text is one that the command gives to the team of the file
abbrev pub Gives : Keeper → Command → World → List ℕ → List ℕ → Type 0
Gives keeper (Make file key_file user title) w name b = (file ≡ name) × (b ≡ text (root_of keeper.public_of user title w))
Gives keeper (Newkey key_file user) w name b = ⊥
Gives keeper (Plain file key_file act) w name b = (file ≡ name) × IsAuthoredText (plain_plan act w.moment) file key_file w b
Gives keeper (Merge file bundle) w name b = (file ≡ name) × ((bytes : List ℕ) × (fin.get w.files bundle ≡ Some bytes) × IsTextOf bytes b)
Gives keeper (Meet file other) w name b = ((file ≡ name) × IsConnectedIn w other b) ⊎ ((other ≡ name) × IsConnectedIn w file b)
Gives keeper (Show file) w name b = ⊥
Gives keeper (Log file) w name b = ⊥
Gives keeper (Heads file) w name b = ⊥
Gives keeper (Why file link) w name b = ⊥
Gives keeper (Keys file key_file) w name b = ⊥

-- the words are a command that gives it
abbrev pub WordsGive : Keeper → List (List ℕ) → World → List ℕ → List ℕ → Type 0
WordsGive keeper words w name b = (command : Command) × IsCommandOf words (Some command) × Gives keeper command w name b

-- A run gives what its command gives, exactly where its replace of the file is done: whatever its status, 5 and 6 included.
abbrev pub IsGivenIn : Keeper → OneRun → List ℕ → List ℕ → Type 0
IsGivenIn keeper r name b = IsReplaced keeper r name × WordsGive keeper r.words r.old name b

-- one of the runs gives the text
abbrev pub IsGivenBy : Keeper → List OneRun → List ℕ → List ℕ → Type 0
IsGivenBy keeper [] name b = ⊥
IsGivenBy keeper (r ∷ runs) name b = IsGivenIn keeper r name b ⊎ IsGivenBy keeper runs name b

-- After any list of runs, a file that held a team's links is the file of these and of the valid ones that the runs gave, and of no others:
-- where no two different texts among them have one name, and the limits hold of them.
abbrev pub RunsLeaveUnion : Type 0
RunsLeaveUnion = (keeper : Keeper) (files last : FileMap) (runs : List OneRun) (name : List ℕ) (old : Held) → AreRuns keeper files runs last → HoldsTeam files name old
    → NoClash old (IsGivenBy keeper runs name) → Fits old (IsGivenBy keeper runs name)
    → (new : Held) × HoldsTeam last name new × IsUnion old (IsGivenBy keeper runs name) new

-- what is told at a run that founds a team: words of 32 bytes, and a moment below 2^64
pub record TellsInRange (w : World) : Type 0 where
  pub draws : AllByRecursion IsWord w.draws
  pub moment : w.moment < 2 ^ 64

-- the held set of a root alone
abbrev pub alone : Link → Held
alone root = record { team = root.name; links = root ∷ [] }

-- A run of `make` whose replace of the team file is done leaves it as the file of the root alone. As of each sealer, the public key of a
-- secret of 32 bytes has 32 bytes.
abbrev pub MakeBeginsTeam : Type 0
MakeBeginsTeam = (keeper : Keeper) (r : OneRun) (file key_file user title : List ℕ) → ((secret : List ℕ) → IsHash secret → IsHash (keeper.public_of secret)) → TellsInRange r.old
    → IsCommandOf r.words (Some (Make file key_file user title)) → IsReplaced keeper r file → HoldsTeam r.new.files file (alone (root_of keeper.public_of user title r.old))

-- a merge that ends with 0 or 1 has done its replace
abbrev pub MergeIsDone : Type 0
MergeIsDone = (keeper : Keeper) (r : OneRun) (file bundle : List ℕ) → IsRun keeper r → IsCommandOf r.words (Some (Merge file bundle))
    → Contains {X = ℕ} (0 ∷ 1 ∷ []) r.status → IsReplaced keeper r file

-- The run gave a valid text to the team of a file, which holds it then.
pub record IsPut (keeper : Keeper) (r : OneRun) (name : List ℕ) : Type 0 where
  pub bytes : List ℕ
  pub held : Held
  pub given : IsGivenIn keeper r name bytes
  pub in_file : HoldsTeam r.new.files name held
  pub valid : IsValidText held.team bytes
  pub has : HasText held.links bytes

-- a run of `plain` that ends with 0 has put a link into the file
abbrev pub PlainIsDone : Type 0
PlainIsDone = (keeper : Keeper) (r : OneRun) (file key_file : List ℕ) (act : Act) → IsRun keeper r → IsCommandOf r.words (Some (Plain file key_file act)) → r.status ≡ 0
    → IsPut keeper r file

-- A run of `show` on a team's file that ends below 5 ends with 0, and prints the text of the team of its links, whatever their order.
abbrev pub ShowPrintsTeam : Type 0
ShowPrintsTeam = (keeper : Keeper) (r : OneRun) (name : List ℕ) (held : Held) → IsRun keeper r → IsCommandOf r.words (Some (Show name)) → HoldsTeam r.old.files name held
    → r.status < 5 → (r.status ≡ 0) × (r.new.taken ≡ r.old.taken ++ show_text held.team held.links)

-- After any list of runs, `show` of such a file ends with 0, unless it fails, and prints the team of the links that the file held and of the
-- valid ones that the runs gave: the team that ordering, judging and folding that set from scratch gives.
abbrev pub ShowAfterRuns : Type 0
ShowAfterRuns = (keeper : Keeper) (files : FileMap) (runs : List OneRun) (r : OneRun) (name : List ℕ) (old : Held) → AreRuns keeper files runs r.old.files → HoldsTeam files name old
    → NoClash old (IsGivenBy keeper runs name) → Fits old (IsGivenBy keeper runs name) → IsRun keeper r → IsCommandOf r.words (Some (Show name)) → r.status < 5
    → (new : Held) × IsUnion old (IsGivenBy keeper runs name) new × (r.status ≡ 0) × (r.new.taken ≡ r.old.taken ++ show_text new.team new.links)

-- The runs before a run of `make` that replaced the file, that run, and those that follow it.
pub record IsBegun (keeper : Keeper) (runs : List OneRun) (name : List ℕ) (last : FileMap) : Type 0 where
  pub before : List OneRun
  pub made : OneRun
  pub more : List OneRun
  pub key_file : List ℕ
  pub user : List ℕ
  pub title : List ℕ
  pub whole : runs ≡ before ++ made ∷ more
  pub words : IsCommandOf made.words (Some (Make name key_file user title))
  pub replaced : IsReplaced keeper made name
  pub follow : AreRuns keeper made.new.files more last

-- no team stands in the file: it is absent, or holds something else
abbrev pub HoldsNone : FileMap → List ℕ → Type 0
HoldsNone files name = (held : Held) → ¬ (HoldsTeam files name held)

-- A file in which no team stands before any list of runs, and one does after them, was begun by a run of `make`.
abbrev pub TeamsAreBegun : Type 0
TeamsAreBegun = (keeper : Keeper) (files last : FileMap) (runs : List OneRun) (name : List ℕ) (new : Held) → AreRuns keeper files runs last → HoldsNone files name
    → HoldsTeam last name new → IsBegun keeper runs name last

-- Two files of one team hold the same bytes after any runs, where the same valid texts stood in them at first or were given to them: in
-- whatever order, how often, in whatever bundles, and beside whatever else.
abbrev pub RunsInAnyOrder : Type 0
RunsInAnyOrder = (keeper : Keeper) (files last begun ended : FileMap) (runs others : List OneRun) (name other : List ℕ) (old second : Held)
    → AreRuns keeper files runs last → AreRuns keeper begun others ended → HoldsTeam files name old → HoldsTeam begun other second → second.team ≡ old.team
    → NoClash old (IsGivenBy keeper runs name) → Fits old (IsGivenBy keeper runs name) → NoClash second (IsGivenBy keeper others other) → Fits second (IsGivenBy keeper others other)
    → ((b : List ℕ) → IsValidText old.team b → IsAmong old (IsGivenBy keeper runs name) b ↔ IsAmong second (IsGivenBy keeper others other) b)
    → fin.get last name ≡ fin.get ended other
