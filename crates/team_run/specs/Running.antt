-- What a run does, by its words.
use Rattle.std.specs.Prelude.{◌≡◌, ℕ, List, [], ◌∷◌, Option, Some, None, codes}
use Rattle.lockboxes.specs.Keeping.{Keeper}
use Rattle.outcomes.specs.Steps.{World, Outcome, saying}
use Rattle.team_words.specs.declared.command.Command.{Command}
use Rattle.team_words.specs.declared.command.Command.TheVariants.{Heads, Keys, Log, Make, Meet, Merge, Newkey, Plain, Show, Why}
use Rattle.team_words.specs.Words.{IsCommandOf}
use Rattle.author_commands.specs.Plain.{plains}
use Rattle.key_commands.specs.Make.{makes}
use Rattle.key_commands.specs.Newkey.{newkeys}
use Rattle.exchange_commands.specs.Meet.{meets}
use Rattle.exchange_commands.specs.Merge.{merges}
use Rattle.report_commands.specs.Heads.{lists_heads}
use Rattle.report_commands.specs.Keys.{lists_keys}
use Rattle.report_commands.specs.Log.{logs}
use Rattle.report_commands.specs.Show.{shows}
use Rattle.report_commands.specs.Why.{explains}

-- what each command does. The keeper gives the public key of a sealing secret, and opens boxes
abbrev pub does : Keeper → Command → World → Outcome → Type 0
does keeper (Make file key_file user title) = makes keeper.public_of file key_file user title
does keeper (Newkey key_file user) = newkeys keeper.public_of key_file user
does keeper (Plain file key_file act) = plains file key_file act
does keeper (Merge file bundle) = merges file bundle
does keeper (Meet file other) = meets file other
does keeper (Show file) = shows file
does keeper (Log file) = logs file
does keeper (Heads file) = lists_heads file
does keeper (Why file name) = explains file name
does keeper (Keys file key_file) = lists_keys keeper file key_file

-- words that are no command print a line
abbrev pub does_words : Keeper → Option Command → World → Outcome → Type 0
does_words keeper None w o = o ≡ saying 2 (codes "usage\n")
does_words keeper (Some command) w o = does keeper command w o

-- what a run does: what the command does that the words are
abbrev pub does_run : Keeper → List (List ℕ) → World → Outcome → Type 0
does_run keeper words w o = (command : Option Command) × IsCommandOf words command × does_words keeper command w o

-- the statuses below 5 with which a command can end: only one that gives items or links can end with 1
abbrev pub statuses_of : Command → List ℕ
statuses_of (Make file key_file user title) = 0 ∷ 3 ∷ []
statuses_of (Newkey key_file user) = 0 ∷ 3 ∷ []
statuses_of (Plain file key_file act) = 0 ∷ 3 ∷ 4 ∷ []
statuses_of (Merge file bundle) = 0 ∷ 1 ∷ 3 ∷ []
statuses_of (Meet file other) = 0 ∷ 1 ∷ 3 ∷ 4 ∷ []
statuses_of (Show file) = 0 ∷ 3 ∷ []
statuses_of (Log file) = 0 ∷ 3 ∷ []
statuses_of (Heads file) = 0 ∷ 3 ∷ []
statuses_of (Why file name) = 0 ∷ 3 ∷ 4 ∷ []
statuses_of (Keys file key_file) = 0 ∷ 3 ∷ []

-- The groups of commands: those that make or use a key, those that take links from others, and those that report.
abbrev pub IsSigning : Command → Type 0
IsSigning (Make file key_file user title) = Unit {0}
IsSigning (Newkey key_file user) = Unit {0}
IsSigning (Plain file key_file act) = Unit {0}
IsSigning _ = ⊥

abbrev pub IsExchange : Command → Type 0
IsExchange (Merge file bundle) = Unit {0}
IsExchange (Meet file other) = Unit {0}
IsExchange _ = ⊥

abbrev pub IsReport : Command → Type 0
IsReport (Show file) = Unit {0}
IsReport (Log file) = Unit {0}
IsReport (Heads file) = Unit {0}
IsReport (Why file name) = Unit {0}
IsReport (Keys file key_file) = Unit {0}
IsReport _ = ⊥
