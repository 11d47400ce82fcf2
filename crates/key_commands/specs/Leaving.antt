-- What stands after `newkey` and `make` where they end in 0 and contents are known.
use Rattle.std.specs.Prelude.{◌≡◌, ℕ, List, [], ◌∷◌, Some}
use Rattle.std.specs.FinMap as fin
use Rattle.tg_outside.specs.Contents.{FileMap}
use Rattle.team_model.specs.declared.terms.Link.{Link}
use Rattle.link_text.specs.TeamFile.{IsFileOf}
use Rattle.lms_keep.specs.KeyText.{IsKeyFile}
use Rattle.lms_keep.specs.declared.key_state.KeyState.{KeyState}
use Rattle.outcomes.specs.Seeing.{Contents}
use Rattle.team_words.specs.declared.command.Command.{Command}
use Rattle.team_words.specs.declared.command.Command.TheVariants.{Make, Newkey}

-- the file of this name is there, and is the key file of a key
abbrev pub HasKeyFile : List ℕ → Contents → Type 0
HasKeyFile name seen = (m : FileMap) × (bytes : List ℕ) × (s : KeyState) × (seen.files ≡ Some m) × (fin.get m name ≡ Some bytes) × IsKeyFile bytes s

-- the file of this name is there, and is the team file of one link alone, which is held and names the team
abbrev pub HasTeamFile : List ℕ → Contents → Type 0
HasTeamFile name seen = (m : FileMap) × (bytes : List ℕ) × (root : Link) × (seen.files ≡ Some m) × (fin.get m name ≡ Some bytes) × IsFileOf bytes root.name (root ∷ [])

abbrev pub LeavesKey : Command → Contents → Type 0
LeavesKey (Newkey key_file user) new = HasKeyFile key_file new
LeavesKey _ new = ⊥

abbrev pub LeavesTeam : Command → Contents → Type 0
LeavesTeam (Make file key_file user title) new = HasTeamFile file new
LeavesTeam _ new = ⊥
