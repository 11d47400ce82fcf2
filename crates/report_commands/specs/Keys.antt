-- What `keys FILE KEYFILE` does.
use Rattle.std.specs.Prelude.{◌≡◌, ℕ, List}
use Rattle.sha2.specs.Sha256.{sha256}
use Rattle.team_sets.specs.Names.{Name}
use Rattle.team_model.specs.Judging.{team, team_rules}
use Rattle.team_model.specs.KeyTables.{key_table}
use Rattle.lms_tree.specs.Signatures.{public_key}
use Rattle.lms_keep.specs.Signing.{tree_key}
use Rattle.lms_keep.specs.declared.key_state.KeyState.{KeyState}
use Rattle.link_graph.specs.Held.{Held}
use Rattle.lockboxes.specs.Keeping.{Keeper}
use Rattle.lockboxes.specs.Opening.{AreOpened}
use Rattle.lockboxes.specs.declared.opened.Opened.{Opened}
use Rattle.outcomes.specs.Steps.{World, Outcome, saying}
use Rattle.outcomes.specs.Refusing.{opening}
use Rattle.openers.specs.Key.{FindsKey}
use Rattle.openers.specs.Team.{FindsTeam}
use Rattle.team_report.specs.KeysText.{keys_text}
use Rattle.team_words.specs.declared.command.Command.{Command}
use Rattle.team_words.specs.declared.command.Command.TheVariants.{Keys}

-- the device of a key file, listed or not
abbrev pub device_of_key : KeyState → Name
device_of_key s = sha256 (public_key (tree_key s))

-- the keys that the device of a key file opens through the boxes of a team
abbrev pub AreOpenedBy : Keeper → Held → KeyState → List Opened → Type 0
AreOpenedBy keeper held s opened = AreOpened keeper (key_table (team team_rules held.links)).boxes (device_of_key s) s.secret opened

-- the text of these keys
pub record IsKeysText (keeper : Keeper) (held : Held) (s : KeyState) (text : List ℕ) : Type 0 where
  pub opened : List Opened
  pub are_opened : AreOpenedBy keeper held s opened
  pub is_text : text ≡ keys_text opened

-- their text is printed
pub record IsKeysSaid (keeper : Keeper) (held : Held) (s : KeyState) (w : World) (o : Outcome) : Type 0 where
  pub text : List ℕ
  pub of_keys : IsKeysText keeper held s text
  pub said : o ≡ saying 0 text

-- The keys that the device of a key file opens are printed. Whether a leaf is left isn't asked, nor whether the device is listed
abbrev pub lists_keys : Keeper → List ℕ → List ℕ → World → Outcome → Type 0
lists_keys keeper file key_file = opening FindsTeam file (λ held. opening FindsKey key_file (λ s. IsKeysSaid keeper held s))

abbrev pub does_keys : Keeper → Command → World → Outcome → Type 0
does_keys keeper (Keys file key_file) w o = lists_keys keeper file key_file w o
does_keys keeper _ w o = ⊥
