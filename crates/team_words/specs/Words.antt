-- What the words of a command line mean.
use Rattle.std.specs.Prelude.{◌≡◌, ℕ, List, [], ◌∷◌, length, drop, Option, Some, None, option_map, Result, Ok, Err, Bool, true, false, not, cond, ◌&&◌, ◌==◌, codes, nat_eq, nat_le}
use Rattle.std.specs.List.{list_all}
use Rattle.std.specs.Str.{is_utf8}
use Rattle.std.specs.Cmp.Lexicographic.{pointwise}
use Rattle.hex.specs.Hex.{decode_sized}
use Rattle.hex.specs.declared.error.FromHexError.{FromHexError}
use Rattle.team_words.specs.declared.command.Command.{Command}
use Rattle.team_words.specs.declared.command.Command.TheVariants.{Heads, Keys, Log, Make, Meet, Merge, Newkey, Plain, Show, Why}
use Rattle.acts.specs.declared.entry.Act.{Act}
use Rattle.team_words.specs.Acts.{IsActOf}
use Rattle.tg_text.specs.Spelling.{is_printing, is_user_name, spell_hex}

-- a word that may be given for a field: it isn't empty, and doesn't begin with a hyphen
abbrev pub is_field : List ℕ → Bool
is_field [] = false
is_field (b ∷ word) = not (b == 45)

-- whether a text is a title
abbrev pub is_title : List ℕ → Bool
is_title bytes = nat_le 1 (length bytes) && nat_le (length bytes) 128 && is_utf8 bytes && list_all is_printing bytes

-- the words name two files, by two words
abbrev pub are_two_files : List ℕ → List ℕ → Bool
are_two_files file other = is_field file && is_field other && not (pointwise nat_eq file other)

abbrev pub make_of : List ℕ → List ℕ → List ℕ → List ℕ → Option Command
make_of file key_file user title =
    cond (are_two_files file key_file && is_user_name user && (is_field title && is_title title)) (Some (Make file key_file user title)) None

abbrev pub newkey_of : List ℕ → List ℕ → Option Command
newkey_of key_file user = cond (is_field key_file && is_user_name user) (Some (Newkey key_file user)) None

abbrev pub merge_of : List ℕ → List ℕ → Option Command
merge_of file bundle = cond (is_field file && is_field bundle) (Some (Merge file bundle)) None

-- one word may stand for both files
abbrev pub meet_of : List ℕ → List ℕ → Option Command
meet_of file other = cond (is_field file && is_field other) (Some (Meet file other)) None

-- what digits were decoded to, where a word spells it in lower case
abbrev pub spelled_by : List ℕ → Result (List ℕ) FromHexError → Option (List ℕ)
spelled_by word (Ok bytes) = cond (pointwise nat_eq (spell_hex bytes) word) (Some bytes) None
spelled_by word (Err fault) = None

-- the 32 bytes that a word spells in lower-case hexadecimal digits, and nothing where it spells none
abbrev pub hash_of : List ℕ → Option (List ℕ)
hash_of word = spelled_by word (decode_sized word 32)

abbrev pub why_of : List ℕ → List ℕ → Option Command
why_of file name = cond (is_field file) (option_map (Why file) (hash_of name)) None

abbrev pub keys_of : List ℕ → List ℕ → Option Command
keys_of file key_file = cond (is_field file && is_field key_file) (Some (Keys file key_file)) None

-- a command with a file alone
abbrev pub report_of : List ℕ → List ℕ → Option Command
report_of word file =
    cond (pointwise nat_eq word (codes "show")) (Some (Show file))
    (cond (pointwise nat_eq word (codes "log")) (Some (Log file)) (cond (pointwise nat_eq word (codes "heads")) (Some (Heads file)) None))

-- where an act is given, and each of its words may be one of a field
abbrev pub plain_of : List ℕ → List ℕ → List (List ℕ) → Option Act → Option Command
plain_of file key_file words act = cond (is_field file && is_field key_file && list_all is_field words) (option_map (Plain file key_file) act) None

abbrev pub make_with : List ℕ → List ℕ → List (List ℕ) → Option Command
make_with file key_file (user ∷ title ∷ []) = make_of file key_file user title
make_with file key_file words = None

-- a command with a file, a key file, and further words, where `act` is the act that these are
abbrev pub keyed_with : Option Act → List ℕ → List ℕ → List ℕ → List (List ℕ) → Option Command
keyed_with act word file key_file words =
    cond (pointwise nat_eq word (codes "plain")) (plain_of file key_file words act) (cond (pointwise nat_eq word (codes "make")) (make_with file key_file words) None)

-- The command that is so, where `act` is what its further words give, if an act is asked for.
pub record IsKeyedBy (word file key_file : List ℕ) (words : List (List ℕ)) (command : Option Command) : Type 0 where
  pub act : Option Act
  pub act_is : pointwise nat_eq word (codes "plain") ≡ true → IsActOf words act
  pub command_is : command ≡ keyed_with act word file key_file words

-- the command that the words are, and nothing where they are none, where `act` is the act that the words after the third are, if one is asked for
abbrev pub command_with : Option Act → List (List ℕ) → Option Command
command_with act (word ∷ file ∷ []) = cond (is_field file) (report_of word file) None
command_with act (word ∷ first ∷ second ∷ []) =
    cond (pointwise nat_eq word (codes "merge")) (merge_of first second)
    (cond (pointwise nat_eq word (codes "newkey")) (newkey_of first second)
    (cond (pointwise nat_eq word (codes "why")) (why_of first second)
    (cond (pointwise nat_eq word (codes "keys")) (keys_of first second) (cond (pointwise nat_eq word (codes "meet")) (meet_of first second) None))))
command_with act (word ∷ file ∷ key_file ∷ w ∷ ws) = keyed_with act word file key_file (w ∷ ws)
command_with act words = None

-- whether an act is asked for: by the words after the third
abbrev pub asks_act : List (List ℕ) → Bool
asks_act (word ∷ file ∷ key_file ∷ w ∷ ws) = pointwise nat_eq word (codes "plain")
asks_act words = false

-- The command that the words are, or nothing where they are none. Where an act is asked for, `act` is what these words give.
pub record IsCommandOf (words : List (List ℕ)) (command : Option Command) : Type 0 where
  pub act : Option Act
  pub act_is : asks_act words ≡ true → IsActOf (drop 3 words) act
  pub command_is : command ≡ command_with act words

-- words are one command at most
abbrev pub WordsAreOneCommand : Type 0
WordsAreOneCommand = (words : List (List ℕ)) (command other : Option Command) → IsCommandOf words command → IsCommandOf words other → command ≡ other

-- which command it is
abbrev pub IsMake : Command → Type 0
IsMake (Make file key_file user title) = Unit {0}
IsMake _ = ⊥

abbrev pub IsNewkey : Command → Type 0
IsNewkey (Newkey key_file user) = Unit {0}
IsNewkey _ = ⊥

abbrev pub IsPlain : Command → Type 0
IsPlain (Plain file key_file act) = Unit {0}
IsPlain _ = ⊥

abbrev pub IsMerge : Command → Type 0
IsMerge (Merge file bundle) = Unit {0}
IsMerge _ = ⊥

abbrev pub IsMeet : Command → Type 0
IsMeet (Meet file other) = Unit {0}
IsMeet _ = ⊥

abbrev pub IsShow : Command → Type 0
IsShow (Show file) = Unit {0}
IsShow _ = ⊥

abbrev pub IsLog : Command → Type 0
IsLog (Log file) = Unit {0}
IsLog _ = ⊥

abbrev pub IsHeads : Command → Type 0
IsHeads (Heads file) = Unit {0}
IsHeads _ = ⊥

abbrev pub IsWhy : Command → Type 0
IsWhy (Why file name) = Unit {0}
IsWhy _ = ⊥

abbrev pub IsKeys : Command → Type 0
IsKeys (Keys file key_file) = Unit {0}
IsKeys _ = ⊥
