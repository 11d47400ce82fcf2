-- What the words of a command are in, where a law needs it.
use Rattle.std.proofs.Common.{◌≡◌, ◌≢◌, ◌&&◌, ℕ, Bool, true, false, cond, not, IsTrue, List, [], ◌∷◌, drop, Option, Some, None, option_map, length, codes, nat_eq, nat_le, refl, sym, subst}
use Rattle.std.specs.List.{list_all}
use Rattle.std.specs.Str.{is_utf8}
use Rattle.std.specs.Cmp.Lexicographic.{pointwise}
use Rattle.std.proofs.lemmas.Bool.{and_parts, false≢true, leb-true}
use Rattle.std.proofs.lemmas.Bool.Decides.{Decides-eqb}
use Rattle.std.proofs.lemmas.Slice.Eq.{slice_eq-Decides}
use Rattle.std.proofs.lemmas.Str.{IsUtf8-from_is_utf8}
use Rattle.tg_text.specs.Spelling.{IsTitle, is_printing, is_user_name}
use Rattle.acts.specs.declared.entry.Act.{Act}
use Rattle.team_words.specs.Acts.{IsActOf, MayGive}
use Rattle.team_words.specs.Words.{IsCommandOf, are_two_files, asks_act, command_with, is_field, is_title, keyed_with, make_of, make_with, meet_of, merge_of, newkey_of, hash_of, keys_of, plain_of, report_of, why_of}
use Rattle.team_words.specs.declared.command.Command.{Command}
use Rattle.team_words.specs.declared.command.Command.TheVariants.{Heads, Keys, Log, Make, Meet, Merge, Newkey, Plain, Show, Why}

-- what the words of a command are
abbrev pub IsRight : Option Command → Type 0
IsRight None = Unit {0}
IsRight (Some (Make file key_file user title)) = (file ≢ key_file) × IsTrue (is_user_name user) × IsTitle title
IsRight (Some (Newkey key_file user)) = Unit {0}
IsRight (Some (Plain file key_file act)) = MayGive act
IsRight (Some (Merge file bundle)) = Unit {0}
IsRight (Some (Meet file other)) = Unit {0}
IsRight (Some (Show file)) = Unit {0}
IsRight (Some (Log file)) = Unit {0}
IsRight (Some (Heads file)) = Unit {0}
IsRight (Some (Why file name)) = Unit {0}
IsRight (Some (Keys file key_file)) = Unit {0}

either : (b : Bool) (x y : Option Command) → (b ≡ true → IsRight x) → IsRight y → IsRight (cond b x y)
either true x y one_right other_right = one_right refl
either false x y one_right other_right = other_right

title_is : (title : List ℕ) → is_title title ≡ true → IsTitle title
title_is title e =
    let all = and_parts (nat_le 1 (length title) && nat_le (length title) 128 && is_utf8 title) (list_all is_printing title) e in
    let front = and_parts (nat_le 1 (length title) && nat_le (length title) 128) (is_utf8 title) all.0 in
    let size = and_parts (nat_le 1 (length title)) (nat_le (length title) 128) front.0 in
    record { some = leb-true 1 (length title) size.0; short = leb-true (length title) 128 size.1; text = IsUtf8-from_is_utf8 title front.1; printing = all.1 }

files_differ : (file other : List ℕ) → are_two_files file other ≡ true → file ≢ other
files_differ file other e same =
    let parts = and_parts (is_field file && is_field other) (not (pointwise nat_eq file other)) e in
    let equal = (slice_eq-Decides Decides-eqb file other (pointwise nat_eq file other) refl).1 same in
    false≢true (rw equal at parts.1)

make_right : (file key_file user title : List ℕ) → IsRight (make_of file key_file user title)
make_right file key_file user title =
    either (are_two_files file key_file && is_user_name user && (is_field title && is_title title)) (Some (Make file key_file user title)) None
    (λ e.
    let all = and_parts (are_two_files file key_file && is_user_name user) (is_field title && is_title title) e in
    let front = and_parts (are_two_files file key_file) (is_user_name user) all.0 in
    let last = and_parts (is_field title) (is_title title) all.1 in
    (files_differ file key_file front.0, front.1, title_is title last.1)) tt

merge_right : (file bundle : List ℕ) → IsRight (merge_of file bundle)
merge_right file bundle = either (is_field file && is_field bundle) (Some (Merge file bundle)) None (λ t. tt) tt

meet_right : (file other : List ℕ) → IsRight (meet_of file other)
meet_right file other = either (is_field file && is_field other) (Some (Meet file other)) None (λ t. tt) tt

newkey_right : (key_file user : List ℕ) → IsRight (newkey_of key_file user)
newkey_right key_file user = either (is_field key_file && is_user_name user) (Some (Newkey key_file user)) None (λ t. tt) tt

report_right : (word file : List ℕ) → IsRight (report_of word file)
report_right word file =
    either (pointwise nat_eq word (codes "show")) (Some (Show file)) (cond (pointwise nat_eq word (codes "log")) (Some (Log file)) (cond (pointwise nat_eq word (codes "heads")) (Some (Heads file)) None)) (λ t. tt)
    (either (pointwise nat_eq word (codes "log")) (Some (Log file)) (cond (pointwise nat_eq word (codes "heads")) (Some (Heads file)) None) (λ t. tt)
    (either (pointwise nat_eq word (codes "heads")) (Some (Heads file)) None (λ t. tt) tt))

why_right : (file name : List ℕ) → IsRight (why_of file name)
why_right file name = either (is_field file) (option_map (λ (n : List ℕ). Why file n) (hash_of name)) None (λ t. named (hash_of name)) tt
  where
    named : (o : Option (List ℕ)) → IsRight (option_map (λ (n : List ℕ). Why file n) o)
    named None = tt
    named (Some n) = tt

keys_right : (file key_file : List ℕ) → IsRight (keys_of file key_file)
keys_right file key_file = either (is_field file && is_field key_file) (Some (Keys file key_file)) None (λ t. tt) tt

-- a command with two fields
pair_right : (word first second : List ℕ) → IsRight (command_with None (word ∷ first ∷ second ∷ []))
pair_right word first second =
    let meet = cond (pointwise nat_eq word (codes "meet")) (meet_of first second) None in
    let keys = cond (pointwise nat_eq word (codes "keys")) (keys_of first second) meet in
    let why = cond (pointwise nat_eq word (codes "why")) (why_of first second) keys in
    let newkey = cond (pointwise nat_eq word (codes "newkey")) (newkey_of first second) why in
    either (pointwise nat_eq word (codes "merge")) (merge_of first second) newkey (λ t. merge_right first second)
    (either (pointwise nat_eq word (codes "newkey")) (newkey_of first second) why (λ t. newkey_right first second)
    (either (pointwise nat_eq word (codes "why")) (why_of first second) keys (λ t. why_right first second)
    (either (pointwise nat_eq word (codes "keys")) (keys_of first second) meet (λ t. keys_right first second)
    (either (pointwise nat_eq word (codes "meet")) (meet_of first second) None (λ t. meet_right first second) tt))))

make_with_right : (file key_file : List ℕ) (words : List (List ℕ)) → IsRight (make_with file key_file words)
make_with_right file key_file [] = tt
make_with_right file key_file (a ∷ []) = tt
make_with_right file key_file (a ∷ b ∷ []) = make_right file key_file a b
make_with_right file key_file (a ∷ b ∷ c ∷ more) = tt

module _ (words : List (List ℕ)) (act : Option Act) where
  plain_right : IsActOf words act → (file key_file : List ℕ) (more : List (List ℕ)) → IsRight (plain_of file key_file more act)
  plain_right is file key_file more =
      either (is_field file && is_field key_file && list_all is_field more) (option_map (λ (a : Act). Plain file key_file a) act) None (λ t. given act is) tt
    where
      given : (o : Option Act) → IsActOf words o → IsRight (option_map (λ (a : Act). Plain file key_file a) o)
      given None h = tt
      given (Some a) h = h.found.may

  keyed_right : (word file key_file : List ℕ) (more : List (List ℕ)) → (pointwise nat_eq word (codes "plain") ≡ true → IsActOf words act) → IsRight (keyed_with act word file key_file more)
  keyed_right word file key_file more is =
      either (pointwise nat_eq word (codes "plain")) (plain_of file key_file more act) (cond (pointwise nat_eq word (codes "make")) (make_with file key_file more) None)
      (λ t. plain_right (is t) file key_file more)
      (either (pointwise nat_eq word (codes "make")) (make_with file key_file more) None (λ t. make_with_right file key_file more) tt)

  with_right : (all : List (List ℕ)) → (asks_act all ≡ true → IsActOf words act) → IsRight (command_with act all)
  with_right [] is = tt
  with_right (a ∷ []) is = tt
  with_right (a ∷ b ∷ []) is = either (is_field b) (report_of a b) None (λ t. report_right a b) tt
  with_right (a ∷ b ∷ c ∷ []) is = pair_right a b c
  with_right (a ∷ b ∷ c ∷ d ∷ more) is = keyed_right a b c (d ∷ more) is

pub words_right : {words : List (List ℕ)} {command : Option Command} → IsCommandOf words command → IsRight command
words_right {words} is = subst IsRight (sym is.command_is) (with_right (drop 3 words) is.act words is.act_is)
