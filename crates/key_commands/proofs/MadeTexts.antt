-- How long the text of a root is, and the file of it alone.
use Rattle.std.proofs.Common.{◌≡◌, ◌<◌, ◌≤◌, ◌+◌, ◌*◌, ◌^◌, ◌&&◌, nat_le, IsTrue, ℕ, List, [], ◌∷◌, ◌++◌, length, length-append, codes, refl, arith}
use Rattle.std.specs.List.{list_all}
use Rattle.std.proofs.lemmas.Bool.{and_parts, leb-true}
use Rattle.std.proofs.lemmas.Fmt.{length-decimal-le, length-decimal-le_succ}
use Rattle.hex.specs.Hex.{lower_digits}
use Rattle.hex.proofs.HexLemmas.{length-encode_with}
use Rattle.tg_text.specs.Spelling.{IsHash, IsTitle, begins_well, is_name_byte, is_user_name, line_of, spell_base64, spell_decimal, spell_hex}
use Rattle.tg_text.proofs.Base64.{length-spell_base64}
use Rattle.acts.specs.declared.entry.Act.TheVariants.{Found}
use Rattle.tg_text.specs.Limits.{most_file_bytes}
use Rattle.team_sets.specs.Names.{Name}
use Rattle.team_model.specs.declared.terms.Link.{Link}
use Rattle.link_text.specs.LinkText.{act_line, key_line, sign_line, text, time_line, user_line}
use Rattle.link_text.specs.TeamFile.{file_text, frame, header}

line_size : (word field : List ℕ) → length ((word ++ field) ++ 10 ∷ []) ≡ length word + length field + 1
line_size word field = omega (arith, length-append (word ++ field) (10 ∷ []), length-append word field)

name_size : (name : List ℕ) → IsTrue (is_user_name name) → length name ≤ 32
name_size name is =
    let front = and_parts (nat_le (length name) 32 && begins_well name) (list_all is_name_byte name) is in
    leb-true (length name) 32 (and_parts (nat_le (length name) 32) (begins_well name) front.0).0

base64_size : (x : List ℕ) → length (spell_base64 x) ≤ 2 * length x + 4
base64_size x = omega (arith, length-spell_base64 x)

pub user_short : (user : List ℕ) → IsTrue (is_user_name user) → length (user_line user) ≤ 40
user_short user is =
    let line : length (user_line user) ≡ 5 + length user + 1 = line_size (codes "user ") user in
    omega (arith, line, name_size user is)

pub key_short : (key : List ℕ) → length key ≡ 56 → length (key_line key) ≤ 130
key_short key size =
    let line : length (key_line key) ≡ 4 + length (spell_base64 key) + 1 = line_size (codes "key ") (spell_base64 key) in
    omega (arith, line, base64_size key, size)

pub time_short : (time : ℕ) → time < 2 ^ 64 → length (time_line time) ≤ 30
time_short time fits =
    let line : length (time_line time) ≡ 5 + length (spell_decimal time) + 1 = line_size (codes "time ") (spell_decimal time) in
    let digits : length (spell_decimal time) ≤ 20 = length-decimal-le 20 time (omega arith) (omega (arith, fits)) fits in
    omega (arith, line, digits)

pub act_short : (seal title : List ℕ) → IsHash seal → IsTitle title → length (act_line (Found seal title)) ≤ 210
act_short seal title is titled =
    let line : length (act_line (Found seal title)) ≡ 10 + length (spell_hex seal ++ 32 ∷ title) + 1 = line_size (codes "act found ") (spell_hex seal ++ 32 ∷ title) in
    let fields : length (spell_hex seal ++ 32 ∷ title) ≡ length (spell_hex seal) + length (32 ∷ title) = length-append (spell_hex seal) (32 ∷ title) in
    let digits : length (spell_hex seal) ≡ 2 * length seal = length-encode_with lower_digits seal in
    omega (arith, line, fields, digits, is.size, titled.short)

pub sign_short : (signature : List ℕ) → length signature ≤ 9324 → length (sign_line signature) ≤ 18700
sign_short signature few =
    let line : length (sign_line signature) ≡ 5 + length (spell_base64 signature) + 1 = line_size (codes "sign ") (spell_base64 signature) in
    omega (arith, line, base64_size signature, few)

-- ten parts one behind the other
pub ten_parts : (a b c d e f g h i j : List ℕ)
    → length (a ++ b ++ c ++ d ++ e ++ f ++ g ++ h ++ i ++ j)
    ≡ length a + length b + length c + length d + length e + length f + length g + length h + length i + length j
ten_parts a b c d e f g h i j = rw (length-append, length-append, length-append, length-append, length-append, length-append, length-append, length-append, length-append) refl

-- the file of one link
header_size : (t : Name) → length (header t) ≡ 2 * length t + 13
header_size t =
    let line : length (header t) ≡ 12 + length (spell_hex t) + 1 = line_size (codes "team-file 1 ") (spell_hex t) in
    let digits : length (spell_hex t) ≡ 2 * length t = length-encode_with lower_digits t in
    omega (arith, line, digits)

frame_size : (bytes : List ℕ) → length (frame bytes) ≡ length (spell_decimal (length bytes)) + 6 + length bytes
frame_size bytes =
    let front = line_of (codes "link" ∷ spell_decimal (length bytes) ∷ []) in
    let line : length front ≡ 5 + length (spell_decimal (length bytes)) + 1 = line_size (codes "link ") (spell_decimal (length bytes)) in
    let all : length (frame bytes) ≡ length front + length bytes = length-append front bytes in
    omega (arith, line, all)

one_size : (t : Name) (l : Link) → length (file_text t (l ∷ [])) ≡ length (header t) + length (frame (text l))
one_size t l =
    let all : length (file_text t (l ∷ [])) ≡ length (header t) + length (frame (text l) ++ []) = length-append (header t) (frame (text l) ++ []) in
    let last : length (frame (text l) ++ []) ≡ length (frame (text l)) + 0 = length-append (frame (text l)) [] in
    omega (arith, all, last)

pub one_short : (t : Name) (l : Link) → IsHash t → length (text l) ≤ 20000 → length (file_text t (l ∷ [])) ≤ most_file_bytes
one_short t l is short =
    let digits : length (spell_decimal (length (text l))) ≤ length (text l) + 1 = length-decimal-le_succ (length (text l)) (omega (arith, short)) in
    omega (arith, one_size t l, header_size t, frame_size (text l), digits, is.size, short)
