-- How long the text of a draft is with its signature.
use Rattle.std.proofs.Common.{◌≡◌, ◌<◌, ◌≤◌, ◌+◌, ◌*◌, ◌^◌, ◌&&◌, nat_le, IsTrue, ℕ, List, [], ◌∷◌, ◌++◌, length, length-append, codes, flat_map, Option, Some, None, refl, arith}
use Rattle.std.specs.List.{AllByRecursion, list_all}
use Rattle.std.proofs.lemmas.Bool.{and_parts, eqb-true, leb-true}
use Rattle.std.proofs.lemmas.Fmt.{length-decimal-le}
use Rattle.hex.specs.Hex.{lower_digits}
use Rattle.hex.proofs.HexLemmas.{length-encode_with}
use Rattle.tg_text.specs.Spelling.{IsHash, IsPublicKey, begins_well, is_name_byte, is_user_name, line_of, spell_base64, spell_decimal, spell_hex}
use Rattle.tg_text.proofs.Base64.{length-spell_base64}
use Rattle.acts.specs.ActText.{spell_act}
use Rattle.acts.specs.declared.entry.Act.{Act}
use Rattle.team_sets.specs.Names.{Name}
use Rattle.team_model.specs.declared.terms.Link.{Link}
use Rattle.link_text.specs.LinkText.{IsTeam, act_line, first_line, key_line, prev_line, sign_line, team_line, text, time_line, user_line}

line_size : (word field : List ℕ) → length ((word ++ field) ++ 10 ∷ []) ≡ length word + length field + 1
line_size word field = omega (arith, length-append (word ++ field) (10 ∷ []), length-append word field)

pub name_size : (name : List ℕ) → IsTrue (is_user_name name) → length name ≤ 32
name_size name is =
    let front = and_parts (nat_le (length name) 32 && begins_well name) (list_all is_name_byte name) is in
    leb-true (length name) 32 (and_parts (nat_le (length name) 32) (begins_well name) front.0).0

pub base64_size : (x : List ℕ) → length (spell_base64 x) ≤ 2 * length x + 4
base64_size x = omega (arith, length-spell_base64 x)

pub hash_size : (h : Name) → IsHash h → length (spell_hex h) ≡ 64
hash_size h is =
    let digits : length (spell_hex h) ≡ 2 * length h = length-encode_with lower_digits h in
    omega (arith, digits, is.size)

pub key_whole : (key : List ℕ) → IsPublicKey key → length key ≡ 56
key_whole key is = eqb-true (length key) 56 (and_parts _ _ (and_parts _ _ (and_parts _ _ (and_parts _ _ is.form).0).0).0).0

user_short : (user : List ℕ) → IsTrue (is_user_name user) → length (user_line user) ≤ 40
user_short user is =
    let line : length (user_line user) ≡ 5 + length user + 1 = line_size (codes "user ") user in
    omega (arith, line, name_size user is)

key_short : (key : List ℕ) → length key ≡ 56 → length (key_line key) ≤ 130
key_short key size =
    let line : length (key_line key) ≡ 4 + length (spell_base64 key) + 1 = line_size (codes "key ") (spell_base64 key) in
    omega (arith, line, base64_size key, size)

time_short : (time : ℕ) → time < 2 ^ 64 → length (time_line time) ≤ 30
time_short time fits =
    let line : length (time_line time) ≡ 5 + length (spell_decimal time) + 1 = line_size (codes "time ") (spell_decimal time) in
    let digits : length (spell_decimal time) ≤ 20 = length-decimal-le 20 time (omega arith) (omega (arith, fits)) fits in
    omega (arith, line, digits)

act_short : (act : Act) → length (act_line act) ≡ length (spell_act act) + 5
act_short act =
    let line : length (act_line act) ≡ 4 + length (spell_act act) + 1 = line_size (codes "act ") (spell_act act) in
    omega (arith, line)

sign_short : (signature : List ℕ) → length signature ≤ 9324 → length (sign_line signature) ≤ 18700
sign_short signature few =
    let line : length (sign_line signature) ≡ 5 + length (spell_base64 signature) + 1 = line_size (codes "sign ") (spell_base64 signature) in
    omega (arith, line, base64_size signature, few)

team_short : (o : Option Name) → IsTeam o → length (team_line o) ≤ 70
team_short None is = omega arith
team_short (Some t) is =
    let line : length (team_line (Some t)) ≡ 5 + length (spell_hex t) + 1 = line_size (codes "team ") (spell_hex t) in
    omega (arith, line, hash_size t is)

prev_size : (p : Name) → IsHash p → length (prev_line p) ≡ 70
prev_size p is =
    let line : length (prev_line p) ≡ 5 + length (spell_hex p) + 1 = line_size (codes "prev ") (spell_hex p) in
    omega (arith, line, hash_size p is)

parents_size : (ps : List Name) → AllByRecursion IsHash ps → length (flat_map prev_line ps) ≡ 70 * length ps
parents_size [] are = refl
parents_size (p ∷ ps) are =
    let both = length-append (prev_line p) (flat_map prev_line ps) in
    omega (arith, both, prev_size p are.0, parents_size ps are.1)

ten_parts : (a b c d e f g h i j : List ℕ)
    → length ((a ++ b ++ c ++ d ++ e ++ f ++ g ++ h ++ i) ++ j)
    ≡ length a + length b + length c + length d + length e + length f + length g + length h + length i + length j
ten_parts a b c d e f g h i j = rw (length-append, length-append, length-append, length-append, length-append, length-append, length-append, length-append, length-append) refl

-- without key lines, with at most 64 parents, and with an act of at most 65,536 bytes
pub link_short : (l : Link) → IsTeam l.team → AllByRecursion IsHash l.prev → length l.prev ≤ 64 → IsTrue (is_user_name l.entry.user) → length l.key ≡ 56 → l.entry.time < 2 ^ 64
    → length (spell_act l.entry.act) ≤ 65536 → l.entry.lines.news ≡ [] → l.entry.lines.boxes ≡ [] → length l.signature ≤ 9324 → length (text l) ≤ 200000
link_short l team parents few user key time act news boxes signature =
    let all = ten_parts (line_of first_line) (team_line l.team) (flat_map prev_line l.prev) (user_line l.entry.user) (key_line l.key) (time_line l.entry.time) (act_line l.entry.act) [] [] (sign_line l.signature) in
    let no_lines : length (text l) ≡ 12 + length (team_line l.team) + length (flat_map prev_line l.prev) + length (user_line l.entry.user) + length (key_line l.key) + length (time_line l.entry.time) + length (act_line l.entry.act) + length (sign_line l.signature) = rw (news, boxes) (omega (arith, all)) in
    omega (arith, no_lines, team_short l.team team, parents_size l.prev parents, few, user_short l.entry.user user, key_short l.key key, time_short l.entry.time time, act_short l.entry.act, act, sign_short l.signature signature)
