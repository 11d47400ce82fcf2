-- The text of a link, line by line, and that it is the text of one link.
use Rattle.std.proofs.Common.{◌≡◌, ℕ, ◌≤◌, ◌==◌, Bool, true, false, ◌&&◌, List, [], ◌∷◌, ◌++◌, Option, None, Some, length, codes, flat_map, refl, sym, ap, ◌∙◌, subst, true≢false, append_assoc, append-nil, arith}
use Rattle.std.proofs.lemmas.Bool.{eqb-true}
use Rattle.std.proofs.lemmas.List.{append_cancel_left}
use Rattle.sha2.specs.Sha256.{sha256}
use Rattle.team_sets.specs.Names.{Name}
use Rattle.tg_text.specs.Limits.{most_link_bytes}
use Rattle.tg_text.specs.Spelling.{has_byte, has_newline, spell_base64, spell_decimal, spell_hex, IsHash}
use Rattle.tg_text.proofs.FieldLaws.{base64_lacks, base64_once, decimal_lacks, decimal_once, hex_lacks, hex_once, name_lacks}
use Rattle.acts.specs.ActText.{spell_act}
use Rattle.acts.proofs.ActLaws.{act_lacks, act_once}
use Rattle.team_model.specs.declared.terms.Link.{Link}
use Rattle.link_text.specs.LinkText.{first_line, team_line, team_field, prev_line, user_line, key_line, time_line, act_line, new_line, box_line, sign_line, spell_box, text, IsTeam, KeepsRules, Reads, Spells}
use Rattle.tg_text.specs.Spelling.{line_of}
use Rattle.tg_text.specs.KeySpelling.{spell_key_id}
use Rattle.tg_text.specs.declared.keys.BoxLine.{BoxLine}
use Rattle.tg_text.specs.declared.keys.KeyLines.{KeyLines}
use Rattle.acts.specs.declared.entry.Act.{Act}
use Rattle.link_text.specs.KeyRanges.{AreKeyLines, IsBoxLine, IsNewKey}
use Rattle.link_text.specs.Takes.{HasNoKeyLine, HasNoNew, HasNoParent, key_lines}
use Rattle.tg_text.proofs.FieldLines.{spelled_once}
use Rattle.link_text.proofs.Fields.{boxes, news, parents}
use Rattle.link_text.proofs.Repeated.{lines_once}

-- the text from a line on
abbrev pub from_sign : Link → List ℕ
from_sign l = sign_line l.signature

abbrev pub from_news : Link → List ℕ
from_news l = key_lines l.entry.lines ++ from_sign l

abbrev pub from_act : Link → List ℕ
from_act l = act_line l.entry.act ++ from_news l

abbrev pub from_time : Link → List ℕ
from_time l = time_line l.entry.time ++ from_act l

abbrev pub from_key : Link → List ℕ
from_key l = key_line l.key ++ from_time l

abbrev pub from_user : Link → List ℕ
from_user l = user_line l.entry.user ++ from_key l

abbrev pub from_prev : Link → List ℕ
from_prev l = flat_map prev_line l.prev ++ from_user l

abbrev pub from_team : Link → List ℕ
from_team l = team_line l.team ++ from_prev l

parts : (a b c d e f g n x s : List ℕ) → (a ++ b ++ c ++ d ++ e ++ f ++ g ++ n ++ x) ++ s ≡ a ++ (b ++ (c ++ (d ++ (e ++ (f ++ (g ++ ((n ++ x) ++ s)))))))
parts a b c d e f g n x s = simp append_assoc

pub text_parts : (l : Link) → text l ≡ line_of first_line ++ from_team l
text_parts l =
    parts (line_of first_line) (team_line l.team) (flat_map prev_line l.prev) (user_line l.entry.user) (key_line l.key) (time_line l.entry.time) (act_line l.entry.act)
    (flat_map new_line l.entry.lines.news) (flat_map box_line l.entry.lines.boxes) (sign_line l.signature)

begins : List ℕ → List ℕ → Bool
begins [] text = true
begins (c ∷ front) [] = false
begins (c ∷ front) (x ∷ text) = (x == c) && begins front text

-- the lines of parents end where that of the user begins
pub user_first : (l : Link) → HasNoParent (from_user l)
unfolding begins
user_first l field more e = true≢false (ap (begins (codes "user ")) e)

-- and those of keys where that of the signature begins
pub sign_first : (l : Link) → HasNoKeyLine (from_sign l)
unfolding begins
sign_first l = (λ field more e. true≢false (ap (begins (codes "sign ")) e), λ field more e. true≢false (ap (begins (codes "sign ")) e))

-- no line of a new key stands among the boxes
pub no_new : (lines : List BoxLine) (rest : List ℕ) → HasNoNew rest → HasNoNew (flat_map box_line lines ++ rest)
unfolding begins
no_new [] rest none field more e = none field more e
no_new (b ∷ lines) rest none field more e = true≢false (ap (begins (codes "box ")) e)

pub news_then : (lines : KeyLines) (rest : List ℕ) → key_lines lines ++ rest ≡ flat_map new_line lines.news ++ (flat_map box_line lines.boxes ++ rest)
news_then lines rest = append_assoc (flat_map new_line lines.news) (flat_map box_line lines.boxes) rest

pub same_lines : (k m : KeyLines) → k.news ≡ m.news → k.boxes ≡ m.boxes → k ≡ m
same_lines k m n b = λ i. record { news = n i; boxes = b i }

pub key_lines_once : (k m : KeyLines) (x y : List ℕ) → AreKeyLines k → AreKeyLines m → HasNoKeyLine x → HasNoKeyLine y → key_lines k ++ x ≡ key_lines m ++ y → (k ≡ m) × (x ≡ y)
key_lines_once k m x y are others nx ny e =
    let new = lines_once IsNewKey spell_key_id (codes "new") news k.news m.news (flat_map box_line k.boxes ++ x) (flat_map box_line m.boxes ++ y) are.news others.news
    (no_new k.boxes x nx.0) (no_new m.boxes y ny.0) (sym (news_then k x) ∙ e ∙ news_then m y) in
    let box = lines_once IsBoxLine spell_box (codes "box") boxes k.boxes m.boxes x y are.boxes others.boxes nx.1 ny.1 new.1 in
    (same_lines k m new.0 box.0, box.1)

pub team_lacks : (o : Option Name) → IsTeam o → has_newline (team_field o) ≡ false
team_lacks None is = refl
team_lacks (Some t) is = hex_lacks 10 t refl

hyphen : (t : Name) → codes "-" ≡ spell_hex t → ⊥
hyphen t e = true≢false (ap (has_byte 45) e ∙ hex_lacks 45 t refl)

pub team_once : (o p : Option Name) → IsTeam o → IsTeam p → team_field o ≡ team_field p → o ≡ p
team_once None None is other e = refl
team_once None (Some t) is other e = absurd (hyphen t e)
team_once (Some t) None is other e = absurd (hyphen t (sym e))
team_once (Some t) (Some u) is other e = ap Some (hex_once t u is.bytes other.bytes e)

pub no_hyphen : (o : Option Name) → codes "-" ≡ team_field o → o ≡ None
no_hyphen None e = refl
no_hyphen (Some t) e = absurd (hyphen t e)

pub fields_of : {bytes : List ℕ} {l : Link} → Reads bytes l → Spells bytes l
fields_of r = record { is_text = r.is_text; fields = r.well_formed.fields; name = r.name }

pub rules_of : {bytes : List ℕ} {l : Link} → Reads bytes l → KeepsRules l
rules_of r = r.well_formed.rules

pub reads_of : {bytes : List ℕ} {l : Link} → Spells bytes l → KeepsRules l → length bytes ≤ most_link_bytes → Reads bytes l
reads_of f k short = record {
  is_text = f.is_text;
  name = f.name;
  well_formed = record { fields = f.fields; rules = k; fits = subst (λ (t : List ℕ). length t ≤ most_link_bytes) f.is_text short };
}

abbrev pub link_of : Option Name → List Name → List ℕ → List ℕ → List ℕ → ℕ → Act → KeyLines → List ℕ → List ℕ → Link
link_of team prev key user device time act lines signature name = record {
  team = team;
  prev = prev;
  key = key;
  signature = signature;
  name = name;
  entry = record { user = user; device = device; time = time; act = act; lines = lines };
}

same_link : (l k : Link) → l.team ≡ k.team → l.prev ≡ k.prev → l.key ≡ k.key → l.entry.user ≡ k.entry.user → l.entry.device ≡ k.entry.device → l.entry.time ≡ k.entry.time
    → l.entry.act ≡ k.entry.act → l.entry.lines ≡ k.entry.lines → l.signature ≡ k.signature → l.name ≡ k.name → l ≡ k
same_link l k team prev key user device time act lines signature name =
    let same : link_of l.team l.prev l.key l.entry.user l.entry.device l.entry.time l.entry.act l.entry.lines l.signature l.name
    ≡ link_of k.team k.prev k.key k.entry.user k.entry.device k.entry.time k.entry.act k.entry.lines k.signature k.name = cc in
    same

pub link_once : (bytes : List ℕ) (l k : Link) → Spells bytes l → Spells bytes k → l ≡ k
link_once bytes l k f g =
    let team = spelled_once (codes "team") (team_field l.team) (team_field k.team) (from_prev l) (from_prev k) (team_lacks l.team f.fields.team) (team_lacks k.team g.fields.team)
    (append_cancel_left (line_of first_line) _ _ (sym (text_parts l) ∙ sym f.is_text ∙ g.is_text ∙ text_parts k)) in
    let prev = lines_once IsHash (λ name. spell_hex name) (codes "prev") parents l.prev k.prev (from_user l) (from_user k) f.fields.parents g.fields.parents (user_first l) (user_first k) team.1 in
    let user = spelled_once (codes "user") l.entry.user k.entry.user (from_key l) (from_key k) (name_lacks 10 l.entry.user refl f.fields.user) (name_lacks 10 k.entry.user refl g.fields.user) prev.1 in
    let key = spelled_once (codes "key") (spell_base64 l.key) (spell_base64 k.key) (from_time l) (from_time k) (base64_lacks 10 l.key refl refl) (base64_lacks 10 k.key refl refl) user.1 in
    let time = spelled_once (codes "time") (spell_decimal l.entry.time) (spell_decimal k.entry.time) (from_act l) (from_act k)
    (decimal_lacks 10 l.entry.time refl f.fields.time) (decimal_lacks 10 k.entry.time refl g.fields.time) key.1 in
    let act = spelled_once (codes "act") (spell_act l.entry.act) (spell_act k.entry.act) (from_news l) (from_news k) (act_lacks l.entry.act f.fields.act) (act_lacks k.entry.act g.fields.act) time.1 in
    let lines = key_lines_once l.entry.lines k.entry.lines (from_sign l) (from_sign k) f.fields.key_lines g.fields.key_lines (sign_first l) (sign_first k) act.1 in
    let sign = spelled_once (codes "sign") (spell_base64 l.signature) (spell_base64 k.signature) [] [] (base64_lacks 10 l.signature refl refl) (base64_lacks 10 k.signature refl refl)
    (ap (λ (t : List ℕ). t ++ []) lines.1) in
    let same_team : l.team ≡ k.team = team_once l.team k.team f.fields.team g.fields.team team.0 in
    let same_prev : l.prev ≡ k.prev = prev.0 in
    let same_user : l.entry.user ≡ k.entry.user = user.0 in
    let same_key : l.key ≡ k.key = base64_once l.key k.key f.fields.key.bytes g.fields.key.bytes key.0 in
    let same_device : l.entry.device ≡ k.entry.device = f.fields.device ∙ ap sha256 same_key ∙ sym g.fields.device in
    let same_time : l.entry.time ≡ k.entry.time = decimal_once l.entry.time k.entry.time f.fields.time g.fields.time time.0 in
    let same_act : l.entry.act ≡ k.entry.act = act_once l.entry.act k.entry.act f.fields.act g.fields.act act.0 in
    let same_lines : l.entry.lines ≡ k.entry.lines = lines.0 in
    let same_signature : l.signature ≡ k.signature = base64_once l.signature k.signature f.fields.signature_bytes g.fields.signature_bytes sign.0 in
    let same_name : l.name ≡ k.name = f.name ∙ sym g.name in
    same_link l k same_team same_prev same_key same_user same_device same_time same_act same_lines same_signature same_name

pub joined : (bytes a t p u k m c n s l0 l1 l2 l3 l4 l5 l6 l7 l8 : List ℕ) → bytes ≡ a ++ l0 → l0 ≡ t ++ l1 → l1 ≡ p ++ l2 → l2 ≡ u ++ l3 → l3 ≡ k ++ l4 → l4 ≡ m ++ l5 → l5 ≡ c ++ l6 → l6 ≡ n ++ l7 → l7 ≡ s ++ l8 → l8 ≡ []
    → bytes ≡ a ++ (t ++ (p ++ (u ++ (k ++ (m ++ (c ++ (n ++ s)))))))
joined bytes a t p u k m c n s l0 l1 l2 l3 l4 l5 l6 l7 l8 e0 e1 e2 e3 e4 e5 e6 e7 e8 e9 = rw (e0, e1, e2, e3, e4, e5, e6, e7, e8, e9, append-nil) refl

pub is_nil : (bytes : List ℕ) → (length bytes == 0) ≡ true → bytes ≡ []
is_nil [] e = refl
is_nil (b ∷ bytes) e = absurd (let h : length (b ∷ bytes) ≡ 0 = eqb-true (length (b ∷ bytes)) 0 e in omega (arith, h))
