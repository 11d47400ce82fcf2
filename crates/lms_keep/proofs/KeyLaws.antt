-- The text of a key, line by line, and that it is the text of one key.
use Rattle.std.proofs.Common.{◌≡◌, ℕ, ◌<◌, ◌≤◌, ◌^◌, ◌==◌, true, List, [], ◌∷◌, ◌++◌, Option, None, Some, length, codes, refl, sym, ap, ◌∙◌, append-nil, append_assoc, arith}
use Rattle.std.proofs.lemmas.Bool.{eqb-true}
use Rattle.std.proofs.lemmas.List.{append_cancel_left}
use Rattle.tg_text.specs.Reading.{Reads}
use Rattle.tg_text.specs.Spelling.{line_of, spell_decimal, spell_hex}
use Rattle.tg_text.proofs.FieldLaws.{decimal_lacks, decimal_once, hex_lacks, hex_once, name_lacks}
use Rattle.lms_keep.specs.declared.key_state.KeyState.{KeyState}
use Rattle.lms_keep.specs.KeyText.{first_line, user_line, kinds_line, kinds_field, id_line, seed_line, secret_line, next_line, key_text, leaves, IsKeyState, KeyIsSpelledOnce}
use Rattle.lms_keep.proofs.KindLaws.{kinds_lack, kinds_once, leaves_fit}
use Rattle.tg_text.proofs.FieldLines.{spelled_once}

-- the text from a line on
abbrev pub from_next : KeyState → List ℕ
from_next s = next_line s.next

abbrev pub from_secret : KeyState → List ℕ
from_secret s = secret_line s.secret ++ from_next s

abbrev pub from_seed : KeyState → List ℕ
from_seed s = seed_line s.seed ++ from_secret s

abbrev pub from_id : KeyState → List ℕ
from_id s = id_line s.id ++ from_seed s

abbrev pub from_kinds : KeyState → List ℕ
from_kinds s = kinds_line s.lms s.ots ++ from_id s

abbrev pub from_user : KeyState → List ℕ
from_user s = user_line s.user ++ from_kinds s

parts : (a b c d e f g : List ℕ) → a ++ b ++ c ++ d ++ e ++ f ++ g ≡ a ++ (b ++ (c ++ (d ++ (e ++ (f ++ g)))))
parts a b c d e f g = simp append_assoc

pub text_parts : (s : KeyState) → key_text s ≡ line_of first_line ++ from_user s
text_parts s =
    parts (line_of first_line) (user_line s.user) (kinds_line s.lms s.ots) (id_line s.id) (seed_line s.seed) (secret_line s.secret) (next_line s.next)

-- what stands after the first line of the text of a key
pub rest_is : (bytes rest : List ℕ) (s : KeyState) → bytes ≡ line_of first_line ++ rest → bytes ≡ key_text s → rest ≡ from_user s
rest_is bytes rest s e w = append_cancel_left (line_of first_line) rest (from_user s) (sym e ∙ w ∙ text_parts s)

same_some : {X : Type 0} (x y : X) → Some x ≡ Some y → x ≡ y
same_some x y e = cc

first_is : (a b c d : ℕ) → ◌≡◌ {A = Option (ℕ × ℕ)} (Some (a, b)) (Some (c, d)) → a ≡ c
first_is a b c d e = ap (λ (k : ℕ × ℕ). k.0) (same_some {X = ℕ × ℕ} (a, b) (c, d) e)

next_fits : (s : KeyState) → IsKeyState s → s.next < 2 ^ 64
next_fits s is = omega (arith, is.next, leaves_fit s.lms)

same_key : (s t : KeyState) → s.user ≡ t.user → s.lms ≡ t.lms → s.ots ≡ t.ots → s.id ≡ t.id → s.seed ≡ t.seed → s.secret ≡ t.secret → s.next ≡ t.next → s ≡ t
same_key s t user lms ots id seed secret next =
    let same : ◌≡◌ {A = KeyState} (record { user = s.user; lms = s.lms; ots = s.ots; id = s.id; seed = s.seed; secret = s.secret; next = s.next })
    (record { user = t.user; lms = t.lms; ots = t.ots; id = t.id; seed = t.seed; secret = t.secret; next = t.next }) = cc in
    same

pub key_once : KeyIsSpelledOnce
key_once s t is it e =
    let user = spelled_once (codes "user") s.user t.user (from_kinds s) (from_kinds t) (name_lacks 10 s.user refl is.user) (name_lacks 10 t.user refl it.user)
    (append_cancel_left (line_of first_line) (from_user s) (from_user t) (sym (text_parts s) ∙ e ∙ text_parts t)) in
    let kinds = spelled_once (codes "kinds") (kinds_field s.lms s.ots) (kinds_field t.lms t.ots) (from_id s) (from_id t)
    (kinds_lack s.lms s.ots is.kinds) (kinds_lack t.lms t.ots it.kinds) user.1 in
    let id = spelled_once (codes "id") (spell_hex s.id) (spell_hex t.id) (from_seed s) (from_seed t) (hex_lacks 10 s.id refl) (hex_lacks 10 t.id refl) kinds.1 in
    let seed = spelled_once (codes "seed") (spell_hex s.seed) (spell_hex t.seed) (from_secret s) (from_secret t) (hex_lacks 10 s.seed refl) (hex_lacks 10 t.seed refl) id.1 in
    let secret = spelled_once (codes "secret") (spell_hex s.secret) (spell_hex t.secret) (from_next s) (from_next t)
    (hex_lacks 10 s.secret refl) (hex_lacks 10 t.secret refl) seed.1 in
    let next = spelled_once (codes "next") (spell_decimal s.next) (spell_decimal t.next) [] []
    (decimal_lacks 10 s.next refl (next_fits s is)) (decimal_lacks 10 t.next refl (next_fits t it)) (ap (λ (x : List ℕ). x ++ []) secret.1) in
    let two = kinds_once s.lms s.ots t.lms t.ots is.kinds it.kinds kinds.0 in
    same_key s t user.0 two.0 two.1 (hex_once s.id t.id is.id.bytes it.id.bytes id.0) (hex_once s.seed t.seed is.seed.bytes it.seed.bytes seed.0)
    (hex_once s.secret t.secret is.secret.bytes it.secret.bytes secret.0) (decimal_once s.next t.next (next_fits s is) (next_fits t it) next.0)

pub next_within : (s : KeyState) (lms ots most : ℕ) → ◌≡◌ {A = Option (ℕ × ℕ)} (Some (lms, ots)) (Some (s.lms, s.ots)) → most ≡ leaves lms → s.next ≤ leaves s.lms → s.next ≤ most
next_within s lms ots most e is h = let same : lms ≡ s.lms = first_is lms ots s.lms s.ots e in rw (is, same) h

pub is_nil : (bytes : List ℕ) → (length bytes == 0) ≡ true → bytes ≡ []
is_nil [] e = refl
is_nil (b ∷ bytes) e = absurd (let h : length (b ∷ bytes) ≡ 0 = eqb-true (length (b ∷ bytes)) 0 e in omega (arith, h))

pub no_key : (bytes : List ℕ) → ((s : KeyState) → IsKeyState s → bytes ≡ key_text s → ⊥) → Reads IsKeyState key_text bytes None
no_key bytes none = record { found = tt; only = λ s is e. absurd (none s is e) }

pub one_key : (bytes : List ℕ) (s : KeyState) → IsKeyState s → bytes ≡ key_text s → Reads IsKeyState key_text bytes (Some s)
one_key bytes s is e = record { found = (is, e); only = λ t other w. ap Some (key_once s t is other (sym e ∙ w)) }

pub joined : (bytes a b c d e f g l0 l1 l2 l3 l4 l5 l6 : List ℕ) → bytes ≡ a ++ l0 → l0 ≡ b ++ l1 → l1 ≡ c ++ l2 → l2 ≡ d ++ l3 → l3 ≡ e ++ l4 → l4 ≡ f ++ l5 → l5 ≡ g ++ l6 → l6 ≡ []
    → bytes ≡ a ++ (b ++ (c ++ (d ++ (e ++ (f ++ g)))))
joined bytes a b c d e f g l0 l1 l2 l3 l4 l5 l6 e0 e1 e2 e3 e4 e5 e6 e7 = rw (e0, e1, e2, e3, e4, e5, e6, e7, append-nil) refl
