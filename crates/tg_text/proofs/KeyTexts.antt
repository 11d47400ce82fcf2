-- The texts of scopes and key ids: how they are cut, which bytes stand in none, and that each is of one value.
use Rattle.std.proofs.Common.{◌≡◌, ℕ, ◌≤◌, ◌<◌, ◌^◌, false, nat_eq, true≢false, List, ◌∷◌, ◌++◌, codes, refl, sym, ap, ◌∙◌, append_assoc, arith}
use Rattle.std.specs.Char.{is_ascii_digit}
use Rattle.std.specs.Cmp.Lexicographic.{pointwise}
use Rattle.hex.specs.Hex.{lower_digits}
use Rattle.tg_text.specs.KeySpelling.{IsKeyId, IsScope, last_generation, spell_key_id, spell_scope}
use Rattle.tg_text.specs.Spelling.{has_byte, is_name_byte, spell_decimal, spell_hex}
use Rattle.tg_text.specs.declared.keys.Scope.{Scope}
use Rattle.tg_text.specs.declared.keys.Scope.TheVariants.{Team, Role, User, Device}
use Rattle.tg_text.specs.declared.keys.KeyId.{KeyId}
use Rattle.tg_text.proofs.Splits.{begins, lacks_append, no_split, one_split, other_word}
use Rattle.tg_text.proofs.FieldLaws.{decimal_lacks, decimal_once, hex_lacks, hex_once, name_lacks}

-- no scope is of another kind
pub other_kind : (s : Scope) (kind name : List ℕ) → has_byte 58 kind ≡ false → pointwise nat_eq kind (codes "role") ≡ false → pointwise nat_eq kind (codes "user") ≡ false
    → pointwise nat_eq kind (codes "device") ≡ false → kind ++ 58 ∷ name ≡ spell_scope s → ⊥
other_kind Team kind name lacks role user device e = no_split 58 (codes "team") kind name refl (sym e)
other_kind (Role r) kind name lacks role user device e = other_word kind (codes "role") role refl (one_split 58 kind (codes "role") name r lacks refl e).0
other_kind (User u) kind name lacks role user device e = other_word kind (codes "user") user refl (one_split 58 kind (codes "user") name u lacks refl e).0
other_kind (Device d) kind name lacks role user device e =
    other_word kind (codes "device") device refl (one_split 58 kind (codes "device") name (spell_hex d) lacks refl e).0

-- a byte that may stand in no part of a scope's text
record IsOutside (c : ℕ) : Type 0 where
  names : is_name_byte c ≡ false
  digits : has_byte c (0 ∷ lower_digits) ≡ false
  decimal : is_ascii_digit c ≡ false
  kinds : has_byte c (codes "team") ≡ false
  role : has_byte c (codes "role:") ≡ false
  user : has_byte c (codes "user:") ≡ false
  device : has_byte c (codes "device:") ≡ false

newline : IsOutside 10
newline = record { names = refl; digits = refl; decimal = refl; kinds = refl; role = refl; user = refl; device = refl }

space : IsOutside 32
space = record { names = refl; digits = refl; decimal = refl; kinds = refl; role = refl; user = refl; device = refl }

slash : IsOutside 47
slash = record { names = refl; digits = refl; decimal = refl; kinds = refl; role = refl; user = refl; device = refl }

scope_lacks : (c : ℕ) (s : Scope) → IsOutside c → IsScope s → has_byte c (spell_scope s) ≡ false
scope_lacks c Team out is = out.kinds
scope_lacks c (Role r) out is = lacks_append c (codes "role:") r out.role (name_lacks c r out.names is)
scope_lacks c (User u) out is = lacks_append c (codes "user:") u out.user (name_lacks c u out.names is)
scope_lacks c (Device d) out is = lacks_append c (codes "device:") (spell_hex d) out.device (hex_lacks c d out.digits)

pub scope_in_line : (s : Scope) → IsScope s → (has_byte 10 (spell_scope s) ≡ false) × (has_byte 32 (spell_scope s) ≡ false)
scope_in_line s is = (scope_lacks 10 s newline is, scope_lacks 32 s space is)

pub scope_once : (a b : Scope) → IsScope a → IsScope b → spell_scope a ≡ spell_scope b → a ≡ b
unfolding begins
scope_once Team Team is other e = refl
scope_once (Role r) (Role s) is other e = let h : r ≡ s = cc in cc
scope_once (User u) (User v) is other e = let h : u ≡ v = cc in cc
scope_once (Device d) (Device f) is other e = let h : spell_hex d ≡ spell_hex f = cc in let same : d ≡ f = hex_once d f is.bytes other.bytes h in cc
scope_once Team _ is other e = absurd (true≢false (ap (begins (codes "team")) e))
scope_once (Role r) _ is other e = absurd (true≢false (ap (begins (codes "role:")) e))
scope_once (User u) _ is other e = absurd (true≢false (ap (begins (codes "user:")) e))
scope_once (Device d) _ is other e = absurd (true≢false (ap (begins (codes "device:")) e))

generation_small : (k : KeyId) → IsKeyId k → k.generation < 2 ^ 64
generation_small k is = small k.scope k.generation is.generation
  where
    small : (s : Scope) (n : ℕ) → n ≤ last_generation s → n < 2 ^ 64
    small Team n h = omega (arith, h)
    small (Role r) n h = omega (arith, h)
    small (User u) n h = omega (arith, h)
    small (Device d) n h = omega (arith, h)

-- the parts of a key id, and a slash between them
key_shape : (k : KeyId) → spell_key_id k ≡ spell_scope k.scope ++ 47 ∷ (spell_decimal k.generation ++ 47 ∷ spell_hex k.public)
key_shape k =
    append_assoc (spell_scope k.scope ++ codes "/" ++ spell_decimal k.generation) (codes "/") (spell_hex k.public)
    ∙ append_assoc (spell_scope k.scope ++ codes "/") (spell_decimal k.generation) (47 ∷ spell_hex k.public)
    ∙ append_assoc (spell_scope k.scope) (codes "/") (spell_decimal k.generation ++ 47 ∷ spell_hex k.public)

-- a text that is cut at its first two slashes has the parts of the key id
pub key_parts : (k : KeyId) (text scope rest generation public : List ℕ) → IsKeyId k → has_byte 47 scope ≡ false → text ≡ scope ++ 47 ∷ rest → has_byte 47 generation ≡ false
    → rest ≡ generation ++ 47 ∷ public → text ≡ spell_key_id k → (scope ≡ spell_scope k.scope) × (generation ≡ spell_decimal k.generation) × (public ≡ spell_hex k.public)
key_parts k text scope rest generation public is lacks cut lacks2 cut2 e =
    let first = one_split 47 scope (spell_scope k.scope) rest (spell_decimal k.generation ++ 47 ∷ spell_hex k.public) lacks (scope_lacks 47 k.scope slash is.scope) (sym cut ∙ e ∙ key_shape k) in
    let second = one_split 47 generation (spell_decimal k.generation) public (spell_hex k.public) lacks2 (decimal_lacks 47 k.generation refl (generation_small k is)) (sym cut2 ∙ first.1) in
    (first.0, second.0, second.1)

pub key_in_line : (k : KeyId) → IsKeyId k → (has_byte 10 (spell_key_id k) ≡ false) × (has_byte 32 (spell_key_id k) ≡ false)
key_in_line k is = (key_lacks 10 newline refl, key_lacks 32 space refl)
  where
    key_lacks : (c : ℕ) → IsOutside c → has_byte c (codes "/") ≡ false → has_byte c (spell_key_id k) ≡ false
    key_lacks c out none =
        let public = lacks_append c (codes "/") (spell_hex k.public) none (hex_lacks c k.public out.digits) in
        let number = lacks_append c (spell_decimal k.generation) (codes "/" ++ spell_hex k.public) (decimal_lacks c k.generation out.decimal (generation_small k is)) public in
        let rest = codes "/" ++ (spell_decimal k.generation ++ (codes "/" ++ spell_hex k.public)) in
        let behind = lacks_append c (codes "/") (spell_decimal k.generation ++ (codes "/" ++ spell_hex k.public)) none number in
        ap (has_byte c) (key_shape k) ∙ lacks_append c (spell_scope k.scope) rest (scope_lacks c k.scope out is.scope) behind

pub same_key : (a b : KeyId) → a.scope ≡ b.scope → a.generation ≡ b.generation → a.public ≡ b.public → a ≡ b
same_key a b s g p = λ i. record { scope = s i; generation = g i; public = p i }

pub key_of_parts : (k : KeyId) (text scope rest generation public : List ℕ) → text ≡ scope ++ 47 ∷ rest → rest ≡ generation ++ 47 ∷ public → scope ≡ spell_scope k.scope
    → generation ≡ spell_decimal k.generation → public ≡ spell_hex k.public → text ≡ spell_key_id k
key_of_parts k text scope rest generation public cut cut2 s g p = rw (cut, cut2, s, g, p) (sym (key_shape k))

pub key_once : (a b : KeyId) → IsKeyId a → IsKeyId b → spell_key_id a ≡ spell_key_id b → a ≡ b
key_once a b is other e =
    let rest = spell_decimal a.generation ++ 47 ∷ spell_hex a.public in
    let parts = key_parts b (spell_key_id a) (spell_scope a.scope) rest (spell_decimal a.generation) (spell_hex a.public) other (scope_lacks 47 a.scope slash is.scope) (key_shape a)
    (decimal_lacks 47 a.generation refl (generation_small a is)) refl e in
    same_key a b (scope_once a.scope b.scope is.scope other.scope parts.0) (decimal_once a.generation b.generation (generation_small a is) (generation_small b other) parts.1)
    (hex_once a.public b.public is.public.bytes other.public.bytes parts.2)

pub no_second_slash : (k : KeyId) (text scope rest : List ℕ) → IsKeyId k → has_byte 47 scope ≡ false → text ≡ scope ++ 47 ∷ rest → has_byte 47 rest ≡ false → text ≡ spell_key_id k → ⊥
no_second_slash k text scope rest is lacks cut none e =
    let first = one_split 47 scope (spell_scope k.scope) rest (spell_decimal k.generation ++ 47 ∷ spell_hex k.public) lacks (scope_lacks 47 k.scope slash is.scope) (sym cut ∙ e ∙ key_shape k) in
    no_split 47 rest (spell_decimal k.generation) (spell_hex k.public) none first.1
