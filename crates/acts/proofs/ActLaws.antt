-- Each act has a text of its own, of one line.
use Rattle.std.proofs.Common.{◌≡◌, ℕ, false, true≢false, List, [], ◌∷◌, codes, refl, sym, ap, ◌∙◌, arith}
use Rattle.std.specs.List.{AllByRecursion}
use Rattle.tg_text.specs.KeySpelling.{spell_scope, IsScope}
use Rattle.tg_text.specs.Spelling.{has_newline, has_space, spaced, spell_base64, spell_decimal, spell_hex, AreBytes, IsHash, IsPublicKey, IsTitle}
use Rattle.tg_text.specs.declared.keys.Scope.{Scope}
use Rattle.tg_text.specs.declared.keys.Scope.TheVariants.{Team, Role, User, Device as DeviceScope}
use Rattle.tg_text.proofs.Splits.{begins, lacks_append, one_split}
use Rattle.tg_text.proofs.FieldLaws.{base64_lacks, base64_once, decimal_lacks, decimal_once, hex_lacks, hex_once, name_lacks, title_lacks}
use Rattle.tg_text.proofs.KeyTexts.{scope_in_line, scope_once}
use Rattle.acts.specs.ActText.{act_fields, act_word, act_words, spell_act, spell_kind, IsActInRange, IsInviteKey, IsName, IsRotated, IsTime, IsUses}
use Rattle.acts.specs.Fields.{AreTwo, IsDeviceByProof, spell_device_by_proof, spell_text, spell_two}
use Rattle.acts.specs.declared.entry.InviteKind.{InviteKind}
use Rattle.acts.specs.declared.entry.InviteKind.TheVariants.{Member, Device}
use Rattle.acts.specs.declared.entry.Act.{Act}
use Rattle.acts.specs.declared.entry.Act.TheVariants.{Found, AddMember, RemoveMember, AddRole, RemoveRole, GiveRole, TakeRole, AddDevice, RemoveDevice, InviteMember, InviteDevice, Revoke, AdmitMember, AdmitDevice, Rotate, Seal, Title, Join}
use Rattle.acts.proofs.Pairs.{hex_word, key_word, kind_word, name_word, uses_word}
use Rattle.acts.proofs.Forms.{IsForm, form_found, form_add_member, form_remove_member, form_add_role, form_remove_role, form_give_role, form_take_role, form_add_device, form_remove_device, form_invite_member, form_invite_device, form_revoke, form_admit_member, form_admit_device, form_rotate, form_title}

-- no spelling has a space
record IsOneWord {F : Type 0} (IsF : F → Type 0) (spell : F → List ℕ) : Type 0 where
  word : (f : F) → IsF f → has_space (spell f) ≡ false

-- each value has a spelling of its own
record IsOnce {F : Type 0} (IsF : F → Type 0) (spell : F → List ℕ) : Type 0 where
  same : (f g : F) → IsF f → IsF g → spell f ≡ spell g → f ≡ g

two_once : {X Y : Type 0} {IsX : X → Type 0} {IsY : Y → Type 0} {spell : X → List ℕ} {spell_next : Y → List ℕ} → IsOneWord IsX spell → IsOnce IsX spell → IsOnce IsY spell_next
    → IsOnce (AreTwo IsX IsY) (spell_two spell spell_next)
two_once {spell} {spell_next} whole x y = record {
  same = λ f g is other e.
      let cut = one_split 32 (spell f.0) (spell g.0) (spell_next f.1) (spell_next g.1) (whole.word f.0 is.0) (whole.word g.0 other.0) e in
      let first : f.0 ≡ g.0 = x.same f.0 g.0 is.0 other.0 cut.0 in
      let second : f.1 ≡ g.1 = y.same f.1 g.1 is.1 other.1 cut.1 in
      λ i. (first i, second i);
}

text_field : {IsX : List ℕ → Type 0} → IsOnce IsX spell_text
text_field = record { same = λ f g is other e. e }

hex_field : IsOnce IsHash spell_hex
hex_field = record { same = λ f g is other e. hex_once f g is.bytes other.bytes e }

key_field : IsOnce IsPublicKey spell_base64
key_field = record { same = λ f g is other e. base64_once f g is.bytes other.bytes e }

invite_key_field : IsOnce IsInviteKey spell_base64
invite_key_field = record { same = λ f g is other e. base64_once f g is.0.bytes other.0.bytes e }

proof_field : IsOnce AreBytes spell_base64
proof_field = record { same = base64_once }

uses_field : IsOnce IsUses spell_decimal
uses_field = record { same = λ f g is other e. decimal_once f g (omega (arith, is.1)) (omega (arith, other.1)) e }

time_field : IsOnce IsTime spell_decimal
time_field = record { same = decimal_once }

pub kind_once : (f g : InviteKind) → spell_kind f ≡ spell_kind g → f ≡ g
unfolding begins
kind_once Member Member e = refl
kind_once Device Device e = refl
kind_once Member Device e = absurd (true≢false (ap (begins (codes "member")) e))
kind_once Device Member e = absurd (true≢false (ap (begins (codes "device")) e))

kind_field : IsOnce (λ (k : InviteKind). Unit {0}) spell_kind
kind_field = record { same = λ f g is other e. kind_once f g e }

is_scope : (s : Scope) → IsRotated s → IsScope s
is_scope Team is = is
is_scope (Role r) is = is
is_scope (User u) is = is
is_scope (DeviceScope d) is = absurd is

rotated_field : IsOnce IsRotated spell_scope
rotated_field = record { same = λ f g is other e. scope_once f g (is_scope f is) (is_scope g other) e }

name_whole : IsOneWord IsName spell_text
name_whole = record { word = name_word }

uses_whole : IsOneWord IsUses spell_decimal
uses_whole = record { word = uses_word }

hex_whole : IsOneWord IsHash spell_hex
hex_whole = record { word = λ x is. hex_word x }

key_whole : IsOneWord IsPublicKey spell_base64
key_whole = record { word = λ x is. key_word x }

invite_key_whole : IsOneWord IsInviteKey spell_base64
invite_key_whole = record { word = λ x is. key_word x }

kind_whole : IsOneWord (λ (k : InviteKind). Unit {0}) spell_kind
kind_whole = record { word = λ k is. kind_word k }

invitation_field : IsOnce (AreTwo IsInviteKey (AreTwo IsUses IsTime)) (spell_two spell_base64 (spell_two spell_decimal spell_decimal))
invitation_field = two_once invite_key_whole invite_key_field (two_once uses_whole uses_field time_field)

device_by_proof : IsOnce IsDeviceByProof spell_device_by_proof
device_by_proof = two_once key_whole key_field (two_once hex_whole hex_field (two_once key_whole key_field proof_field))

made_once : {F : Type 0} {IsF : F → Type 0} {spell : F → List ℕ} {make : F → Act} {word : List ℕ} → IsForm IsF spell make word → IsOnce IsF spell
    → (f : F) → IsF f → (b : Act) → IsActInRange b → spell_act (make f) ≡ spell_act b → make f ≡ b
made_once {spell} {make} form once f is b other e =
    let made = form.only b other (spell f) (sym (form.spelled f) ∙ e) in
    ap make (once.same f made.fields is made.ranges made.spelled) ∙ sym made.act

pub act_once : (a b : Act) → IsActInRange a → IsActInRange b → spell_act a ≡ spell_act b → a ≡ b
unfolding begins
act_once (Found seal title) b is other e = made_once form_found (two_once hex_whole hex_field (text_field {IsX = IsTitle})) (seal, title) is b other e
act_once (AddMember user key seal) b is other e = made_once form_add_member (two_once name_whole text_field (two_once key_whole key_field hex_field)) (user, (key, seal)) (is.0, (is.1, is.2)) b other e
act_once (RemoveMember user) b is other e = made_once form_remove_member text_field user is b other e
act_once (AddRole role) b is other e = made_once form_add_role text_field role is b other e
act_once (RemoveRole role) b is other e = made_once form_remove_role text_field role is b other e
act_once (GiveRole user role) b is other e = made_once form_give_role (two_once name_whole text_field text_field) (user, role) is b other e
act_once (TakeRole user role) b is other e = made_once form_take_role (two_once name_whole text_field text_field) (user, role) is b other e
act_once (AddDevice key seal) b is other e = made_once form_add_device (two_once key_whole key_field hex_field) (key, seal) is b other e
act_once (RemoveDevice user id) b is other e = made_once form_remove_device (two_once name_whole text_field hex_field) (user, id) is b other e
act_once (InviteMember key uses expiry) b is other e = made_once form_invite_member invitation_field (key, (uses, expiry)) (is.0, (is.1, is.2)) b other e
act_once (InviteDevice key uses expiry) b is other e = made_once form_invite_device invitation_field (key, (uses, expiry)) (is.0, (is.1, is.2)) b other e
act_once (Revoke kind id) b is other e = made_once form_revoke (two_once kind_whole kind_field hex_field) (kind, id) (tt, is) b other e
act_once (AdmitMember user key seal by proof) b is other e = made_once form_admit_member (two_once name_whole text_field device_by_proof) (user, (key, (seal, (by, proof)))) (is.0, (is.1, (is.2, (is.3, is.4)))) b other e
act_once (AdmitDevice key seal by proof) b is other e = made_once form_admit_device device_by_proof (key, (seal, (by, proof))) (is.0, (is.1, (is.2, is.3))) b other e
act_once (Rotate scope) b is other e = made_once form_rotate rotated_field scope is b other e
act_once (Title title) b is other e = made_once form_title text_field title is b other e
act_once Seal Seal is other e = refl
act_once Seal _ is other e = absurd (true≢false (ap (begins (codes "seal")) e))
act_once Join Join is other e = refl
act_once Join _ is other e = absurd (true≢false (ap (begins (codes "join")) e))

-- a text of fields has no newline where no field has one
spaced_lacks : (fields : List (List ℕ)) → AllByRecursion (λ f. has_newline f ≡ false) fields → has_newline (spaced fields) ≡ false
spaced_lacks [] all = refl
spaced_lacks (field ∷ []) all = all.0
spaced_lacks (field ∷ next ∷ fields) all = lacks_append 10 field (32 ∷ spaced (next ∷ fields)) all.0 (spaced_lacks (next ∷ fields) all.1)

hex_line : (x : List ℕ) → has_newline (spell_hex x) ≡ false
hex_line x = hex_lacks 10 x refl

base64_line : (x : List ℕ) → has_newline (spell_base64 x) ≡ false
base64_line x = base64_lacks 10 x refl refl

name_line : (x : List ℕ) → IsName x → has_newline x ≡ false
name_line x is = name_lacks 10 x refl is

uses_line : (n : ℕ) → IsUses n → has_newline (spell_decimal n) ≡ false
uses_line n is = decimal_lacks 10 n refl (omega (arith, is.1))

pub kind_line : (k : InviteKind) → has_newline (spell_kind k) ≡ false
kind_line Member = refl
kind_line Device = refl

fields_lack : (a : Act) → IsActInRange a → AllByRecursion (λ f. has_newline f ≡ false) (act_fields a)
fields_lack (Found seal title) is = (hex_line seal, (title_lacks 10 title refl is.1, tt))
fields_lack (AddMember user key seal) is = (name_line user is.0, (base64_line key, (hex_line seal, tt)))
fields_lack (RemoveMember user) is = (name_line user is, tt)
fields_lack (AddRole role) is = (name_line role is, tt)
fields_lack (RemoveRole role) is = (name_line role is, tt)
fields_lack (GiveRole user role) is = (name_line user is.0, (name_line role is.1, tt))
fields_lack (TakeRole user role) is = (name_line user is.0, (name_line role is.1, tt))
fields_lack (AddDevice key seal) is = (base64_line key, (hex_line seal, tt))
fields_lack (RemoveDevice user id) is = (name_line user is.0, (hex_line id, tt))
fields_lack (InviteMember key uses expiry) is = (base64_line key, (uses_line uses is.1, (decimal_lacks 10 expiry refl is.2, tt)))
fields_lack (InviteDevice key uses expiry) is = (base64_line key, (uses_line uses is.1, (decimal_lacks 10 expiry refl is.2, tt)))
fields_lack (Revoke kind id) is = (kind_line kind, (hex_line id, tt))
fields_lack (AdmitMember user key seal by proof) is = (name_line user is.0, (base64_line key, (hex_line seal, (base64_line by, (base64_line proof, tt)))))
fields_lack (AdmitDevice key seal by proof) is = (base64_line key, (hex_line seal, (base64_line by, (base64_line proof, tt))))
fields_lack (Rotate scope) is = ((scope_in_line scope (is_scope scope is)).0, tt)
fields_lack (Title title) is = (title_lacks 10 title refl is, tt)
fields_lack Seal is = tt
fields_lack Join is = tt

word_line : (a : Act) → has_newline (act_word a) ≡ false
word_line Join = refl
word_line _ = refl

pub act_lacks : (a : Act) → IsActInRange a → has_newline (spell_act a) ≡ false
act_lacks a is = spaced_lacks (act_words a) (word_line a, fields_lack a is)
