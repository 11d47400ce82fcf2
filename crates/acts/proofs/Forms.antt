-- The text of an act is its word and the fields of that word.
use Rattle.std.proofs.Common.{◌≡◌, ℕ, true≢false, List, ◌∷◌, ◌++◌, codes, Option, Some, None, refl, sym, ap, ◌∙◌, subst}
use Rattle.tg_text.specs.Reading.{Reads}
use Rattle.tg_text.specs.KeySpelling.{spell_scope}
use Rattle.tg_text.specs.Spelling.{IsHash, IsPublicKey, IsTitle, spell_base64, spell_decimal, spell_hex}
use Rattle.tg_text.specs.declared.keys.Scope.{Scope}
use Rattle.tg_text.proofs.Splits.{begins}
use Rattle.acts.specs.ActText.{spell_act, spell_kind, IsActInRange, IsInviteKey, IsName, IsRotated, IsTime, IsUses}
use Rattle.acts.specs.Fields.{AreTwo, IsDeviceByProof, spell_device_by_proof, spell_text, spell_two}
use Rattle.acts.specs.declared.entry.InviteKind.{InviteKind}
use Rattle.acts.specs.declared.entry.Act.{Act}
use Rattle.acts.specs.declared.entry.Act.TheVariants.{Found, AddMember, RemoveMember, AddRole, RemoveRole, GiveRole, TakeRole, AddDevice, RemoveDevice, InviteMember, InviteDevice, Revoke, AdmitMember, AdmitDevice, Rotate, Title}

-- the act is made of fields that the rest of its text spells
pub record IsMade {F : Type 0} (IsF : F → Type 0) (spell : F → List ℕ) (make : F → Act) (a : Act) (text : List ℕ) : Type 0 where
  pub fields : F
  pub act : a ≡ make fields
  pub ranges : IsF fields
  pub spelled : text ≡ spell fields

-- the acts of a word are those that are made of its fields
pub record IsForm {F : Type 0} (IsF : F → Type 0) (spell : F → List ℕ) (make : F → Act) (word : List ℕ) : Type 0 where
  pub ranges : (f : F) → IsF f → IsActInRange (make f)
  pub spelled : (f : F) → spell_act (make f) ≡ word ++ 32 ∷ spell f
  pub only : (a : Act) → IsActInRange a → (rest : List ℕ) → word ++ 32 ∷ rest ≡ spell_act a → IsMade IsF spell make a rest

-- where the fields aren't read, no act is
pub no_fields : {F : Type 0} {IsF : F → Type 0} {spell : F → List ℕ} {make : F → Act} {word : List ℕ} → IsForm IsF spell make word
    → (rest : List ℕ) (read : Option F) → read ≡ None → Reads IsF spell rest read → Reads IsActInRange spell_act (word ++ 32 ∷ rest) None
no_fields form rest read none reads = record {
  found = tt;
  only = λ a is e.
      let made = form.only a is rest e in
      let some : read ≡ Some made.fields = reads.only made.fields made.ranges made.spelled in
      absurd (let h : Some made.fields ≡ None = sym some ∙ none in cc);
}

-- where they are read, the act is made of them
pub with_fields : {F : Type 0} {IsF : F → Type 0} {spell : F → List ℕ} {make : F → Act} {word : List ℕ} → IsForm IsF spell make word
    → (rest : List ℕ) (f : F) → Reads IsF spell rest (Some f) → Reads IsActInRange spell_act (word ++ 32 ∷ rest) (Some (make f))
with_fields {make} {word} form rest f reads = record {
  found = (form.ranges f reads.found.0, ap (λ (t : List ℕ). word ++ 32 ∷ t) reads.found.1 ∙ sym (form.spelled f));
  only = λ a is e.
      let made = form.only a is rest e in
      let some : Some f ≡ Some made.fields = reads.only made.fields made.ranges made.spelled in
      let same : f ≡ made.fields = cc in
      ap (λ x. Some x) (ap make same ∙ sym made.act);
}

pub with_read : {F : Type 0} {IsF : F → Type 0} {spell : F → List ℕ} {make : F → Act} {word : List ℕ} → IsForm IsF spell make word
    → (rest : List ℕ) (read : Option F) (f : F) → read ≡ Some f → Reads IsF spell rest read → Reads IsActInRange spell_act (word ++ 32 ∷ rest) (Some (make f))
with_read {F} {IsF} {spell} form rest read f some reads = with_fields form rest f (subst (λ (r : Option F). Reads IsF spell rest r) some reads)

only_found : (a : Act) → IsActInRange a → (rest : List ℕ) → codes "found" ++ 32 ∷ rest ≡ spell_act a → IsMade (AreTwo IsHash IsTitle) (spell_two spell_hex spell_text) (λ (f : List ℕ × List ℕ). Found f.0 f.1) a rest
unfolding begins
only_found (Found seal title) is rest e = record { fields = (seal, title); act = refl; ranges = is; spelled = cc }
only_found _ is rest e = absurd (true≢false (ap (begins (codes "found ")) e))

pub form_found : IsForm (AreTwo IsHash IsTitle) (spell_two spell_hex spell_text) (λ (f : List ℕ × List ℕ). Found f.0 f.1) (codes "found")
form_found = record { ranges = λ f is. is; spelled = λ f. refl; only = only_found }

only_add_member : (a : Act) → IsActInRange a → (rest : List ℕ) → codes "add_member" ++ 32 ∷ rest ≡ spell_act a → IsMade (AreTwo IsName (AreTwo IsPublicKey IsHash)) (spell_two spell_text (spell_two spell_base64 spell_hex)) (λ (f : List ℕ × (List ℕ × List ℕ)). AddMember f.0 f.1.0 f.1.1) a rest
unfolding begins
only_add_member (AddMember user key seal) is rest e = record { fields = (user, (key, seal)); act = refl; ranges = (is.0, (is.1, is.2)); spelled = cc }
only_add_member _ is rest e = absurd (true≢false (ap (begins (codes "add_member ")) e))

pub form_add_member : IsForm (AreTwo IsName (AreTwo IsPublicKey IsHash)) (spell_two spell_text (spell_two spell_base64 spell_hex)) (λ (f : List ℕ × (List ℕ × List ℕ)). AddMember f.0 f.1.0 f.1.1) (codes "add_member")
form_add_member = record { ranges = λ f is. (is.0, is.1.0, is.1.1); spelled = λ f. refl; only = only_add_member }

only_remove_member : (a : Act) → IsActInRange a → (rest : List ℕ) → codes "remove_member" ++ 32 ∷ rest ≡ spell_act a → IsMade IsName spell_text (λ (f : List ℕ). RemoveMember f) a rest
unfolding begins
only_remove_member (RemoveMember user) is rest e = record { fields = user; act = refl; ranges = is; spelled = cc }
only_remove_member _ is rest e = absurd (true≢false (ap (begins (codes "remove_member ")) e))

pub form_remove_member : IsForm IsName spell_text (λ (f : List ℕ). RemoveMember f) (codes "remove_member")
form_remove_member = record { ranges = λ f is. is; spelled = λ f. refl; only = only_remove_member }

only_add_role : (a : Act) → IsActInRange a → (rest : List ℕ) → codes "add_role" ++ 32 ∷ rest ≡ spell_act a → IsMade IsName spell_text (λ (f : List ℕ). AddRole f) a rest
unfolding begins
only_add_role (AddRole role) is rest e = record { fields = role; act = refl; ranges = is; spelled = cc }
only_add_role _ is rest e = absurd (true≢false (ap (begins (codes "add_role ")) e))

pub form_add_role : IsForm IsName spell_text (λ (f : List ℕ). AddRole f) (codes "add_role")
form_add_role = record { ranges = λ f is. is; spelled = λ f. refl; only = only_add_role }

only_remove_role : (a : Act) → IsActInRange a → (rest : List ℕ) → codes "remove_role" ++ 32 ∷ rest ≡ spell_act a → IsMade IsName spell_text (λ (f : List ℕ). RemoveRole f) a rest
unfolding begins
only_remove_role (RemoveRole role) is rest e = record { fields = role; act = refl; ranges = is; spelled = cc }
only_remove_role _ is rest e = absurd (true≢false (ap (begins (codes "remove_role ")) e))

pub form_remove_role : IsForm IsName spell_text (λ (f : List ℕ). RemoveRole f) (codes "remove_role")
form_remove_role = record { ranges = λ f is. is; spelled = λ f. refl; only = only_remove_role }

only_give_role : (a : Act) → IsActInRange a → (rest : List ℕ) → codes "give_role" ++ 32 ∷ rest ≡ spell_act a → IsMade (AreTwo IsName IsName) (spell_two spell_text spell_text) (λ (f : List ℕ × List ℕ). GiveRole f.0 f.1) a rest
unfolding begins
only_give_role (GiveRole user role) is rest e = record { fields = (user, role); act = refl; ranges = is; spelled = cc }
only_give_role _ is rest e = absurd (true≢false (ap (begins (codes "give_role ")) e))

pub form_give_role : IsForm (AreTwo IsName IsName) (spell_two spell_text spell_text) (λ (f : List ℕ × List ℕ). GiveRole f.0 f.1) (codes "give_role")
form_give_role = record { ranges = λ f is. is; spelled = λ f. refl; only = only_give_role }

only_take_role : (a : Act) → IsActInRange a → (rest : List ℕ) → codes "take_role" ++ 32 ∷ rest ≡ spell_act a → IsMade (AreTwo IsName IsName) (spell_two spell_text spell_text) (λ (f : List ℕ × List ℕ). TakeRole f.0 f.1) a rest
unfolding begins
only_take_role (TakeRole user role) is rest e = record { fields = (user, role); act = refl; ranges = is; spelled = cc }
only_take_role _ is rest e = absurd (true≢false (ap (begins (codes "take_role ")) e))

pub form_take_role : IsForm (AreTwo IsName IsName) (spell_two spell_text spell_text) (λ (f : List ℕ × List ℕ). TakeRole f.0 f.1) (codes "take_role")
form_take_role = record { ranges = λ f is. is; spelled = λ f. refl; only = only_take_role }

only_add_device : (a : Act) → IsActInRange a → (rest : List ℕ) → codes "add_device" ++ 32 ∷ rest ≡ spell_act a → IsMade (AreTwo IsPublicKey IsHash) (spell_two spell_base64 spell_hex) (λ (f : List ℕ × List ℕ). AddDevice f.0 f.1) a rest
unfolding begins
only_add_device (AddDevice key seal) is rest e = record { fields = (key, seal); act = refl; ranges = is; spelled = cc }
only_add_device _ is rest e = absurd (true≢false (ap (begins (codes "add_device ")) e))

pub form_add_device : IsForm (AreTwo IsPublicKey IsHash) (spell_two spell_base64 spell_hex) (λ (f : List ℕ × List ℕ). AddDevice f.0 f.1) (codes "add_device")
form_add_device = record { ranges = λ f is. is; spelled = λ f. refl; only = only_add_device }

only_remove_device : (a : Act) → IsActInRange a → (rest : List ℕ) → codes "remove_device" ++ 32 ∷ rest ≡ spell_act a → IsMade (AreTwo IsName IsHash) (spell_two spell_text spell_hex) (λ (f : List ℕ × List ℕ). RemoveDevice f.0 f.1) a rest
unfolding begins
only_remove_device (RemoveDevice user id) is rest e = record { fields = (user, id); act = refl; ranges = is; spelled = cc }
only_remove_device _ is rest e = absurd (true≢false (ap (begins (codes "remove_device ")) e))

pub form_remove_device : IsForm (AreTwo IsName IsHash) (spell_two spell_text spell_hex) (λ (f : List ℕ × List ℕ). RemoveDevice f.0 f.1) (codes "remove_device")
form_remove_device = record { ranges = λ f is. is; spelled = λ f. refl; only = only_remove_device }

only_invite_member : (a : Act) → IsActInRange a → (rest : List ℕ) → codes "invite_member" ++ 32 ∷ rest ≡ spell_act a → IsMade (AreTwo IsInviteKey (AreTwo IsUses IsTime)) (spell_two spell_base64 (spell_two spell_decimal spell_decimal)) (λ (f : List ℕ × (ℕ × ℕ)). InviteMember f.0 f.1.0 f.1.1) a rest
unfolding begins
only_invite_member (InviteMember key uses expiry) is rest e = record { fields = (key, (uses, expiry)); act = refl; ranges = (is.0, (is.1, is.2)); spelled = cc }
only_invite_member _ is rest e = absurd (true≢false (ap (begins (codes "invite_member ")) e))

pub form_invite_member : IsForm (AreTwo IsInviteKey (AreTwo IsUses IsTime)) (spell_two spell_base64 (spell_two spell_decimal spell_decimal)) (λ (f : List ℕ × (ℕ × ℕ)). InviteMember f.0 f.1.0 f.1.1) (codes "invite_member")
form_invite_member = record { ranges = λ f is. (is.0, is.1.0, is.1.1); spelled = λ f. refl; only = only_invite_member }

only_invite_device : (a : Act) → IsActInRange a → (rest : List ℕ) → codes "invite_device" ++ 32 ∷ rest ≡ spell_act a → IsMade (AreTwo IsInviteKey (AreTwo IsUses IsTime)) (spell_two spell_base64 (spell_two spell_decimal spell_decimal)) (λ (f : List ℕ × (ℕ × ℕ)). InviteDevice f.0 f.1.0 f.1.1) a rest
unfolding begins
only_invite_device (InviteDevice key uses expiry) is rest e = record { fields = (key, (uses, expiry)); act = refl; ranges = (is.0, (is.1, is.2)); spelled = cc }
only_invite_device _ is rest e = absurd (true≢false (ap (begins (codes "invite_device ")) e))

pub form_invite_device : IsForm (AreTwo IsInviteKey (AreTwo IsUses IsTime)) (spell_two spell_base64 (spell_two spell_decimal spell_decimal)) (λ (f : List ℕ × (ℕ × ℕ)). InviteDevice f.0 f.1.0 f.1.1) (codes "invite_device")
form_invite_device = record { ranges = λ f is. (is.0, is.1.0, is.1.1); spelled = λ f. refl; only = only_invite_device }

only_revoke : (a : Act) → IsActInRange a → (rest : List ℕ) → codes "revoke" ++ 32 ∷ rest ≡ spell_act a → IsMade (AreTwo (λ (_ : InviteKind). Unit {0}) IsHash) (spell_two spell_kind spell_hex) (λ (f : InviteKind × List ℕ). Revoke f.0 f.1) a rest
unfolding begins
only_revoke (Revoke kind id) is rest e = record { fields = (kind, id); act = refl; ranges = (tt, is); spelled = cc }
only_revoke _ is rest e = absurd (true≢false (ap (begins (codes "revoke ")) e))

pub form_revoke : IsForm (AreTwo (λ (_ : InviteKind). Unit {0}) IsHash) (spell_two spell_kind spell_hex) (λ (f : InviteKind × List ℕ). Revoke f.0 f.1) (codes "revoke")
form_revoke = record { ranges = λ f is. is.1; spelled = λ f. refl; only = only_revoke }

only_admit_member : (a : Act) → IsActInRange a → (rest : List ℕ) → codes "admit_member" ++ 32 ∷ rest ≡ spell_act a → IsMade (AreTwo IsName IsDeviceByProof) (spell_two spell_text spell_device_by_proof) (λ (f : List ℕ × (List ℕ × (List ℕ × (List ℕ × List ℕ)))). AdmitMember f.0 f.1.0 f.1.1.0 f.1.1.1.0 f.1.1.1.1) a rest
unfolding begins
only_admit_member (AdmitMember user key seal by proof) is rest e = record { fields = (user, (key, (seal, (by, proof)))); act = refl; ranges = (is.0, (is.1, (is.2, (is.3, is.4)))); spelled = cc }
only_admit_member _ is rest e = absurd (true≢false (ap (begins (codes "admit_member ")) e))

pub form_admit_member : IsForm (AreTwo IsName IsDeviceByProof) (spell_two spell_text spell_device_by_proof) (λ (f : List ℕ × (List ℕ × (List ℕ × (List ℕ × List ℕ)))). AdmitMember f.0 f.1.0 f.1.1.0 f.1.1.1.0 f.1.1.1.1) (codes "admit_member")
form_admit_member = record { ranges = λ f is. (is.0, is.1.0, is.1.1.0, is.1.1.1.0, is.1.1.1.1); spelled = λ f. refl; only = only_admit_member }

only_admit_device : (a : Act) → IsActInRange a → (rest : List ℕ) → codes "admit_device" ++ 32 ∷ rest ≡ spell_act a → IsMade IsDeviceByProof spell_device_by_proof (λ (f : List ℕ × (List ℕ × (List ℕ × List ℕ))). AdmitDevice f.0 f.1.0 f.1.1.0 f.1.1.1) a rest
unfolding begins
only_admit_device (AdmitDevice key seal by proof) is rest e = record { fields = (key, (seal, (by, proof))); act = refl; ranges = (is.0, (is.1, (is.2, is.3))); spelled = cc }
only_admit_device _ is rest e = absurd (true≢false (ap (begins (codes "admit_device ")) e))

pub form_admit_device : IsForm IsDeviceByProof spell_device_by_proof (λ (f : List ℕ × (List ℕ × (List ℕ × List ℕ))). AdmitDevice f.0 f.1.0 f.1.1.0 f.1.1.1) (codes "admit_device")
form_admit_device = record { ranges = λ f is. (is.0, is.1.0, is.1.1.0, is.1.1.1); spelled = λ f. refl; only = only_admit_device }

only_rotate : (a : Act) → IsActInRange a → (rest : List ℕ) → codes "rotate" ++ 32 ∷ rest ≡ spell_act a → IsMade IsRotated spell_scope (λ (f : Scope). Rotate f) a rest
unfolding begins
only_rotate (Rotate scope) is rest e = record { fields = scope; act = refl; ranges = is; spelled = cc }
only_rotate _ is rest e = absurd (true≢false (ap (begins (codes "rotate ")) e))

pub form_rotate : IsForm IsRotated spell_scope (λ (f : Scope). Rotate f) (codes "rotate")
form_rotate = record { ranges = λ f is. is; spelled = λ f. refl; only = only_rotate }

only_title : (a : Act) → IsActInRange a → (rest : List ℕ) → codes "title" ++ 32 ∷ rest ≡ spell_act a → IsMade IsTitle spell_text (λ (f : List ℕ). Title f) a rest
unfolding begins
only_title (Title title) is rest e = record { fields = title; act = refl; ranges = is; spelled = cc }
only_title _ is rest e = absurd (true≢false (ap (begins (codes "title ")) e))

pub form_title : IsForm IsTitle spell_text (λ (f : List ℕ). Title f) (codes "title")
form_title = record { ranges = λ f is. is; spelled = λ f. refl; only = only_title }
