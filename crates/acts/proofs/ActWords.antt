-- The word of an act's text.
use Rattle.std.proofs.Common.{◌≡◌, ℕ, false, List, [], ◌∷◌, ◌++◌, codes, nat_eq, refl, sym}
use Rattle.std.specs.Cmp.Lexicographic.{pointwise}
use Rattle.tg_text.specs.Spelling.{has_space, spaced}
use Rattle.tg_text.proofs.Splits.{no_split, one_split, other_word}
use Rattle.acts.specs.ActText.{act_fields, act_word, spell_act}
use Rattle.acts.specs.declared.entry.Act.{Act}
use Rattle.acts.specs.declared.entry.Act.TheVariants.{Found, AddMember, RemoveMember, AddRole, RemoveRole, GiveRole, TakeRole, AddDevice, RemoveDevice, InviteMember, InviteDevice, Revoke, AdmitMember, AdmitDevice, Rotate, Seal, Title, Join}

word_whole : (a : Act) → has_space (act_word a) ≡ false
word_whole Join = refl
word_whole _ = refl

no_word : (word text fields : List ℕ) (rest : List (List ℕ)) → has_space word ≡ false → has_space text ≡ false → text ++ 32 ∷ fields ≡ spaced (word ∷ rest)
    → (text ≡ word) × (rest ≡ [] → ⊥)
no_word word text fields [] whole lacks e = absurd (no_split 32 word text fields whole (sym e))
no_word word text fields (field ∷ rest) whole lacks e = ((one_split 32 text word fields (spaced (field ∷ rest)) lacks whole e).0, λ none. cc)

-- what stands before the first space is the act's word, and fields are behind it
pub act_cut : (a : Act) (word fields : List ℕ) → has_space word ≡ false → word ++ 32 ∷ fields ≡ spell_act a → (word ≡ act_word a) × (act_fields a ≡ [] → ⊥)
act_cut a word fields lacks e = no_word (act_word a) word fields (act_fields a) (word_whole a) lacks e

-- a word that was found to be none of those behind which fields stand
pub record IsUnknown (word : List ℕ) : Type 0 where
  pub found : pointwise nat_eq word (codes "found") ≡ false
  pub add_member : pointwise nat_eq word (codes "add_member") ≡ false
  pub remove_member : pointwise nat_eq word (codes "remove_member") ≡ false
  pub add_role : pointwise nat_eq word (codes "add_role") ≡ false
  pub remove_role : pointwise nat_eq word (codes "remove_role") ≡ false
  pub give_role : pointwise nat_eq word (codes "give_role") ≡ false
  pub take_role : pointwise nat_eq word (codes "take_role") ≡ false
  pub add_device : pointwise nat_eq word (codes "add_device") ≡ false
  pub remove_device : pointwise nat_eq word (codes "remove_device") ≡ false
  pub invite_member : pointwise nat_eq word (codes "invite_member") ≡ false
  pub invite_device : pointwise nat_eq word (codes "invite_device") ≡ false
  pub revoke : pointwise nat_eq word (codes "revoke") ≡ false
  pub admit_member : pointwise nat_eq word (codes "admit_member") ≡ false
  pub admit_device : pointwise nat_eq word (codes "admit_device") ≡ false
  pub rotate : pointwise nat_eq word (codes "rotate") ≡ false
  pub title : pointwise nat_eq word (codes "title") ≡ false

unknown_word : (a : Act) (word : List ℕ) → IsUnknown word → (act_fields a ≡ [] → ⊥) → word ≡ act_word a → ⊥
unknown_word (Found seal title) word is some e = other_word word (codes "found") is.found refl e
unknown_word (AddMember user key seal) word is some e = other_word word (codes "add_member") is.add_member refl e
unknown_word (RemoveMember user) word is some e = other_word word (codes "remove_member") is.remove_member refl e
unknown_word (AddRole role) word is some e = other_word word (codes "add_role") is.add_role refl e
unknown_word (RemoveRole role) word is some e = other_word word (codes "remove_role") is.remove_role refl e
unknown_word (GiveRole user role) word is some e = other_word word (codes "give_role") is.give_role refl e
unknown_word (TakeRole user role) word is some e = other_word word (codes "take_role") is.take_role refl e
unknown_word (AddDevice key seal) word is some e = other_word word (codes "add_device") is.add_device refl e
unknown_word (RemoveDevice user id) word is some e = other_word word (codes "remove_device") is.remove_device refl e
unknown_word (InviteMember key uses expiry) word is some e = other_word word (codes "invite_member") is.invite_member refl e
unknown_word (InviteDevice key uses expiry) word is some e = other_word word (codes "invite_device") is.invite_device refl e
unknown_word (Revoke kind id) word is some e = other_word word (codes "revoke") is.revoke refl e
unknown_word (AdmitMember user key seal by proof) word is some e = other_word word (codes "admit_member") is.admit_member refl e
unknown_word (AdmitDevice key seal by proof) word is some e = other_word word (codes "admit_device") is.admit_device refl e
unknown_word (Rotate scope) word is some e = other_word word (codes "rotate") is.rotate refl e
unknown_word (Title title) word is some e = other_word word (codes "title") is.title refl e
unknown_word Seal word is some e = some refl
unknown_word Join word is some e = some refl

-- no act has such a word
pub unknown : (a : Act) (word fields : List ℕ) → IsUnknown word → has_space word ≡ false → word ++ 32 ∷ fields ≡ spell_act a → ⊥
unknown a word fields is lacks e = let cut = act_cut a word fields lacks e in unknown_word a word is cut.1 cut.0
