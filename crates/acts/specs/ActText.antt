-- The text of an act, and the ranges of its fields.
use Rattle.std.specs.Prelude.{◌≡◌, ℕ, ◌≤◌, ◌<◌, ◌^◌, List, [], ◌∷◌, codes, IsTrue}
use Rattle.tg_text.specs.KeySpelling.{spell_scope}
use Rattle.tg_text.specs.Spelling.{spell_base64, spell_decimal, spell_hex, spaced, number_at, is_user_name, AreBytes, IsHash, IsPublicKey, IsTitle}
use Rattle.tg_text.specs.declared.keys.Scope.{Scope}
use Rattle.tg_text.specs.declared.keys.Scope.TheVariants.{Team, Role, User, Device as DeviceScope}
use Rattle.acts.specs.declared.entry.Act.{Act}
use Rattle.acts.specs.declared.entry.Act.TheVariants.{Found, AddMember, RemoveMember, AddRole, RemoveRole, GiveRole, TakeRole, AddDevice, RemoveDevice, InviteMember, InviteDevice, Revoke, AdmitMember, AdmitDevice, Rotate, Seal, Title, Join}
use Rattle.acts.specs.declared.entry.InviteKind.{InviteKind}
use Rattle.acts.specs.declared.entry.InviteKind.TheVariants.{Member, Device}

abbrev pub spell_kind : InviteKind → List ℕ
spell_kind Member = codes "member"
spell_kind Device = codes "device"

abbrev pub act_word : Act → List ℕ
act_word (Found seal title) = codes "found"
act_word (AddMember user key seal) = codes "add_member"
act_word (RemoveMember user) = codes "remove_member"
act_word (AddRole role) = codes "add_role"
act_word (RemoveRole role) = codes "remove_role"
act_word (GiveRole user role) = codes "give_role"
act_word (TakeRole user role) = codes "take_role"
act_word (AddDevice key seal) = codes "add_device"
act_word (RemoveDevice user id) = codes "remove_device"
act_word (InviteMember key uses expiry) = codes "invite_member"
act_word (InviteDevice key uses expiry) = codes "invite_device"
act_word (Revoke kind id) = codes "revoke"
act_word (AdmitMember user key seal by proof) = codes "admit_member"
act_word (AdmitDevice key seal by proof) = codes "admit_device"
act_word (Rotate scope) = codes "rotate"
act_word Seal = codes "seal"
act_word (Title title) = codes "title"
act_word Join = codes "join"

-- the fields behind the word. A title may have spaces, so it stands last
abbrev pub act_fields : Act → List (List ℕ)
act_fields (Found seal title) = spell_hex seal ∷ title ∷ []
act_fields (AddMember user key seal) = user ∷ spell_base64 key ∷ spell_hex seal ∷ []
act_fields (RemoveMember user) = user ∷ []
act_fields (AddRole role) = role ∷ []
act_fields (RemoveRole role) = role ∷ []
act_fields (GiveRole user role) = user ∷ role ∷ []
act_fields (TakeRole user role) = user ∷ role ∷ []
act_fields (AddDevice key seal) = spell_base64 key ∷ spell_hex seal ∷ []
act_fields (RemoveDevice user id) = user ∷ spell_hex id ∷ []
act_fields (InviteMember key uses expiry) = spell_base64 key ∷ spell_decimal uses ∷ spell_decimal expiry ∷ []
act_fields (InviteDevice key uses expiry) = spell_base64 key ∷ spell_decimal uses ∷ spell_decimal expiry ∷ []
act_fields (Revoke kind id) = spell_kind kind ∷ spell_hex id ∷ []
act_fields (AdmitMember user key seal by proof) = user ∷ spell_base64 key ∷ spell_hex seal ∷ spell_base64 by ∷ spell_base64 proof ∷ []
act_fields (AdmitDevice key seal by proof) = spell_base64 key ∷ spell_hex seal ∷ spell_base64 by ∷ spell_base64 proof ∷ []
act_fields (Rotate scope) = spell_scope scope ∷ []
act_fields Seal = []
act_fields (Title title) = title ∷ []
act_fields Join = []

abbrev pub act_words : Act → List (List ℕ)
act_words a = act_word a ∷ act_fields a

-- the words with one space between them
abbrev pub spell_act : Act → List ℕ
spell_act a = spaced (act_words a)

-- a user's name, or a role's
abbrev pub IsName : List ℕ → Type 0
IsName name = IsTrue (is_user_name name)

-- the key of an invitation has LMS type 5, so 32 leaves
abbrev pub IsInviteKey : List ℕ → Type 0
IsInviteKey key = IsPublicKey key × (number_at 0 key ≡ 5)

-- how many leaves of an invitation may be used
abbrev pub IsUses : ℕ → Type 0
IsUses uses = (1 ≤ uses) × (uses ≤ 32)

abbrev pub IsTime : ℕ → Type 0
IsTime time = time < 2 ^ 64

-- a device's key is never changed
abbrev pub IsRotated : Scope → Type 0
IsRotated Team = Unit {0}
IsRotated (Role role) = IsName role
IsRotated (User user) = IsName user
IsRotated (DeviceScope id) = ⊥

abbrev pub IsActInRange : Act → Type 0
IsActInRange (Found seal title) = IsHash seal × IsTitle title
IsActInRange (AddMember user key seal) = IsName user × IsPublicKey key × IsHash seal
IsActInRange (RemoveMember user) = IsName user
IsActInRange (AddRole role) = IsName role
IsActInRange (RemoveRole role) = IsName role
IsActInRange (GiveRole user role) = IsName user × IsName role
IsActInRange (TakeRole user role) = IsName user × IsName role
IsActInRange (AddDevice key seal) = IsPublicKey key × IsHash seal
IsActInRange (RemoveDevice user id) = IsName user × IsHash id
IsActInRange (InviteMember key uses expiry) = IsInviteKey key × IsUses uses × IsTime expiry
IsActInRange (InviteDevice key uses expiry) = IsInviteKey key × IsUses uses × IsTime expiry
IsActInRange (Revoke kind id) = IsHash id
IsActInRange (AdmitMember user key seal by proof) = IsName user × IsPublicKey key × IsHash seal × IsPublicKey by × AreBytes proof
IsActInRange (AdmitDevice key seal by proof) = IsPublicKey key × IsHash seal × IsPublicKey by × AreBytes proof
IsActInRange (Rotate scope) = IsRotated scope
IsActInRange Seal = Unit {0}
IsActInRange (Title title) = IsTitle title
IsActInRange Join = Unit {0}

abbrev pub IsFound : Act → Type 0
IsFound (Found seal title) = Unit {0}
IsFound _ = ⊥
