-- What taint depends on. A clean key is one that isn't tainted.
use Rattle.std.specs.Prelude.{◌≡◌, true, false, List, ◌++◌, filter}
use Rattle.team_sets.specs.Members.{IsIn}
use Rattle.team_sets.specs.Names.{Name}
use Rattle.tg_text.specs.declared.keys.Scope.{Scope}
use Rattle.tg_text.specs.declared.keys.Scope.TheVariants.{User}
use Rattle.tg_text.specs.declared.keys.KeyId.{KeyId}
use Rattle.tg_text.specs.declared.keys.BoxLine.{BoxLine}
use Rattle.key_reach.specs.Keys.{Table, is_device, is_live, is_tainted, tainted}
use Rattle.key_reach.specs.Laws.{IsKeyTable}

abbrev pub with_boxes : Table → List BoxLine → Table
with_boxes t more = record { boxes = t.boxes ++ more; currents = t.currents; scopes = t.scopes; allowed = t.allowed }

abbrev pub device_keys : Table → List KeyId
device_keys t = filter (λ k. is_device k.scope) t.currents

-- the same boxes, live scopes, arrows and keys of devices
pub record HaveSameDevices (t u : Table) : Type 0 where
  pub boxes : t.boxes ≡ u.boxes
  pub scopes : t.scopes ≡ u.scopes
  pub allowed : (to of : Scope) → t.allowed to of ≡ u.allowed to of
  pub devices : device_keys t ≡ device_keys u

abbrev pub TaintIsBlindToOtherKeys : Type 0
TaintIsBlindToOtherKeys = (t u : Table) → HaveSameDevices t u → tainted t ≡ tainted u

-- each of these boxes is allowed, and goes to a clean key
abbrev pub GoToClean : Table → List BoxLine → Type 0
GoToClean t more = (b : BoxLine) → IsIn b more → (t.allowed b.to.scope b.of.scope ≡ true) × (is_tainted t b.to ≡ false)

abbrev pub CleanRecipientsKeepTaint : Type 0
CleanRecipientsKeepTaint = (t : Table) (more : List BoxLine) → GoToClean t more → (k : KeyId) → is_tainted (with_boxes t more) k ≡ is_tainted t k

abbrev pub FreshKeysAreClean : Type 0
FreshKeysAreClean = (t : Table) (k : KeyId) → is_device k.scope ≡ false → ((b : BoxLine) → IsIn b t.boxes → b.of ≡ k → ⊥) → is_tainted t k ≡ false

-- no box has a device's key
abbrev pub HoldNoDeviceKey : Table → Type 0
HoldNoDeviceKey t = (b : BoxLine) → IsIn b t.boxes → is_device b.of.scope ≡ false

abbrev pub DeviceKeysAreClean : Type 0
DeviceKeysAreClean = (t : Table) → HoldNoDeviceKey t → (k : KeyId) → is_device k.scope ≡ true → is_live t k.scope ≡ true → is_tainted t k ≡ false

-- a box with a user's key goes to a device
abbrev pub UsersGoToDevices : Table → Type 0
UsersGoToDevices t = (b : BoxLine) (u : Name) → IsIn b t.boxes → b.of.scope ≡ User u → is_device b.to.scope ≡ true

-- a held box with this key whose arrow isn't allowed now
pub record IsLeakedBy (t : Table) (k : KeyId) (b : BoxLine) : Type 0 where
  pub held : IsIn b t.boxes
  pub content : b.of ≡ k
  pub unlawful : t.allowed b.to.scope b.of.scope ≡ false

abbrev pub TaintedUsersLeadToBoxes : Type 0
TaintedUsersLeadToBoxes = (t : Table) → IsKeyTable t → HoldNoDeviceKey t → UsersGoToDevices t
    → (k : KeyId) (u : Name) → k.scope ≡ User u → is_tainted t k ≡ true → (b : BoxLine) × IsLeakedBy t k b
