-- Worked plans and repairs.
use Rattle.std.specs.Prelude.{◌≡◌, ℕ, true, List, [], ◌∷◌, ◌++◌, Some, None}
use Rattle.team_sets.specs.Names.{Name}
use Rattle.acts.specs.declared.entry.Act.{Act}
use Rattle.acts.specs.declared.entry.Act.TheVariants.{AddDevice, Found, GiveRole, RemoveMember, Rotate, Seal, TakeRole, Title}
use Rattle.acts.specs.declared.entry.Entry.{Entry}
use Rattle.tg_text.specs.declared.keys.Scope.{Scope}
use Rattle.tg_text.specs.declared.keys.Scope.TheVariants.{Team, Role, User, Device as DeviceScope}
use Rattle.tg_text.specs.declared.keys.KeyId.{KeyId}
use Rattle.tg_text.specs.declared.keys.BoxLine.{BoxLine}
use Rattle.key_reach.specs.Debts.{debts}
use Rattle.key_reach.specs.Keys.{lacks}
use Rattle.team_model.specs.declared.terms.Device.{Device}
use Rattle.team_model.specs.declared.terms.Member.{Member}
use Rattle.team_model.specs.ActTable.{effect_by}
use Rattle.team_model.specs.KeyLines.{lined}
use Rattle.team_model.specs.KeyTables.{key_table}
use Rattle.team_model.specs.State.{State, admin, empty_state}
use Rattle.team_plans.specs.Plans.{boxes_for, due, plan_news, plan_scopes, repair_due, repair_scopes, unknown}

-- a is admin and has the device 11, b is a member without a role and has the device 12
abbrev a : Name
a = 1 ∷ []

abbrev b : Name
b = 2 ∷ []

-- the id of a device is its key
abbrev own_key : List ℕ → Name
own_key key = key

abbrev device : ℕ → Name → Device
device n user = record { id = n ∷ []; seal = n ∷ []; user = user; listed = true }

abbrev member : Name → List Name → Member
member user roles = record { user = user; roles = roles }

abbrev team_of : List Member → List Device → List KeyId → List BoxLine → State
team_of members devices currents boxes =
    record { title = Some []; members = members; roles = admin ∷ []; devices = devices; invitations = []; currents = currents; boxes = boxes }

abbrev key : Scope → ℕ → ℕ → KeyId
key scope generation public = record { scope = scope; generation = generation; public = public ∷ [] }

-- a box holds the public of its content
abbrev box : KeyId → KeyId → BoxLine
box to of = record { to = to; of = of; bytes = of.public }

abbrev sealed : List ℕ → List ℕ → List ℕ
sealed secret public = secret

abbrev secret_of : KeyId → List ℕ
secret_of k = k.public

abbrev entry : Name → ℕ → Act → Entry
entry user n act = record { user = user; device = n ∷ []; time = 0; act = act; lines = record { news = []; boxes = [] } }

abbrev lines_of : Entry → List KeyId → List (KeyId × KeyId) → Entry
lines_of e news pairs = record e { lines = record { news = news; boxes = boxes_for sealed secret_of pairs } }

abbrev team_key : ℕ → KeyId
team_key n = key Team n 20

abbrev admin_key : ℕ → KeyId
admin_key n = key (Role admin) n 30

abbrev a_key : ℕ → KeyId
a_key n = key (User a) n 40

abbrev b_key : ℕ → KeyId
b_key n = key (User b) n 50

abbrev device_key : ℕ → KeyId
device_key n = key (DeviceScope (n ∷ [])) 0 n

-- what an act does by itself, and what is planned of it
abbrev by : State → Entry → State
by s e = effect_by own_key s e e.act

abbrev scopes_by : State → Entry → List Scope
scopes_by s e = plan_scopes s (by s e) e

abbrev due_by : State → Entry → List (List ℕ) → List (KeyId × KeyId)
due_by s e publics = due s (by s e) e publics

-- the state that an act leaves with the lines of its plan
abbrev planned_by : State → Entry → List (List ℕ) → State
planned_by s e publics = lined (by s e) (lines_of e (plan_news s (by s e) e publics) (due_by s e publics))

abbrev alone : List KeyId → List BoxLine → State
alone currents boxes = team_of (member a (admin ∷ []) ∷ []) (device 11 a ∷ []) currents boxes

abbrev first_keys : List KeyId
first_keys = team_key 0 ∷ admin_key 0 ∷ a_key 0 ∷ []

abbrev first_boxes : List BoxLine
first_boxes = box (a_key 0) (team_key 0) ∷ box (a_key 0) (admin_key 0) ∷ box (device_key 11) (a_key 0) ∷ []

abbrev founding : Entry
founding = entry a 11 (Found (11 ∷ []) [])

-- who founds a team makes its three keys, and seals each to whoever is to have it; so nothing is owed from the start
abbrev pub FoundingPlanRow : Type 0
FoundingPlanRow = (scopes_by empty_state founding ≡ Team ∷ Role admin ∷ User a ∷ [])
    × (due_by empty_state founding ((20 ∷ []) ∷ (30 ∷ []) ∷ (40 ∷ []) ∷ []) ≡ (a_key 0, team_key 0) ∷ (a_key 0, admin_key 0) ∷ (device_key 11, a_key 0) ∷ [])
    × (planned_by empty_state founding ((20 ∷ []) ∷ (30 ∷ []) ∷ (40 ∷ []) ∷ []) ≡ alone first_keys first_boxes)
    × (debts (key_table (alone first_keys first_boxes)) ≡ [])
    × (lacks (key_table (alone first_keys first_boxes)) ≡ [])

-- a further device gets its user's key, and no key is made. Whoever can't open that key lacks its secret
abbrev adding : Entry
adding = entry a 11 (AddDevice (13 ∷ []) (13 ∷ []))

abbrev pub DevicePlanRow : Type 0
DevicePlanRow = (scopes_by (alone first_keys first_boxes) adding ≡ [])
    × (due_by (alone first_keys first_boxes) adding [] ≡ (device_key 13, a_key 0) ∷ [])
    × (unknown (alone first_keys first_boxes) (by (alone first_keys first_boxes) adding) adding [] (a_key 0 ∷ []) ≡ None)
    × (unknown (alone first_keys first_boxes) (by (alone first_keys first_boxes) adding) adding [] [] ≡ Some (a_key 0))

-- b has the team's key, and b's device has b's
abbrev both_keys : List KeyId
both_keys = first_keys ++ b_key 0 ∷ []

abbrev both_boxes : List BoxLine
both_boxes = first_boxes ++ box (b_key 0) (team_key 0) ∷ box (device_key 12) (b_key 0) ∷ []

abbrev both : State
both = team_of (member a (admin ∷ []) ∷ member b [] ∷ []) (device 11 a ∷ device 12 b ∷ []) both_keys both_boxes

abbrev removing : Entry
removing = entry a 11 (RemoveMember b)

-- once b is removed, the team gets its next key, which goes to a alone
abbrev pub RemovalPlanRow : Type 0
RemovalPlanRow = (debts (key_table both) ≡ [])
    × (scopes_by both removing ≡ Team ∷ [])
    × (due_by both removing ((21 ∷ []) ∷ []) ≡ (a_key 0, key Team 1 21) ∷ [])
    × (debts (key_table (planned_by both removing ((21 ∷ []) ∷ []))) ≡ [])

-- a role that is taken of its only other holder gets its next key; who brings no key to whom a role is given seals it
abbrev pub RolePlanRow : Type 0
RolePlanRow = (due_by both (entry a 11 (GiveRole b admin)) [] ≡ (b_key 0, admin_key 0) ∷ [])
    × (scopes_by (planned_by both (entry a 11 (GiveRole b admin)) []) (entry a 11 (TakeRole b admin)) ≡ Role admin ∷ [])

-- who rotates a scope makes its next key; what is owed already no act makes up for, and who isn't listed then brings no line
abbrev pub OtherPlansRow : Type 0
OtherPlansRow = (scopes_by both (entry a 11 (Rotate Team)) ≡ Team ∷ [])
    × (due_by both (entry a 11 (Rotate Team)) ((21 ∷ []) ∷ []) ≡ (a_key 0, key Team 1 21) ∷ (b_key 0, key Team 1 21) ∷ [])
    × (scopes_by (alone [] []) (entry a 11 (Title [])) ≡ [])
    × (due_by (alone first_keys []) (entry a 11 (Title [])) [] ≡ [])
    × (scopes_by both (entry b 12 (RemoveMember b)) ≡ [])
    × (due_by both (entry b 12 (RemoveMember b)) [] ≡ [])

abbrev repairing : Entry
repairing = entry a 11 Seal

-- a repair makes the keys that lack, and the boxes whose secrets are known
abbrev pub RepairRow : Type 0
RepairRow = (repair_scopes (alone [] []) repairing ≡ Team ∷ Role admin ∷ User a ∷ [])
    × (repair_due (alone [] []) repairing ((20 ∷ []) ∷ (30 ∷ []) ∷ (40 ∷ []) ∷ []) [] ≡ (a_key 0, team_key 0) ∷ (a_key 0, admin_key 0) ∷ (device_key 11, a_key 0) ∷ [])
    × (repair_scopes (alone first_keys []) repairing ≡ [])
    × (repair_due (alone first_keys []) repairing [] (team_key 0 ∷ a_key 0 ∷ []) ≡ (a_key 0, team_key 0) ∷ (device_key 11, a_key 0) ∷ [])
    × (repair_scopes (alone first_keys first_boxes) repairing ≡ [])
    × (repair_due (alone first_keys first_boxes) repairing [] first_keys ≡ [])
