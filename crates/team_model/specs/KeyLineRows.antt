-- Worked key lines: a founder's first keys, lines that don't fit, and the keys that a removal leaves to be made anew.
use Rattle.std.specs.Prelude.{◌≡◌, ◌≤◌, ℕ, true, false, List, [], ◌∷◌, ◌++◌, codes, length, Some}
use Rattle.team_sets.specs.Names.{Name}
use Rattle.acts.specs.declared.entry.Act.{Act}
use Rattle.acts.specs.declared.entry.Act.TheVariants.{AdmitMember, Found, RemoveMember, Rotate, Seal, TakeRole}
use Rattle.acts.specs.declared.entry.Entry.{Entry}
use Rattle.tg_text.specs.declared.keys.Scope.{Scope}
use Rattle.tg_text.specs.declared.keys.Scope.TheVariants.{Team, Role, User, Device as DeviceScope}
use Rattle.tg_text.specs.declared.keys.KeyId.{KeyId}
use Rattle.tg_text.specs.declared.keys.BoxLine.{BoxLine}
use Rattle.key_reach.specs.Debts.{debts}
use Rattle.key_reach.specs.Keys.{is_tainted, lacks}
use Rattle.team_model.specs.declared.terms.Device.{Device}
use Rattle.team_model.specs.declared.terms.Member.{Member}
use Rattle.team_model.specs.ActTable.{after_by}
use Rattle.team_model.specs.KeyLines.{box_fits, lined, taken_news}
use Rattle.team_model.specs.KeyTables.{key_table}
use Rattle.team_model.specs.Limits.{most_boxes}
use Rattle.team_model.specs.State.{State, admin, empty_state}

-- a is admin and has the device 11, b is a member without a role and has the device 12
abbrev a : Name
a = 1 ∷ []

abbrev b : Name
b = 2 ∷ []

-- the id of a device is its key
abbrev own_key : List ℕ → Name
own_key key = key

abbrev device : ℕ → Name → Device
device n user = record { id = n ∷ []; seal = n ∷ []; user = user; listed = true }

abbrev gone : ℕ → Name → Device
gone n user = record { id = n ∷ []; seal = n ∷ []; user = user; listed = false }

abbrev member : Name → List Name → Member
member user roles = record { user = user; roles = roles }

abbrev team_of : List Member → List Device → List KeyId → List BoxLine → State
team_of members devices currents boxes =
    record { title = Some []; members = members; roles = admin ∷ []; devices = devices; invitations = []; currents = currents; boxes = boxes }

abbrev key : Scope → ℕ → ℕ → KeyId
key scope generation public = record { scope = scope; generation = generation; public = public ∷ [] }

abbrev box : KeyId → KeyId → BoxLine
box to of = record { to = to; of = of; bytes = 7 ∷ [] }

abbrev entry : Name → ℕ → Act → List KeyId → List BoxLine → Entry
entry user n act news boxes = record { user = user; device = n ∷ []; time = 0; act = act; lines = record { news = news; boxes = boxes } }

abbrev team_key : ℕ → KeyId
team_key n = key Team n 20

abbrev admin_key : ℕ → KeyId
admin_key n = key (Role admin) n 30

abbrev a_key : KeyId
a_key = key (User a) 0 40

abbrev b_key : KeyId
b_key = key (User b) 0 50

abbrev device_key : ℕ → KeyId
device_key n = key (DeviceScope (n ∷ [])) 0 n

-- the founder's team, before and after its first keys
abbrev founded : List KeyId → List BoxLine → State
founded currents boxes = team_of (member a (admin ∷ []) ∷ []) (device 11 a ∷ []) currents boxes

abbrev first_keys : List KeyId
first_keys = team_key 0 ∷ admin_key 0 ∷ a_key ∷ []

abbrev first_boxes : List BoxLine
first_boxes = box a_key (team_key 0) ∷ box a_key (admin_key 0) ∷ box (device_key 11) a_key ∷ []

-- the first keys, in any order, and the boxes: nothing is owed then, and no box lacks
abbrev pub FirstKeysRow : Type 0
FirstKeysRow = (lined (founded [] []) (entry a 11 Seal (a_key ∷ team_key 0 ∷ admin_key 0 ∷ []) first_boxes) ≡ founded first_keys first_boxes)
    × (debts (key_table (founded first_keys first_boxes)) ≡ [])
    × (lacks (key_table (founded first_keys first_boxes)) ≡ [])

-- the same by the link that founds the team
abbrev pub FoundingKeysRow : Type 0
FoundingKeysRow = after_by own_key empty_state (entry a 11 (Found (11 ∷ []) []) (team_key 0 ∷ admin_key 0 ∷ a_key ∷ []) first_boxes) ≡ founded first_keys first_boxes

-- which of some lines are taken of a by its first device, and of b
abbrev of_a : State → Act → List KeyId → List KeyId
of_a s act news = taken_news s (entry a 11 act [] []) news

abbrev of_b : State → Act → List KeyId → List KeyId
of_b s act news = taken_news s (entry b 12 act [] []) news

-- b is a member without a role, and no keys are there
abbrev joined : State
joined = team_of (member a (admin ∷ []) ∷ member b [] ∷ []) (device 11 a ∷ device 12 b ∷ []) [] []

-- left are: a key of a scope that isn't live, and of a device; a generation that is skipped, that comes again, or that is too great; and the
-- later one of two lines of one scope that fit. A line that is left doesn't stand in the way of a later one
abbrev pub UnfitNewsRow : Type 0
UnfitNewsRow = (of_a (founded [] []) Seal (key (Role (codes "guide")) 0 60 ∷ key (User b) 0 50 ∷ []) ≡ [])
    × (of_a (founded [] []) Seal (device_key 11 ∷ device_key 12 ∷ []) ≡ [])
    × (of_a (founded [] []) Seal (team_key 1 ∷ []) ≡ [])
    × (of_a (founded first_keys first_boxes) (Rotate Team) (team_key 0 ∷ team_key 2 ∷ []) ≡ [])
    × (of_a (founded (team_key 65534 ∷ []) []) (Rotate Team) (team_key 65535 ∷ []) ≡ [])
    × (of_a (founded [] []) Seal (team_key 1 ∷ team_key 0 ∷ key Team 0 21 ∷ a_key ∷ []) ≡ team_key 0 ∷ a_key ∷ [])

-- a scope whose key is there and clean wants none, but where it is rotated, and then one
abbrev pub WantedKeysRow : Type 0
WantedKeysRow = (of_a (founded first_keys first_boxes) Seal (team_key 1 ∷ admin_key 1 ∷ []) ≡ [])
    × (of_a (founded first_keys first_boxes) (Rotate Team) (team_key 1 ∷ key Team 1 21 ∷ admin_key 1 ∷ []) ≡ team_key 1 ∷ [])

-- an admin may rekey each scope; who isn't one, what his device is entitled to, and the user whom he brings in
abbrev pub RekeyersRow : Type 0
RekeyersRow = (of_a joined Seal (b_key ∷ []) ≡ b_key ∷ [])
    × (of_b joined Seal (admin_key 0 ∷ a_key ∷ b_key ∷ team_key 0 ∷ []) ≡ b_key ∷ team_key 0 ∷ [])
    × (of_b joined (AdmitMember a [] [] [] []) (admin_key 0 ∷ a_key ∷ []) ≡ a_key ∷ [])

-- the team's key for a once more, with other bytes
abbrev other_box : BoxLine
other_box = record { to = a_key; of = team_key 0; bytes = [] }

-- left are: a line that is held, or that was taken before; a box to a key that isn't current, and one of such a key; and a box whose arrow
-- isn't allowed. The same keys with other bytes are another line
abbrev pub UnfitBoxesRow : Type 0
UnfitBoxesRow = (lined (founded first_keys first_boxes) (entry a 11 Seal []
    (box a_key (team_key 0) ∷ box (admin_key 1) (team_key 0) ∷ box a_key (team_key 1) ∷ box (team_key 0) a_key ∷ [])) ≡ founded first_keys first_boxes)
    × (lined (founded first_keys first_boxes) (entry a 11 Seal [] (other_box ∷ other_box ∷ [])) ≡ founded first_keys (first_boxes ++ other_box ∷ []))

-- a lost the device 13, which had his key, and so the others
abbrev lost : List KeyId → List BoxLine → State
lost currents boxes = team_of (member a (admin ∷ []) ∷ []) (device 11 a ∷ gone 13 a ∷ []) currents boxes

abbrev lost_boxes : List BoxLine
lost_boxes = first_boxes ++ box (device_key 13) a_key ∷ []

-- a tainted key is sealed nothing, though it is current, until it is made anew
abbrev pub TaintedRecipientRow : Type 0
TaintedRecipientRow = (is_tainted (key_table (lost first_keys lost_boxes)) a_key ≡ true)
    × (lined (lost first_keys lost_boxes) (entry a 11 Seal (team_key 1 ∷ []) (box a_key (team_key 1) ∷ box (device_key 11) a_key ∷ other_box ∷ []))
    ≡ lost (team_key 1 ∷ admin_key 0 ∷ a_key ∷ []) lost_boxes)
    × (lined (lost first_keys lost_boxes) (entry a 11 Seal (key (User a) 1 41 ∷ []) (box (key (User a) 1 41) (team_key 0) ∷ []))
    ≡ lost (team_key 0 ∷ admin_key 0 ∷ key (User a) 1 41 ∷ []) (lost_boxes ++ box (key (User a) 1 41) (team_key 0) ∷ []))

-- where as many boxes are held as may be, none fits
abbrev pub FullRow : Type 0
FullRow = (s : State) (keys : List KeyId) (held : List BoxLine) (line : BoxLine) → most_boxes ≤ length held → box_fits s keys held line ≡ false

-- b has the team's key, and is gone: its device's key leaks, and with it b's and the team's
abbrev left_boxes : List BoxLine
left_boxes = first_boxes ++ box b_key (team_key 0) ∷ box (device_key 12) b_key ∷ []

abbrev left : List KeyId → List BoxLine → State
left currents boxes = team_of (member a (admin ∷ []) ∷ []) (device 11 a ∷ gone 12 b ∷ []) currents boxes

-- the team's next key fits, and goes to a alone: a box of it to b's tainted key is left. What no device that is listed may open isn't owed
abbrev pub RemovalRow : Type 0
RemovalRow = (is_tainted (key_table (left (first_keys ++ b_key ∷ []) left_boxes)) (team_key 0) ≡ true)
    × (is_tainted (key_table (left (first_keys ++ b_key ∷ []) left_boxes)) (admin_key 0) ≡ false)
    × (lined (left (first_keys ++ b_key ∷ []) left_boxes) (entry a 11 Seal (team_key 1 ∷ []) (box b_key (team_key 1) ∷ box a_key (team_key 1) ∷ []))
    ≡ left (team_key 1 ∷ admin_key 0 ∷ a_key ∷ b_key ∷ []) (left_boxes ++ box a_key (team_key 1) ∷ []))
    × (debts (key_table (left (team_key 1 ∷ admin_key 0 ∷ a_key ∷ b_key ∷ []) (left_boxes ++ box a_key (team_key 1) ∷ []))) ≡ [])
    × (lined (left (team_key 1 ∷ admin_key 0 ∷ a_key ∷ b_key ∷ []) left_boxes) (entry a 11 Seal [] (box (admin_key 0) (team_key 0) ∷ []))
    ≡ left (team_key 1 ∷ admin_key 0 ∷ a_key ∷ b_key ∷ []) left_boxes)

abbrev both_admins : State
both_admins = team_of (member a (admin ∷ []) ∷ member b (admin ∷ []) ∷ []) (device 11 a ∷ device 12 b ∷ []) [] []

-- who isn't listed brings no line, and who is no more after his own act, none either: nor does he who lays down `admin` have the right of one
abbrev pub UnlistedAuthorRow : Type 0
UnlistedAuthorRow = (lined (left (first_keys ++ b_key ∷ []) left_boxes) (entry b 12 Seal (team_key 1 ∷ []) (box b_key (team_key 0) ∷ [])) ≡ left (first_keys ++ b_key ∷ []) left_boxes)
    × (after_by own_key joined (entry b 12 (RemoveMember b) (b_key ∷ team_key 0 ∷ []) []) ≡ team_of (member a (admin ∷ []) ∷ []) (device 11 a ∷ gone 12 b ∷ []) [] [])
    × (after_by own_key both_admins (entry b 12 (TakeRole b admin) (admin_key 0 ∷ b_key ∷ []) [])
    ≡ team_of (member a (admin ∷ []) ∷ member b [] ∷ []) (device 11 a ∷ device 12 b ∷ []) (b_key ∷ []) [])
