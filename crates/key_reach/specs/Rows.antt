-- A worked table: a user with two devices, and the same with the first device unlisted.
use Rattle.std.specs.Prelude.{◌≡◌, ℕ, Bool, true, false, ◌&&◌, List, [], ◌∷◌, codes}
use Rattle.team_sets.specs.Closure.{has}
use Rattle.tg_text.specs.declared.keys.Scope.{Scope}
use Rattle.tg_text.specs.declared.keys.Scope.TheVariants.{Team, User, Device}
use Rattle.tg_text.specs.declared.keys.KeyId.{KeyId}
use Rattle.tg_text.specs.declared.keys.BoxLine.{BoxLine}
use Rattle.key_reach.specs.declared.debt.Debt.TheVariants.{Tainted}
use Rattle.key_reach.specs.Keys.{Table, is_entitled, lacks, reach, same_scope, tainted}
use Rattle.key_reach.specs.Debts.{debts}

abbrev user_key : KeyId
user_key = record { scope = User (codes "u"); generation = 0; public = 1 ∷ [] }

abbrev team_key : KeyId
team_key = record { scope = Team; generation = 0; public = 2 ∷ [] }

abbrev device_key : ℕ → KeyId
device_key n = record { scope = Device (n ∷ []); generation = 0; public = n ∷ [] }

abbrev box : KeyId → KeyId → BoxLine
box to of = record { to = to; of = of; bytes = [] }

-- the user's key to both devices
abbrev user_boxes : List BoxLine
user_boxes = box (device_key 11) user_key ∷ box (device_key 12) user_key ∷ []

-- and the team's key to the user's
abbrev all_boxes : List BoxLine
all_boxes = box (device_key 11) user_key ∷ box (device_key 12) user_key ∷ box user_key team_key ∷ []

-- a device to its user, and a user to the team, among live scopes
abbrev arrow : List Scope → Scope → Scope → Bool
arrow live to of = has same_scope live to && has same_scope live of && joins to of
  where
    joins : Scope → Scope → Bool
    joins (Device d) (User u) = true
    joins (User u) Team = true
    joins _ _ = false

abbrev table_of : List BoxLine → List Scope → Table
table_of boxes live = record { boxes = boxes; currents = team_key ∷ user_key ∷ device_key 11 ∷ device_key 12 ∷ []; scopes = live; allowed = arrow live }

abbrev both : List Scope
both = Team ∷ User (codes "u") ∷ Device (11 ∷ []) ∷ Device (12 ∷ []) ∷ []

abbrev second : List Scope
second = Team ∷ User (codes "u") ∷ Device (12 ∷ []) ∷ []

-- the first device's key reaches three, and nothing is owed
abbrev pub ListedRow : Type 0
ListedRow = (reach all_boxes (device_key 11 ∷ []) ≡ device_key 11 ∷ user_key ∷ team_key ∷ []) × (debts (table_of all_boxes both) ≡ [])

-- once the device is unlisted, all that it reaches is tainted
abbrev pub UnlistedRow : Type 0
UnlistedRow = (tainted (table_of all_boxes second) ≡ device_key 11 ∷ user_key ∷ team_key ∷ [])
    × (debts (table_of all_boxes second) ≡ Tainted team_key ∷ Tainted user_key ∷ [])
    × (is_entitled (table_of all_boxes second) (11 ∷ []) Team ≡ false)
    × (is_entitled (table_of all_boxes second) (12 ∷ []) Team ≡ true)

-- the team's key is in no box to the user's
abbrev pub LackingRow : Type 0
LackingRow = (lacks (table_of user_boxes both) ≡ (user_key, team_key) ∷ []) × (lacks (table_of all_boxes both) ≡ [])
