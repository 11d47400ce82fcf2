-- What holds of the state of every team, whatever entries made it.
use Rattle.std.specs.Prelude.{◌≡◌, ◌≤◌, ◌⊎◌, Bool, true, false, ◌&&◌, ◌||◌, nat_le, List, fold, length}
use Rattle.std.specs.List.{AllByRecursion, list_any}
use Rattle.std.specs.Option.{option_map_or}
use Rattle.team_sets.specs.Names.{Name, has_name, same_name}
use Rattle.team_sets.specs.Members.{IsIn}
use Rattle.team_sets.specs.OrderLaws.{NamesDiffer}
use Rattle.team_sets.specs.SortedLaws.{IsAscending, by_names}
use Rattle.tg_text.specs.declared.keys.BoxLine.{BoxLine}
use Rattle.tg_text.specs.declared.keys.KeyId.{KeyId}
use Rattle.tg_text.specs.declared.keys.Scope.{Scope}
use Rattle.tg_text.specs.declared.keys.Scope.TheVariants.{User, Device as DeviceScope}
use Rattle.key_reach.specs.Keys.{is_device}
use Rattle.key_reach.specs.Laws.{may_lead}
use Rattle.acts.specs.declared.entry.Entry.{Entry}
use Rattle.team_model.specs.ActTable.{after}
use Rattle.team_model.specs.Judging.{name_of, team, team_rules}
use Rattle.team_model.specs.KeyTables.{current_key}
use Rattle.team_model.specs.Limits.{most_boxes, most_roles}
use Rattle.team_model.specs.State.{State, admin, empty_state, is_empty_state, is_given, lists_user}
use Rattle.team_model.specs.declared.terms.Link.{Link}
use Rattle.team_model.specs.declared.terms.Member.{Member}
use Rattle.team_state.specs.AscentLaws.{TablesAscend, by_scopes}

-- whether a device is listed for u
abbrev pub has_device : State → Name → Bool
has_device s u = list_any (λ d. d.listed && same_name d.user u) s.devices

-- whether a key is a device's, or no later than the current one of its scope
abbrev pub is_past : State → KeyId → Bool
is_past s k = is_device k.scope || option_map_or (λ c. nat_le k.generation c.generation) (current_key s k.scope) false

-- whether a device is, or was, listed for the user
abbrev pub is_of : State → Scope → Scope → Bool
is_of s (DeviceScope d) (User u) = list_any (λ x. same_name x.id d && same_name x.user u) s.devices
is_of s _ _ = true

-- whether a box goes where keys may be sealed at all: from a device to its user, from a user to a role or the team, from a role to
-- the team, and from the role `admin` to another
abbrev pub goes_down : State → BoxLine → Bool
goes_down s b = may_lead b.to.scope b.of.scope && is_of s b.to.scope b.of.scope

-- the keys are in order: the current ones ascend by scope, and none of them is a device's; no box holds a device's key, and neither
-- key of a box is later than the current one of its scope
pub record IsKeyed (s : State) : Type 0 where
  pub currents : IsAscending by_scopes s.currents
  pub others : AllByRecursion (λ (k : KeyId). is_device k.scope ≡ false) s.currents
  pub contents : AllByRecursion (λ (b : BoxLine). is_device b.of.scope ≡ false) s.boxes
  pub past : AllByRecursion (λ (b : BoxLine). (is_past s b.to ≡ true) × (is_past s b.of ≡ true)) s.boxes

-- the tables ascend, and so do the roles of each member; the keys are in order; without a title it is the empty state, and with one
-- somebody is an admin; each listed user has a listed device; no more roles are listed, and no more boxes held, than there may be; and
-- each box goes down
pub record IsSound (s : State) : Type 0 where
  pub tables : TablesAscend s
  pub roles_ascend : AllByRecursion (λ (m : Member). IsAscending (by_names (λ r. r)) m.roles) s.members
  pub keyed : IsKeyed s
  pub blank : is_empty_state s ≡ true → s ≡ empty_state
  pub administered : is_empty_state s ≡ false → is_given s admin ≡ true
  pub equipped : (u : Name) → lists_user s u ≡ true → has_device s u ≡ true
  pub few_roles : length s.roles ≤ most_roles
  pub down : AllByRecursion (λ (b : BoxLine). goes_down s b ≡ true) s.boxes
  pub few_boxes : length s.boxes ≤ most_boxes

-- the state that entries make, one after another, from the empty one
abbrev pub made_by : List Entry → State
made_by entries = fold (λ s e. after s e) empty_state entries

-- it is sound
abbrev pub StatesAreSound : Type 0
StatesAreSound = (entries : List Entry) → IsSound (made_by entries)

-- so it is empty, or has an admin with a listed device; and every listed user has one
pub record IsManned (s : State) : Type 0 where
  pub admins : (s ≡ empty_state) ⊎ ((m : Member) × IsIn m s.members × (has_name m.roles admin ≡ true) × (has_device s m.user ≡ true))
  pub users : (u : Name) → lists_user s u ≡ true → has_device s u ≡ true

abbrev pub StatesAreManned : Type 0
StatesAreManned = (entries : List Entry) → IsManned (made_by entries)

-- and so is the team of a set of links, since it is the state that the entries of its resolved list make
abbrev pub TeamsAreSound : Type 0
TeamsAreSound = (links : List Link) → NamesDiffer name_of links → IsSound (team team_rules links)

abbrev pub TeamsAreManned : Type 0
TeamsAreManned = (links : List Link) → NamesDiffer name_of links → IsManned (team team_rules links)
