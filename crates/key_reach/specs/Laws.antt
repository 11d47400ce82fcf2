-- What holds of tables of keys.
use Rattle.std.specs.Prelude.{◌≡◌, Bool, true, false, not, ◌&&◌, map, codes}
use Rattle.std.specs.List.{IsDistinct}
use Rattle.std.specs.List.Sorted.{IsStrictlySortedBy}
use Rattle.team_sets.specs.Names.{same_name}
use Rattle.tg_text.specs.Order.{scope_cmp}
use Rattle.tg_text.specs.declared.keys.Scope.{Scope}
use Rattle.tg_text.specs.declared.keys.Scope.TheVariants.{Team, Role, User, Device}
use Rattle.key_reach.specs.Keys.{Table, is_live, same_scope}

-- where an arrow may go: from a device to a user, from a user to a role or to the team, from a role to the team, and from the
-- role `admin` to another role
abbrev pub may_lead : Scope → Scope → Bool
may_lead (Device d) (User u) = true
may_lead (User u) (Role r) = true
may_lead (User u) Team = true
may_lead (Role r) Team = true
may_lead (Role q) (Role r) = same_name q (codes "admin") && not (same_name r (codes "admin"))
may_lead _ _ = false

-- an allowed arrow joins live scopes, and goes where it may
pub record IsKeyTable (t : Table) : Type 0 where
  pub joins_live : (to of : Scope) → t.allowed to of ≡ true → (is_live t to ≡ true) × (is_live t of ≡ true)
  pub leads : (to of : Scope) → t.allowed to of ≡ true → may_lead to of ≡ true

-- scopes stand in order, and each has at most one current key
pub record IsOrdered (t : Table) : Type 0 where
  pub ascends : IsStrictlySortedBy scope_cmp t.scopes
  pub one_each : IsDistinct same_scope (map (λ k. k.scope) t.currents)
