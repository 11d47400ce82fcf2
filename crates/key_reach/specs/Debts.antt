-- What a team owes: keys that are to be made, and boxes.
use Rattle.std.specs.Prelude.{Bool, not, ◌&&◌, List, [], ◌∷◌, ◌++◌, map, filter, flat_map}
use Rattle.std.specs.List.{list_any}
use Rattle.std.specs.Ordering.{nat_cmp, ordering_then}
use Rattle.std.specs.Cmp.Lexicographic.{slice_cmp}
use Rattle.std.specs.declared.cmp.Ordering.{Ordering}
use Rattle.std.specs.declared.cmp.Ordering.TheVariants.{Less, Greater}
use Rattle.team_sets.specs.Names.{Name}
use Rattle.team_sets.specs.Closure.{has}
use Rattle.tg_text.specs.Order.{key_cmp, scope_cmp}
use Rattle.tg_text.specs.declared.keys.Scope.{Scope}
use Rattle.tg_text.specs.declared.keys.Scope.TheVariants.{Team, Role, User, Device}
use Rattle.tg_text.specs.declared.keys.KeyId.{KeyId}
use Rattle.key_reach.specs.declared.debt.Debt.{Debt}
use Rattle.key_reach.specs.declared.debt.Debt.TheVariants.{NoKey, Tainted, Unreached}
use Rattle.key_reach.specs.Keys.{Table, current_keys, is_entitled, is_tainted, keys_of, reach, same_key, same_scope}

abbrev pub device_of : Scope → List Name
device_of Team = []
device_of (Role r) = []
device_of (User u) = []
device_of (Device d) = d ∷ []

-- debts by their kinds: each kind by scope or key, and unreached keys by key and then by device
abbrev pub debt_cmp : Debt → Debt → Ordering
debt_cmp (NoKey s) (NoKey u) = scope_cmp s u
debt_cmp (NoKey s) _ = Less
debt_cmp (Tainted k) (NoKey u) = Greater
debt_cmp (Tainted k) (Tainted l) = key_cmp k l
debt_cmp (Tainted k) (Unreached l e) = Less
debt_cmp (Unreached k d) (Unreached l e) = ordering_then (key_cmp k l) (slice_cmp nat_cmp d e)
debt_cmp (Unreached k d) _ = Greater

module _ (t : Table) where
  -- whether a scope never had a key
  abbrev pub is_without_key : Scope → Bool
  is_without_key s = not (list_any (λ k. same_scope k.scope s) t.currents)

  -- the listed devices, in order
  abbrev pub device_names : List Name
  device_names = flat_map device_of t.scopes

  -- whether a device is entitled to a key that its own key doesn't reach
  abbrev pub is_unreached : KeyId → Name → Bool
  is_unreached k d = is_entitled t d k.scope && not (has same_key (reach t.boxes (keys_of t (Device d))) k)

  abbrev pub no_keys : List Debt
  no_keys = map (λ s. NoKey s) (filter is_without_key t.scopes)

  abbrev pub tainted_of : List KeyId → List Debt
  tainted_of keys = map (λ k. Tainted k) (filter (is_tainted t) keys)

  abbrev pub unreached_of : List Name → KeyId → List Debt
  unreached_of devices k = map (λ d. Unreached k d) (filter (is_unreached k) devices)

  -- live scopes without a key, then tainted current keys, then pairs of a current key and a device that is entitled to it and
  -- whose own key doesn't reach it
  abbrev pub debts : List Debt
  debts = no_keys ++ (tainted_of (current_keys t) ++ flat_map (unreached_of device_names) (current_keys t))
