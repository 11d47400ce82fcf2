-- What is gone back to from a key: the scopes that meet its scope, and the keys that reach it.
use Rattle.std.specs.Prelude.{◌≡◌, true, if◌then◌else◌, List, [], ◌∷◌, length}
use Rattle.team_sets.specs.Closure.{has}
use Rattle.tg_text.specs.Order.{key_cmp, scope_cmp}
use Rattle.tg_text.specs.declared.keys.Scope.{Scope}
use Rattle.tg_text.specs.declared.keys.Scope.TheVariants.{Team, Role, User, Device}
use Rattle.tg_text.specs.declared.keys.KeyId.{KeyId}
use Rattle.key_reach.specs.declared.debt.Debt.{Debt}
use Rattle.key_reach.specs.declared.debt.Debt.TheVariants.{Unreached}
use Rattle.key_reach.specs.declared.unreached.TurnedGraphs.{TurnedGraphs}
use Rattle.key_reach.specs.Graphs.{IsGraph, turned}
use Rattle.key_reach.specs.Keys.{Table, box_arrows, current_keys, is_live, same_key, same_scope}
use Rattle.key_reach.specs.Steps.{turned_arrows}

-- a device without the key, where its scope isn't among those that hold it
abbrev pub unreached_by : List Scope → KeyId → Scope → List Debt
unreached_by holding k Team = []
unreached_by holding k (Role r) = []
unreached_by holding k (User u) = []
unreached_by holding k (Device d) = if has same_scope holding (Device d) then [] else Unreached k d ∷ []

-- the graphs of a table's turned arrows, with a set of numbers for each
pub record AreTurned (t : Table) (graphs : TurnedGraphs) : Type 0 where
  pub scopes : IsGraph scope_cmp (turned_arrows t) graphs.scopes.nodes.items graphs.scopes.arrows.items
  pub live : (s : Scope) → is_live t s ≡ true → has same_scope graphs.scopes.nodes.items s ≡ true
  pub met : graphs.met.size ≡ length graphs.scopes.nodes.items
  pub boxes : IsGraph key_cmp (turned (box_arrows t.boxes)) graphs.boxes.nodes.items graphs.boxes.arrows.items
  pub current : (k : KeyId) → has same_key (current_keys t) k ≡ true → has same_key graphs.boxes.nodes.items k ≡ true
  pub reached : graphs.reached.size ≡ length graphs.boxes.nodes.items
