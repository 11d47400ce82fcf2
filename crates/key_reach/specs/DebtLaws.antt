-- What a team owes that hasn't made a key yet.
use Rattle.std.specs.Prelude.{◌≡◌, true, not, [], map, filter}
use Rattle.tg_text.specs.declared.keys.Scope.{Scope}
use Rattle.key_reach.specs.declared.debt.Debt.TheVariants.{NoKey}
use Rattle.key_reach.specs.Debts.{debts, is_without_key}
use Rattle.key_reach.specs.Keys.{Table, is_device, is_live}
use Rattle.key_reach.specs.Laws.{IsKeyTable}

-- no box is held, and of the live scopes each device has a key and no other has one
pub record HasDeviceKeysAlone (t : Table) : Type 0 where
  pub unboxed : t.boxes ≡ []
  pub devices : (s : Scope) → is_live t s ≡ true → is_without_key t s ≡ not (is_device s)

-- a key is owed for each live scope that isn't a device's, in order, and nothing else
abbrev pub OwesEachKey : Table → Type 0
OwesEachKey t = debts t ≡ map (λ s. NoKey s) (filter (λ s. not (is_device s)) t.scopes)

abbrev pub DebtsWithoutKeys : Type 0
DebtsWithoutKeys = (t : Table) → IsKeyTable t → HasDeviceKeysAlone t → OwesEachKey t
