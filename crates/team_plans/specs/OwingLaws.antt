-- What a scope owes is told by the debts of its state.
use Rattle.std.specs.Prelude.{◌≡◌, ◌⊎◌, ◌↔◌, true, false}
use Rattle.team_sets.specs.Members.{IsIn}
use Rattle.acts.specs.declared.entry.Entry.{Entry}
use Rattle.tg_text.specs.declared.keys.Scope.{Scope}
use Rattle.tg_text.specs.declared.keys.KeyId.{KeyId}
use Rattle.key_reach.specs.declared.debt.Debt.TheVariants.{NoKey, Tainted}
use Rattle.key_reach.specs.Debts.{debts}
use Rattle.key_reach.specs.Keys.{is_device, keys_of}
use Rattle.team_model.specs.KeyTables.{key_table}
use Rattle.team_model.specs.State.{State}
use Rattle.team_plans.specs.Plans.{effected, owes}

-- among the debts is that of a key of the scope, or that of the tainted key which the scope has after the own effect
abbrev pub IsAmongDebts : State → State → Scope → Type 0
IsAmongDebts s t c = IsIn (NoKey c) (debts (key_table s)) ⊎ ((k : KeyId) × IsIn k (keys_of (key_table t) c) × IsIn (Tainted k) (debts (key_table s)))

abbrev pub OwesAsDebtsSay : Type 0
OwesAsDebtsSay = (s : State) (e : Entry) (c : Scope) → is_device c ≡ false → (owes s c ≡ true) ↔ IsAmongDebts s (effected s e) c
