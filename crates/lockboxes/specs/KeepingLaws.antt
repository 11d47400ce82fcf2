-- What a device opens is what it is entitled to, but for what is tainted.
use Rattle.std.specs.Prelude.{◌≡◌, ◌⊎◌, ℕ, List, true, false}
use Rattle.tg_text.specs.declared.keys.KeyId.{KeyId}
use Rattle.key_reach.specs.Keys.{Table, is_entitled, is_tainted}
use Rattle.key_reach.specs.Laws.{IsKeyTable}
use Rattle.lockboxes.specs.Keeping.{Keeper, IsOpened, own_key}

-- a clean key that a device opens is its own, or is of a scope to which it is entitled
abbrev pub OpenedAreEntitled : Type 0
OpenedAreEntitled = (keeper : Keeper) (t : Table) → IsKeyTable t → (device secret : List ℕ) (key : KeyId) (s : List ℕ) → IsOpened keeper t.boxes device secret key s → is_tainted t key ≡ false
    → (key ≡ own_key keeper device secret) ⊎ (is_entitled t device key.scope ≡ true)
