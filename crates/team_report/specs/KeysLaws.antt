-- The keys that are printed are those that a device opens, each once, in order.
use Rattle.std.specs.Prelude.{◌↔◌, ℕ, List}
use Rattle.std.specs.List.Sorted.{IsStrictlySortedBy}
use Rattle.team_sets.specs.Members.{IsIn}
use Rattle.tg_text.specs.Order.{key_cmp}
use Rattle.tg_text.specs.declared.keys.BoxLine.{BoxLine}
use Rattle.tg_text.specs.declared.keys.KeyId.{KeyId}
use Rattle.lockboxes.specs.Keeping.{Keeper, IsOpened}
use Rattle.lockboxes.specs.Opening.{AreOpened}
use Rattle.lockboxes.specs.declared.opened.Opened.{Opened}
use Rattle.team_report.specs.KeysText.{opened_keys}

-- the keys of which a device with this secret opens some secret, in order
pub record AreKeysOf (keeper : Keeper) (boxes : List BoxLine) (device secret : List ℕ) (keys : List KeyId) : Type 0 where
  pub ascends : IsStrictlySortedBy key_cmp keys
  pub exact : (k : KeyId) → IsIn k keys ↔ ((s : List ℕ) × IsOpened keeper boxes device secret k s)

-- of what a device opens, a line is printed for each of these keys and for no other
abbrev pub OpenedKeysAreExact : Type 0
OpenedKeysAreExact = (keeper : Keeper) (boxes : List BoxLine) (device secret : List ℕ) (pairs : List Opened) → AreOpened keeper boxes device secret pairs
    → AreKeysOf keeper boxes device secret (opened_keys pairs)
