-- What `open_all` answers, and what a secret makes of one box.
use Rattle.std.specs.Prelude.{◌↔◌, ℕ, List, Option, Some, None, if◌then◌else◌}
use Rattle.std.specs.Str.{bytes_eq}
use Rattle.std.specs.List.Sorted.{IsStrictlySortedBy}
use Rattle.std.specs.Ordering.{nat_cmp, ordering_then}
use Rattle.std.specs.Cmp.Lexicographic.{slice_cmp}
use Rattle.std.specs.declared.cmp.Ordering.{Ordering}
use Rattle.team_sets.specs.Members.{IsIn}
use Rattle.tg_text.specs.Order.{key_cmp}
use Rattle.tg_text.specs.declared.keys.BoxLine.{BoxLine}
use Rattle.lockboxes.specs.declared.opened.Opened.{Opened}
use Rattle.lockboxes.specs.Keeping.{Keeper, IsOpened}

-- opened keys by key, and then by secret
abbrev pub opened_cmp : Opened → Opened → Ordering
opened_cmp a b = ordering_then (key_cmp a.key b.key) (slice_cmp nat_cmp a.secret b.secret)

-- the content of a box with this secret, where the secret is that of the key that the box names
abbrev pub named_content : Keeper → BoxLine → Option (List ℕ) → Option Opened
named_content keeper b None = None
named_content keeper b (Some s) = if bytes_eq (keeper.public_of s) b.of.public then Some (record { key = b.of; secret = s }) else None

-- what the recipient's secret makes of a box
abbrev pub content : Keeper → List ℕ → BoxLine → Option Opened
content keeper secret b = named_content keeper b (keeper.unseal b.bytes secret)

-- the keys that a device with this secret opens, in order, each with each of its secrets once
pub record AreOpened (keeper : Keeper) (boxes : List BoxLine) (device secret : List ℕ) (list : List Opened) : Type 0 where
  pub ascends : IsStrictlySortedBy opened_cmp list
  pub exact : (o : Opened) → IsIn o list ↔ IsOpened keeper boxes device secret o.key o.secret
