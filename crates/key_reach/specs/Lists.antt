-- The ordered list of a set: strictly ascending, with the members of a list that may be in any order.
use Rattle.std.specs.Prelude.{◌≡◌, List}
use Rattle.std.specs.List.Sorted.{IsStrictlySortedBy}
use Rattle.std.specs.Ordering.{eq_by_cmp, ordering_then}
use Rattle.std.specs.declared.cmp.Ordering.{Ordering}
use Rattle.team_sets.specs.Closure.{has}
use Rattle.tg_text.specs.Order.{key_cmp}
use Rattle.tg_text.specs.declared.keys.KeyId.{KeyId}

pub record IsListOf {A : Type 0} (cmp : A → A → Ordering) (members list : List A) : Type 0 where
  pub ascends : IsStrictlySortedBy cmp list
  pub exact : (x : A) → has (eq_by_cmp cmp) list x ≡ has (eq_by_cmp cmp) members x

-- pairs of keys by the first, and then by the second
abbrev pub pair_cmp : KeyId × KeyId → KeyId × KeyId → Ordering
pair_cmp a b = ordering_then (key_cmp a.0 b.0) (key_cmp a.1 b.1)
