-- The order of scopes and of key ids.
use Rattle.std.specs.Ordering.{nat_cmp, ordering_then}
use Rattle.std.specs.Cmp.Lexicographic.{slice_cmp}
use Rattle.std.specs.declared.cmp.Ordering.{Ordering}
use Rattle.std.specs.declared.cmp.Ordering.TheVariants.{Less, Equal, Greater}
use Rattle.tg_text.specs.declared.keys.Scope.{Scope}
use Rattle.tg_text.specs.declared.keys.Scope.TheVariants.{Team, Role, User, Device}
use Rattle.tg_text.specs.declared.keys.KeyId.{KeyId}

-- The team comes first, then roles by name, then users by name, then devices by id.
abbrev pub scope_cmp : Scope → Scope → Ordering
scope_cmp Team Team = Equal
scope_cmp Team b = Less
scope_cmp (Role a) Team = Greater
scope_cmp (Role a) (Role b) = slice_cmp nat_cmp a b
scope_cmp (Role a) b = Less
scope_cmp (User a) (User b) = slice_cmp nat_cmp a b
scope_cmp (User a) (Device b) = Less
scope_cmp (User a) b = Greater
scope_cmp (Device a) (Device b) = slice_cmp nat_cmp a b
scope_cmp (Device a) b = Greater

-- Keys are ordered by scope, then by generation, then by public half.
abbrev pub key_cmp : KeyId → KeyId → Ordering
key_cmp a b = ordering_then (scope_cmp a.scope b.scope) (ordering_then (nat_cmp a.generation b.generation) (slice_cmp nat_cmp a.public b.public))
