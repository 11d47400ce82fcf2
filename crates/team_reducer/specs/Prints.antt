-- Box lines by their keys and the digests of their bytes. Equal lines have equal prints.
use Rattle.std.specs.Prelude.{ℕ, Bool, ◌&&◌, List}
use Rattle.std.specs.Ordering.{eq_by_cmp, nat_cmp, ordering_then}
use Rattle.std.specs.Cmp.Lexicographic.{slice_cmp}
use Rattle.std.specs.declared.cmp.Ordering.{Ordering}
use Rattle.sha2.specs.Sha256.{sha256}
use Rattle.team_sets.specs.Closure.{has}
use Rattle.tg_text.specs.Order.{key_cmp}
use Rattle.tg_text.specs.declared.keys.BoxLine.{BoxLine}
use Rattle.tg_text.specs.declared.keys.KeyId.{KeyId}
use Rattle.key_reach.specs.Lists.{pair_cmp}

abbrev pub Print : Type 0
Print = KeyId × KeyId × List ℕ

abbrev pub print_of : BoxLine → Print
print_of b = (b.to, b.of, sha256 b.bytes)

-- by the recipient, then by the content, then by the digest
abbrev pub print_cmp : Print → Print → Ordering
print_cmp a b = ordering_then (ordering_then (key_cmp a.0 b.0) (key_cmp a.1 b.1)) (slice_cmp nat_cmp a.2 b.2)

abbrev pub pair_of : BoxLine → KeyId × KeyId
pair_of b = (b.to, b.of)

abbrev pub has_pair : List (KeyId × KeyId) → BoxLine → Bool
has_pair pairs b = has (eq_by_cmp pair_cmp) pairs (pair_of b)

abbrev pub has_print : List Print → BoxLine → Bool
has_print prints b = has (eq_by_cmp print_cmp) prints (print_of b)

-- whether a box has the pair of keys and the print of one of some lines
abbrev pub may_be : List (KeyId × KeyId) → List Print → BoxLine → Bool
may_be pairs prints b = has_pair pairs b && has_print prints b
