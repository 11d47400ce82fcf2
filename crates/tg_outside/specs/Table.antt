-- Files kept as a list of names and bytes, the newest first.
use Rattle.std.specs.Prelude.{ℕ, List, Option}
use Rattle.std.specs.Ordering.{nat_cmp}
use Rattle.std.specs.Cmp.Lexicographic.{slice_cmp}
use Rattle.std.specs.FinMap as map
use Rattle.tg_outside.specs.Contents.{FileMap}

-- the files of the list
abbrev pub files_of : List (List ℕ × List ℕ) → FileMap
files_of entries = map.from_entries entries

-- the bytes of the newest entry under the name
abbrev pub newest : List ℕ → List (List ℕ × List ℕ) → Option (List ℕ)
newest name entries = map.find (slice_cmp nat_cmp) name entries
