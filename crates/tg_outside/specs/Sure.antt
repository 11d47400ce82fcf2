-- What entropy draws that never fails.
use Rattle.std.specs.Prelude.{ℕ, List, ◌++◌}
use Rattle.std.specs.Int.{w64, to_be_bytes}
use Rattle.sha2.specs.Sha256.{sha256}

-- the word of the draw of this number, counted from 0
abbrev pub sure_word : List ℕ → ℕ → List ℕ
sure_word start number = sha256 (start ++ to_be_bytes w64 number)
