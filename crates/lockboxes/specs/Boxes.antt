-- What a sealed box is.
use Rattle.std.specs.Prelude.{ℕ, ◌≤◌, List, length}

-- 1 to 256 bytes
pub record IsBox (bytes : List ℕ) : Type 0 where
  pub some : 1 ≤ length bytes
  pub short : length bytes ≤ 256
