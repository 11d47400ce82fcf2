-- How the symbolic keeper seals and opens. It hides nothing.
use Rattle.std.specs.Prelude.{ℕ, ◌==◌, ◌&&◌, List, ◌++◌, length, take, drop, Option, Some, None, if◌then◌else◌}
use Rattle.std.specs.Str.{bytes_eq}
use Rattle.sha2.specs.Sha256.{sha256}

-- the recipient's public key, and then the secret
abbrev pub symbolic_seal : List ℕ → List ℕ → List ℕ
symbolic_seal secret to_public = to_public ++ secret

-- the last 32 of 64 bytes whose first 32 are the public key of the secret that is presented
abbrev pub symbolic_unseal : List ℕ → List ℕ → Option (List ℕ)
symbolic_unseal bytes secret = if (length bytes == 64) && bytes_eq (take 32 bytes) (sha256 secret) then Some (drop 32 bytes) else None
