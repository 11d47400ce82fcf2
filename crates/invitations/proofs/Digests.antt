-- Digests of SHA-256 and numbers in four bytes are bytes.
use Rattle.std.proofs.Common.{◌<◌, ◌/◌, ◌%◌, ◌^◌, ℕ, zero, suc, List, [], ◌∷◌, ◌++◌, length, take, drop, arith}
use Rattle.std.specs.Int.{byte_at, bytes_high_first, to_be_bytes, w32}
use Rattle.std.specs.Prelude.{slice_index}
use Rattle.sha2.specs.Sha256.{digest_bytes, final_hash, initial_hash_256, sha256}
use Rattle.sha2.proofs.Facts256.{length-sha256}
use Rattle.tg_text.specs.Spelling.{AreBytes, IsHash}
use Rattle.tg_text.proofs.Lists.{bytes_none, bytes_cons, bytes_append}
use Rattle.lms_ots.specs.Digits.{u32str}

low_byte : (n : ℕ) → n % 256 < 256
low_byte n = omega arith

byte_small : (i n : ℕ) → byte_at i n < 256
byte_small zero n = low_byte n
byte_small (suc i) n = low_byte (n / 256 ^ suc i)

bytes_high : (k n : ℕ) → AreBytes (bytes_high_first k n)
bytes_high zero n = bytes_none
bytes_high (suc k) n = bytes_cons (byte_at k n) (bytes_high_first k n) (byte_small k n) (bytes_high k n)

pub bytes_u32str : (n : ℕ) → AreBytes (u32str n)
unfolding u32str
bytes_u32str n = bytes_high 4 n

bytes_digest : (h : List ℕ) (n : ℕ) → AreBytes (digest_bytes h n)
unfolding digest_bytes
bytes_digest h zero = bytes_none
bytes_digest h (suc n) =
    bytes_append (digest_bytes h n) (to_be_bytes w32 (slice_index h n)) (bytes_digest h n) (bytes_high 4 (slice_index h n))

pub bytes_sha256 : (m : List ℕ) → AreBytes (sha256 m)
unfolding sha256
bytes_sha256 m = bytes_digest (final_hash initial_hash_256 m) 8

pub hash_of : (m : List ℕ) → IsHash (sha256 m)
hash_of m = record { size = length-sha256 m; bytes = bytes_sha256 m }
