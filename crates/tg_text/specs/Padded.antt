use Rattle.std.specs.Prelude.{◌≡◌, ◌≤◌, ◌-◌, ℕ, List, ◌++◌, length, take, drop, replicate}
use Rattle.std.proofs.Common.{arith, length-append}
use Rattle.std.proofs.lemmas.List.{take-append-drop, length-take-le, drop-replicate, length-replicate}
use Rattle.std.proofs.Math.Seq.{drop-append_seam}

-- A text of at most `size` bytes in an array of `size`, with zeros after it.
pub record IsPadded (size len : ℕ) (bytes : List ℕ) : Type 0 where
  pub fits : len ≤ size
  pub whole : length bytes ≡ size
  pub zeros : drop len bytes ≡ replicate (size - len) 0

pub length_padded : {size len : ℕ} {bytes : List ℕ} → IsPadded size len bytes → length (take len bytes) ≡ len
length_padded {size} {len} {bytes} h = length-take-le len bytes (omega (arith, h.fits, h.whole))

pub bytes_padded : {size len : ℕ} {bytes : List ℕ} → IsPadded size len bytes → take len bytes ++ replicate (size - length (take len bytes)) 0 ≡ bytes
bytes_padded {size} {len} {bytes} h = rw (length_padded h, ← h.zeros) (take-append-drop len bytes)

pub padded_text : (size : ℕ) (text bytes : List ℕ) → bytes ≡ text → length text ≤ size → IsPadded size (length text) (bytes ++ drop (length text) (replicate size 0))
padded_text size text bytes e fits = rw e (record {
  fits = fits;
  whole = rw (length-append, drop-replicate {X = ℕ} (length text) size 0, length-replicate) (omega arith);
  zeros = rw drop-append_seam (drop-replicate {X = ℕ} (length text) size 0);
})
