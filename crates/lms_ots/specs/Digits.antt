-- Strings of bytes and their digits, in the letters of RFC 8554 sections 3.1, 4.4 and 4.5.
use Rattle.std.specs.Prelude.{ℕ, zero, suc, ◌+◌, ◌-◌, ◌*◌, ◌/◌, ◌%◌, ◌^◌, List, ◌++◌, slice_index}
use Rattle.std.specs.Int.{w16, w32, to_be_bytes}
use Rattle.sha2.specs.Sha256.{sha256}
use Rattle.lms_ots.specs.declared.kind.OtsKind.{OtsKind}
use Rattle.lms_ots.specs.Kinds.{ots_row}

-- the bytes of a number, the highest first (section 3.1)
unfoldable pub u32str : ℕ → List ℕ
u32str n = to_be_bytes w32 n

unfoldable pub u16str : ℕ → List ℕ
u16str n = to_be_bytes w16 n

-- D_PBLC and D_MESG (sections 4.3 and 4.5)
abbrev pub d_pblc : ℕ
d_pblc = 0x8080

abbrev pub d_mesg : ℕ
d_mesg = 0x8181

-- the i-th digit of w bits (section 3.1.3)
unfoldable pub coef : List ℕ → ℕ → ℕ → ℕ
coef s i w = slice_index s (i * w / 8) / 2 ^ (8 - (w * (i % (8 / w)) + w)) % 2 ^ w

-- the sum of f over the numbers below n
unfoldable pub sum_below : (ℕ → ℕ) → ℕ → ℕ
sum_below f zero = 0
sum_below f (suc n) = sum_below f n + f n

-- Cksm: how far each digit is from the greatest one, summed and shifted left, as 16 bits (section 4.4)
unfoldable pub checksum : OtsKind → List ℕ → ℕ
checksum kind s =
    let w = (ots_row kind).w in
    sum_below (λ i. 2 ^ w - 1 - coef s i w) (256 / w) * 2 ^ (ots_row kind).ls % 2 ^ 16

-- Q || Cksm(Q), where Q is the hash of the message with C (section 4.5)
unfoldable pub message_digits : OtsKind → List ℕ → ℕ → List ℕ → List ℕ → List ℕ
message_digits kind id q c message =
    let hashed = sha256 (id ++ u32str q ++ u16str d_mesg ++ c ++ message) in hashed ++ u16str (checksum kind hashed)
