-- The LM-OTS types of RFC 8554 section 4.1 with SHA-256, n = 32.
use Rattle.std.specs.Prelude.{◌≡◌, ℕ, ◌+◌, ◌*◌, ◌==◌, ◌⊎◌, [], ◌∷◌, Option}
use Rattle.std.specs.List.{find}
use Rattle.lms_ots.specs.declared.kind.OtsKind.{OtsKind}
use Rattle.lms_ots.specs.declared.kind.OtsKind.TheVariants.{W1, W2, W4, W8}

-- a row of the table: the type number, the width of a digit in bits, the number of chains, the shift of the checksum
pub record OtsRow : Type 0 where
  pub number : ℕ
  pub w : ℕ
  pub p : ℕ
  pub ls : ℕ

abbrev pub ots_row : OtsKind → OtsRow
ots_row W1 = record { number = 1; w = 1; p = 265; ls = 7 }
ots_row W2 = record { number = 2; w = 2; p = 133; ls = 6 }
ots_row W4 = record { number = 3; w = 4; p = 67; ls = 4 }
ots_row W8 = record { number = 4; w = 8; p = 34; ls = 0 }

-- the kind of this type number
abbrev pub ots_kind : ℕ → Option OtsKind
ots_kind n = find (λ kind. (ots_row kind).number == n) (W1 ∷ W2 ∷ W4 ∷ W8 ∷ [])

-- the bytes of a one-time signature: the type number, C and y[0] .. y[p - 1] (section 4.5)
abbrev pub ots_length : OtsKind → ℕ
ots_length kind = 4 + 32 + 32 * (ots_row kind).p

-- a width of digits that the standard has
abbrev pub IsWidth : ℕ → Type 0
IsWidth w = (w ≡ 1) ⊎ (w ≡ 2) ⊎ (w ≡ 4) ⊎ (w ≡ 8)
