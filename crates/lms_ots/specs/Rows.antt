-- Worked values of the definitions.
use Rattle.std.specs.Prelude.{◌≡◌, List, [], ◌∷◌, map, replicate}
use Rattle.lms_ots.specs.declared.kind.OtsKind.{OtsKind}
use Rattle.lms_ots.specs.declared.kind.OtsKind.TheVariants.{W1, W2, W4, W8}
use Rattle.lms_ots.specs.Kinds.{ots_length}
use Rattle.lms_ots.specs.Digits.{coef, checksum}

-- the digits of 0x1234 (RFC 8554 section 3.1.3)
abbrev pub CoefRows : Type 0
CoefRows = (coef (0x12 ∷ 0x34 ∷ []) 7 1 ≡ 0) × (coef (0x12 ∷ 0x34 ∷ []) 0 4 ≡ 1)

abbrev pub all_kinds : List OtsKind
all_kinds = W1 ∷ W2 ∷ W4 ∷ W8 ∷ []

-- the checksums of 32 zero bytes
abbrev pub ChecksumRows : Type 0
ChecksumRows = map (λ kind. checksum kind (replicate 32 0)) all_kinds ≡ 0x8000 ∷ 0x6000 ∷ 0x3C00 ∷ 0x1FE0 ∷ []

-- the lengths of one-time signatures (section 4.1)
abbrev pub LengthRows : Type 0
LengthRows = map ots_length all_kinds ≡ 8516 ∷ 4292 ∷ 2180 ∷ 1124 ∷ []
