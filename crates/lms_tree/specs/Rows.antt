-- Worked values of the definitions.
use Rattle.std.specs.Prelude.{◌≡◌, [], ◌∷◌, map}
use Rattle.lms_ots.specs.declared.kind.OtsKind.TheVariants.{W4, W8}
use Rattle.lms_tree.specs.declared.lms_kind.LmsKind.TheVariants.{H5, H10, H15, H20, H25}
use Rattle.lms_tree.specs.LmsKinds.{lms_length, leaves_of}

-- the lengths of signatures of types 5 and 4, 6 and 3, 5 and 3
abbrev pub SignatureRows : Type 0
SignatureRows = (lms_length H5 W8 ≡ 1292) × (lms_length H10 W4 ≡ 2508) × (lms_length H5 W4 ≡ 2348)

-- the leaves of the five types
abbrev pub LeavesRows : Type 0
LeavesRows = map leaves_of (H5 ∷ H10 ∷ H15 ∷ H20 ∷ H25 ∷ []) ≡ 32 ∷ 1024 ∷ 32768 ∷ 1048576 ∷ 33554432 ∷ []
