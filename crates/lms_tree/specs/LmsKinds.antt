-- The LMS types of RFC 8554 section 5.1 with SHA-256, m = 32.
use Rattle.std.specs.Prelude.{ℕ, ◌+◌, ◌*◌, ◌^◌, ◌==◌, [], ◌∷◌, Option}
use Rattle.std.specs.List.{find}
use Rattle.lms_ots.specs.declared.kind.OtsKind.{OtsKind}
use Rattle.lms_ots.specs.Kinds.{ots_length}
use Rattle.lms_tree.specs.declared.lms_kind.LmsKind.{LmsKind}
use Rattle.lms_tree.specs.declared.lms_kind.LmsKind.TheVariants.{H5, H10, H15, H20, H25}

-- a row of the table: the type number, and the height of the tree
pub record LmsRow : Type 0 where
  pub number : ℕ
  pub h : ℕ

abbrev pub lms_row : LmsKind → LmsRow
lms_row H5 = record { number = 5; h = 5 }
lms_row H10 = record { number = 6; h = 10 }
lms_row H15 = record { number = 7; h = 15 }
lms_row H20 = record { number = 8; h = 20 }
lms_row H25 = record { number = 9; h = 25 }

-- the kind of this type number
abbrev pub lms_kind : ℕ → Option LmsKind
lms_kind n = find (λ kind. (lms_row kind).number == n) (H5 ∷ H10 ∷ H15 ∷ H20 ∷ H25 ∷ [])

-- the leaves of a tree
abbrev pub leaves_of : LmsKind → ℕ
leaves_of lms = 2 ^ (lms_row lms).h

-- the bytes of a signature: q, the one-time signature, the type number and the path (section 5.4)
abbrev pub lms_length : LmsKind → OtsKind → ℕ
lms_length lms ots = 4 + ots_length ots + 4 + 32 * (lms_row lms).h
