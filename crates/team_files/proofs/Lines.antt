-- A team file has its header in one way, and what is left has its first frame in one way.
use Rattle.std.proofs.Common.{◌≡◌, ℕ, ◌<◌, ◌^◌, false, List, [], ◌∷◌, ◌++◌, length, take, drop, Option, Some, None, refl, sym, ap, ◌∙◌, append_assoc, length-append, arith}
use Rattle.std.proofs.Math.Seq.{take-append_seam, drop-append_seam}
use Rattle.tg_text.specs.Spelling.{has_newline}
use Rattle.tg_text.proofs.Splits.{one_split}
use Rattle.tg_text.proofs.FieldLaws.{decimal_lacks, hex_lacks}
use Rattle.link_text.specs.TeamFile.{frame, header}
use Rattle.team_files.specs.Frames.{header_fields, length_fields}

pub header_line : (line after team rest : List ℕ) → has_newline line ≡ false → line ++ 10 ∷ after ≡ header team ++ rest
    → (line ≡ header_fields team) × (after ≡ rest)
header_line line after team rest none e =
    one_split 10 line (header_fields team) after rest none (hex_lacks 10 team refl) (e ∙ append_assoc (header_fields team) (10 ∷ []) rest)

pub frame_line : (line after inner rest : List ℕ) → length inner < 2 ^ 64 → has_newline line ≡ false → line ++ 10 ∷ after ≡ frame inner ++ rest
    → (line ≡ length_fields (length inner)) × (after ≡ inner ++ rest)
frame_line line after inner rest small none e =
    one_split 10 line (length_fields (length inner)) after (inner ++ rest) none (decimal_lacks 10 (length inner) refl small)
    (e ∙ append_assoc (length_fields (length inner) ++ 10 ∷ []) inner rest ∙ append_assoc (length_fields (length inner)) (10 ∷ []) (inner ++ rest))

pub some_none : {A : Type 0} (x : A) (o : Option A) → o ≡ Some x → o ≡ None → ⊥
some_none x o e f = let h : ◌≡◌ {A = Option _} (Some x) None = sym e ∙ f in cc

pub some_some : {A : Type 0} (x y : A) (o : Option A) → o ≡ Some x → o ≡ Some y → y ≡ x
some_some x y o e f = let h : ◌≡◌ {A = Option _} (Some x) (Some y) = sym e ∙ f in cc

-- a length that is past the end isn't that of the text in front
pub too_long : (n : ℕ) (left inner rest : List ℕ) → n ≡ length inner → left ≡ inner ++ rest → length left < n → ⊥
too_long n left inner rest is e lt = absurd (omega (arith, ap length e, length-append inner rest))

pub front_is : (n : ℕ) (left inner rest : List ℕ) → n ≡ length inner → left ≡ inner ++ rest → take n left ≡ inner
front_is n left inner rest is e = rw (is, e) (take-append_seam inner rest)

pub back_is : (n : ℕ) (left inner rest : List ℕ) → n ≡ length inner → left ≡ inner ++ rest → drop n left ≡ rest
back_is n left inner rest is e = rw (is, e) (drop-append_seam inner rest)
