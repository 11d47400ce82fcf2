-- Bytes are the file of one team and of one set.
use Rattle.std.proofs.Common.{◌≡◌, ℕ, ◌<◌, ◌^◌, List, [], ◌∷◌, ◌++◌, length, take, drop, codes, refl, sym, ap, ◌∙◌, subst, append_assoc, arith}
use Rattle.std.specs.List.{AllByRecursion}
use Rattle.std.proofs.Math.Seq.{take-append_seam, drop-append_seam}
use Rattle.std.proofs.lemmas.List.{append_cancel_left}
use Rattle.tg_text.specs.Spelling.{IsHash, spell_hex, spell_decimal}
use Rattle.tg_text.proofs.FieldLaws.{decimal_once, hex_once, decimal_lacks, hex_lacks}
use Rattle.team_sets.specs.Names.{Name}
use Rattle.team_sets.specs.Members.{IsIn}
use Rattle.team_sets.specs.SortedLaws.{by_names}
use Rattle.team_sets.proofs.Sorted.{ascending-members}
use Rattle.team_model.specs.Judging.{name_of}
use Rattle.team_model.specs.declared.terms.Link.{Link}
use Rattle.link_text.specs.LinkText.{text, Reads, IsValid, LinkIsSpelledOnce}
use Rattle.link_text.specs.TeamFile.{frame, header, by_name}
use Rattle.team_files.specs.Frames.{frames, header_fields, length_fields}
use Rattle.team_files.specs.FileLaws.{FileIsReadOnce}
use Rattle.team_files.proofs.Lines.{header_line, frame_line}
use Rattle.team_files.proofs.Runs.{short}
use Rattle.team_files.proofs.Files.{in_order}

pub header_once : (t u : Name) (rest others : List ℕ) → IsHash t → IsHash u → header t ++ rest ≡ header u ++ others → (t ≡ u) × (rest ≡ others)
header_once t u rest others is so e =
    let line = header_line (header_fields t) rest u others (hex_lacks 10 t refl) (sym (append_assoc (header_fields t) (10 ∷ []) rest) ∙ e) in
    (hex_once t u is.bytes so.bytes (append_cancel_left (codes "team-file 1 ") (spell_hex t) (spell_hex u) line.0), line.1)

-- texts of one length that begin one list are one
pub front_once : (a b x y : List ℕ) → length a ≡ length b → a ++ x ≡ b ++ y → (a ≡ b) × (x ≡ y)
front_once a b x y same e = (
  sym (take-append_seam a x) ∙ ap (take (length a)) e ∙ ap (λ n. take n (b ++ y)) same ∙ take-append_seam b y,
  sym (drop-append_seam a x) ∙ ap (drop (length a)) e ∙ ap (λ n. drop n (b ++ y)) same ∙ drop-append_seam b y,
)

pub frame_once : (a b rest others : List ℕ) → length a < 2 ^ 64 → length b < 2 ^ 64 → frame a ++ rest ≡ frame b ++ others → (a ≡ b) × (rest ≡ others)
frame_once a b rest others small few e =
    let fields = length_fields (length a) in
    let line = frame_line fields (a ++ rest) b others few (decimal_lacks 10 (length a) refl small)
    (sym (append_assoc (fields ++ 10 ∷ []) a rest ∙ append_assoc fields (10 ∷ []) (a ++ rest)) ∙ e) in
    let same = decimal_once (length a) (length b) small few (append_cancel_left (codes "link ") (spell_decimal (length a)) (spell_decimal (length b)) line.0) in
    front_once a b rest others same line.1

-- links whose frames are the same bytes are the same links
frames_once : LinkIsSpelledOnce → (t u : Name) (xs ys : List Link) → AllByRecursion (λ l. IsValid t (text l) l) xs → AllByRecursion (λ l. IsValid u (text l) l) ys
    → frames xs ≡ frames ys → xs ≡ ys
frames_once once t u [] [] v w e = refl
frames_once once t u [] (y ∷ ys) v w e = absurd (omega (arith, ap length e))
frames_once once t u (x ∷ xs) [] v w e = absurd (omega (arith, ap length e))
frames_once once t u (x ∷ xs) (y ∷ ys) v w e =
    let split = frame_once (text x) (text y) (frames xs) (frames ys) (short t x v.0) (short u y w.0) e in
    let same : x ≡ y = once (text x) x y v.0.reads (subst (λ b. Reads b y) (sym split.0) w.0.reads) in
    let rest : xs ≡ ys = frames_once once t u xs ys v.1 w.1 split.1 in
    cc

pub file_once : LinkIsSpelledOnce → FileIsReadOnce
file_once once bytes t u links others file other =
    let head = header_once t u (frames (by_name links)) (frames (by_name others)) file.held.team other.held.team (sym file.is_text ∙ other.is_text) in
    let sorted : by_name links ≡ by_name others =
    frames_once once t u (by_name links) (by_name others) (in_order t links file.held).valid (in_order u others other.held).valid head.1 in
    let mine = ascending-members (by_names name_of) links in
    let theirs = ascending-members (by_names name_of) others in (
      head.0,
      record {
        forth = λ x k. theirs.forth x (subst (IsIn x) sorted (mine.back x k));
        back = λ x k. mine.forth x (subst (IsIn x) (sym sorted) (theirs.back x k));
      },
    )
