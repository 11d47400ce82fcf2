-- Texts in frames, one after another.
use Rattle.std.proofs.Common.{◌≡◌, ◌<◌, ◌^◌, ℕ, List, [], ◌∷◌, ◌++◌, length, refl, sym, ap, ◌∙◌, append_assoc, append-nil, arith}
use Rattle.std.specs.List.{AllByRecursion}
use Rattle.std.proofs.lemmas.Grind.{flat_map-append}
use Rattle.link_text.specs.TeamFile.{frame}
use Rattle.team_files.proofs.Once.{frame_once}
use Rattle.head_sync.specs.Messages.{frames_of}

-- the length of each has at most nine digits
abbrev pub AreShort : List (List ℕ) → Type 0
AreShort texts = AllByRecursion (λ t. length t < 10 ^ 9) texts

-- where bytes follow the frames of some texts, and all are the frames of texts, the next text stands there
pub next_text : (done ts : List (List ℕ)) (rest : List ℕ) → AreShort done → AreShort ts → 0 < length rest → frames_of done ++ rest ≡ frames_of ts
    → (t : List ℕ) × (more : List (List ℕ)) × (ts ≡ done ++ t ∷ more) × (rest ≡ frame t ++ frames_of more) × (length t < 10 ^ 9)
next_text [] [] rest s u some e = absurd (omega (arith, some, ap length e))
next_text [] (t ∷ ts) rest s u some e = (t, ts, refl, e, u.0)
next_text (d ∷ ds) [] rest s u some e = absurd (omega (arith, ap length e))
next_text (d ∷ ds) (t ∷ ts) rest s u some e =
    let cut = frame_once d t (frames_of ds ++ rest) (frames_of ts) (omega (arith, s.0)) (omega (arith, u.0)) (sym (append_assoc (frame d) (frames_of ds) rest) ∙ e) in
    let n = next_text ds ts rest s.1 u.1 some cut.1 in
    (n.0, n.1, ap (λ (x : List ℕ). x ∷ ts) (sym cut.0) ∙ ap (λ (x : List (List ℕ)). d ∷ x) n.2, n.3, n.4)

pub short_more : (ts : List (List ℕ)) (t : List ℕ) → AreShort ts → length t < 10 ^ 9 → AreShort (ts ++ t ∷ [])
short_more [] t s lt = (lt, tt)
short_more (u ∷ us) t s lt = (s.0, short_more us t s.1 lt)

pub frames_more : (ts : List (List ℕ)) (t bytes rest after : List ℕ) → bytes ≡ frames_of ts ++ rest → rest ≡ frame t ++ after → bytes ≡ frames_of (ts ++ t ∷ []) ++ after
frames_more ts t bytes rest after e f =
    e ∙ ap (λ (x : List ℕ). frames_of ts ++ x) f ∙ sym (append_assoc (frames_of ts) (frame t) after)
    ∙ ap (λ (x : List ℕ). x ++ after) (sym (flat_map-append frame ts (t ∷ []) ∙ ap (λ (x : List ℕ). frames_of ts ++ x) (append-nil (frame t))))
