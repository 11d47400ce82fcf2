-- One line at the front of a text: a word, a field and a newline.
use Rattle.std.proofs.Common.{◌≡◌, ◌≢◌, ◌↔◌, ℕ, false, List, [], ◌∷◌, ◌++◌, Option, None, Some, IsSome, IfSome, refl, sym, ap, ◌∙◌, subst, true≢false, append_assoc}
use Rattle.std.proofs.lemmas.List.{append_cancel_left}
use Rattle.tg_text.specs.Reading.{Reads, Takes}
use Rattle.tg_text.specs.Spelling.{has_newline, line_of}
use Rattle.tg_text.proofs.Splits.{no_split, one_split}

-- The text after a line follows its newline.
pub line_then : (word field rest : List ℕ) → line_of (word ∷ field ∷ []) ++ rest ≡ word ++ 32 ∷ (field ++ 10 ∷ rest)
line_then word field rest = simp append_assoc

-- Two texts that begin with a line of one word have the same field there, and the same text after it.
pub line_once : (word a b x y : List ℕ) → has_newline a ≡ false → has_newline b ≡ false → word ++ 32 ∷ (a ++ 10 ∷ x) ≡ word ++ 32 ∷ (b ++ 10 ∷ y) → (a ≡ b) × (x ≡ y)
line_once word a b x y la lb e =
    let same = append_cancel_left word (32 ∷ (a ++ 10 ∷ x)) (32 ∷ (b ++ 10 ∷ y)) e in
    one_split 10 a b x y la lb (let h = same in cc)

-- The same of lines as they are spelled.
pub spelled_once : (word a b x y : List ℕ) → has_newline a ≡ false → has_newline b ≡ false → line_of (word ∷ a ∷ []) ++ x ≡ line_of (word ∷ b ∷ []) ++ y → (a ≡ b) × (x ≡ y)
spelled_once word a b x y la lb e = line_once word a b x y la lb (sym (line_then word a x) ∙ e ∙ line_then word b y)

-- No line of the word stands where no space follows it,
pub no_space : (word text after : List ℕ) → text ≡ word ++ after → ((rest : List ℕ) → after ≢ 32 ∷ rest) → (field rest : List ℕ) → text ≢ word ++ 32 ∷ (field ++ 10 ∷ rest)
no_space word text after is none field rest e = none (field ++ 10 ∷ rest) (append_cancel_left word after (32 ∷ (field ++ 10 ∷ rest)) (sym is ∙ e))

-- nor where no newline ends the line.
pub no_end : (word text after left : List ℕ) → text ≡ word ++ after → after ≡ 32 ∷ left → has_newline left ≡ false → (field rest : List ℕ) → text ≢ word ++ 32 ∷ (field ++ 10 ∷ rest)
no_end word text after left is spaced none field rest e =
    let same : 32 ∷ left ≡ 32 ∷ (field ++ 10 ∷ rest) = sym spaced ∙ append_cancel_left word after (32 ∷ (field ++ 10 ∷ rest)) (sym is ∙ e) in
    no_split 10 left field rest none (let h = same in cc)

-- The reader of a field makes the reader of its line.
pub takes : {X : Type 0} (IsX : X → Type 0) (spell : X → List ℕ) (word field old new : List ℕ) (read : Option X)
    → ((x : X) → IsX x → has_newline (spell x) ≡ false) → (has_newline field ≡ false) × (old ≡ word ++ 32 ∷ (field ++ 10 ∷ new)) → Reads IsX spell field read
    → Takes IsX (λ x. line_of (word ∷ spell x ∷ [])) old new read
takes IsX spell word field old new None lacks line reads = record {
  found = tt;
  only = λ x rest is e.
      let same = line_once word field (spell x) new rest line.0 (lacks x is) (sym line.1 ∙ e ∙ line_then word (spell x) rest) in
      (reads.only x is same.0, same.1);
}
takes IsX spell word field old new (Some y) lacks line reads = record {
  found = (reads.found.0, line.1 ∙ ap (λ (t : List ℕ). word ++ 32 ∷ (t ++ 10 ∷ new)) reads.found.1 ∙ sym (line_then word (spell y) new));
  only = λ x rest is e.
      let same = line_once word field (spell x) new rest line.0 (lacks x is) (sym line.1 ∙ e ∙ line_then word (spell x) rest) in
      (reads.only x is same.0, same.1);
}

-- Where no line of the word stands, none is taken.
pub takes_none : {X : Type 0} (IsX : X → Type 0) (spell : X → List ℕ) (word old new : List ℕ) → ((field rest : List ℕ) → old ≢ word ++ 32 ∷ (field ++ 10 ∷ rest))
    → Takes IsX (λ x. line_of (word ∷ spell x ∷ [])) old new None
takes_none IsX spell word old new none = record {
  found = tt;
  only = λ x rest is e. absurd (none (spell x) rest (e ∙ line_then word (spell x) rest));
}

-- A reader whose values are spelled as they are.
pub reads_itself : (IsX : List ℕ → Type 0) (text : List ℕ) (read : Option (List ℕ)) → (IsSome read ↔ IsX text) → IfSome read (λ it. it ≡ text) → Reads IsX (λ x. x) text read
reads_itself IsX text None exact found = record { found = tt; only = λ x is e. absurd (true≢false (sym (exact.1 (subst IsX (sym e) is)))) }
reads_itself IsX text (Some y) exact found = record { found = (subst IsX (sym found) (exact.0 refl), sym found); only = λ x is e. ap Some (found ∙ e) }
