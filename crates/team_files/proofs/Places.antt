-- Where the texts of links stand in the bytes of a file, read frame by frame.
use Rattle.std.proofs.Common.{◌≡◌, ◌↔◌, Bool, IsTrue, ℕ, ◌<◌, ◌≤◌, ◌+◌, ◌-◌, suc, List, [], ◌∷◌, ◌++◌, length, take, drop, codes, Option, Some, None, refl, sym, ap, ◌∙◌, subst, append_assoc, length-append, arith}
use Rattle.std.proofs.Math.Seq.{take-append_seam, drop-append_seam}
use Rattle.tg_text.specs.Spelling.{line_of, spell_decimal}
use Rattle.team_sets.specs.Names.{Name}
use Rattle.team_model.specs.declared.terms.Link.{Link}
use Rattle.link_text.specs.LinkText.{text, IsValid}
use Rattle.link_text.specs.TeamFile.{frame}
use Rattle.team_files.specs.Frames.{frames, last_name, may_stand, AreInOrder, AreTexts, MayFollow, StandsAt}
use Rattle.team_files.proofs.Runs.{all_more_is, last_more, next_link, order_more, spelled_more, stands-follows}

texts_more : (bytes : List ℕ) (places : List (ℕ × ℕ)) (links : List Link) (at : ℕ × ℕ) (l : Link) → AreTexts bytes places links → StandsAt bytes at.0 at.1 (text l)
    → AreTexts bytes (places ++ at ∷ []) (links ++ l ∷ [])
texts_more bytes [] [] at l are stands = (stands, tt)
texts_more bytes (p ∷ ps) (k ∷ ks) at l are stands = (are.0, texts_more bytes ps ks at l are.1 stands)
texts_more bytes [] (k ∷ ks) at l are stands = absurd are
texts_more bytes (p ∷ ps) [] at l are stands = absurd are

pub texts_many : (bytes : List ℕ) (places : List (ℕ × ℕ)) (links : List Link) → AreTexts bytes places links → length places ≡ length links
texts_many bytes [] [] are = refl
texts_many bytes (p ∷ ps) (k ∷ ks) are = ap suc (texts_many bytes ps ks are.1)
texts_many bytes [] (k ∷ ks) are = absurd are
texts_many bytes (p ∷ ps) [] are = absurd are

pub stands_at : (bytes front inner after : List ℕ) → bytes ≡ front ++ (inner ++ after) → StandsAt bytes (length bytes - length after - length inner) (length inner) inner
stands_at bytes front inner after e =
    let all = ap length e ∙ length-append front (inner ++ after) in
    let two = length-append inner after in
    let offset : length bytes - length after - length inner ≡ length front = omega (arith, all, two) in
    let rest : drop (length front) bytes ≡ inner ++ after = ap (drop (length front)) e ∙ drop-append_seam front (inner ++ after) in
    record {
      within = omega (arith, all, two);
      is_there = ap (λ n. take (length inner) (drop n bytes)) offset ∙ ap (take (length inner)) rest ∙ take-append_seam inner after;
    }

-- there is room for a text and for what is after it
pub ends_with : (bytes front inner after : List ℕ) → bytes ≡ front ++ (inner ++ after) → (length after ≤ length bytes) × (length inner ≤ length bytes - length after)
ends_with bytes front inner after e =
    let all = ap length e ∙ length-append front (inner ++ after) in
    let two = length-append inner after in
    (omega (arith, all, two), omega (arith, all, two))

-- these links were read so far: they are in order, and of any links in order whose frames the bytes are, these are the first
pub record IsReadTo (t : Name) (bytes at_end rest : List ℕ) (places : List (ℕ × ℕ)) (last : Option Name) (links : List Link) : Type 0 where
  pub order : AreInOrder t links
  pub spelled : at_end ≡ frames links ++ rest
  pub only : (all : List Link) → AreInOrder t all → at_end ≡ frames all → (more : List Link) × (all ≡ links ++ more) × (rest ≡ frames more)
  pub texts : AreTexts bytes places links
  pub last_is : last_name links ≡ last

pub none_read : (t : Name) (bytes rest : List ℕ) → IsReadTo t bytes rest rest [] None []
none_read t bytes rest = record {
  order = record { valid = tt; ascend = tt; few = omega arith };
  spelled = refl;
  only = λ all are e. (all, refl, e);
  texts = tt;
  last_is = refl;
}

module _ (t : Name) (bytes head at_end rest : List ℕ) (places : List (ℕ × ℕ)) (last : Option Name) (links : List Link)
    (whole : bytes ≡ head ++ at_end) (read : IsReadTo t bytes at_end rest places last links) where
  -- the link with which the rest begins, where the bytes are the frames of links in order
  pub next_of : (all : List Link) → AreInOrder t all → at_end ≡ frames all → 0 < length rest
      → (l : Link) × (others : List Link) × (all ≡ links ++ l ∷ others) × (rest ≡ frame (text l) ++ frames others) × IsValid t (text l) l × MayFollow links l
  next_of all are e some = let was = read.only all are e in next_link t all links rest was.0 are was.1 was.2 some

  -- the test of how many there are, and of the last
  pub stands-read : (count : ℕ) (link : Link) (b : Bool) → count ≡ length places → b ≡ may_stand count last link.name → IsTrue b ↔ MayFollow links link
  stands-read count link b e f =
      stands-follows links link b
      (f ∙ ap (λ (n : ℕ). may_stand n last link.name) (e ∙ texts_many bytes places links read.texts) ∙ ap (λ (o : Option Name). may_stand (length links) o link.name) (sym read.last_is))

  module _ (inner after : List ℕ) (link : Link) (is_rest : rest ≡ frame inner ++ after) (valid : IsValid t inner link) where
    -- what is before the text of the next frame
    abbrev pub front : List ℕ
    front = head ++ (frames links ++ line_of (codes "link" ∷ spell_decimal (length inner) ∷ []))

    pub at_front : bytes ≡ front ++ (inner ++ after)
    at_front =
        let line : List ℕ = line_of (codes "link" ∷ spell_decimal (length inner) ∷ []) in
        whole ∙ ap (λ r. head ++ r) (read.spelled ∙ ap (λ r. frames links ++ r) (is_rest ∙ append_assoc line inner after) ∙ sym (append_assoc (frames links) line (inner ++ after)))
        ∙ sym (append_assoc head (frames links ++ line) (inner ++ after))

    pub read_more : MayFollow links link → 0 < length rest → (place : ℕ × ℕ) → StandsAt bytes place.0 place.1 inner
        → ((l : Link) (others : List Link) → rest ≡ frame (text l) ++ frames others → IsValid t (text l) l → (link ≡ l) × (after ≡ frames others))
        → IsReadTo t bytes at_end after (places ++ place ∷ []) (Some link.name) (links ++ link ∷ [])
    read_more may some place stands same =
        let is_text : inner ≡ text link = valid.reads.is_text in
        record {
          order = order_more t links link read.order (subst (λ b. IsValid t b link) is_text valid) may;
          spelled = spelled_more at_end rest inner after links link read.spelled is_rest is_text;
          only = λ all are e.
              let next = next_of all are e some in
              let one = same next.0 next.1 next.3 next.4 in
              (next.1, all_more_is all links (links ++ link ∷ []) next.1 next.0 link next.2 refl one.0, one.1);
          texts = texts_more bytes places links place link read.texts (subst (λ b. StandsAt bytes place.0 place.1 b) is_text stands);
          last_is = last_more links link;
        }
