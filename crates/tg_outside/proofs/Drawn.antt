-- Words drawn one after the other.
use Rattle.std.proofs.Common.{◌≡◌, ℕ, List, [], ◌∷◌, ◌++◌, Option, Some, None, Result, Ok, Err, refl, sym, ap, ◌∙◌, append_assoc}
use Rattle.tg_outside.specs.Contents.{Draws, DrawsAll}

pub drawn_none : (left : Option (List (List ℕ))) → DrawsAll left left []
drawn_none None = tt
drawn_none (Some words) = (words, refl, refl)

-- one more was drawn
pub drawn_more : {E : Type 0} (a b c : Option (List (List ℕ))) (words : List (List ℕ)) (word : List ℕ) → DrawsAll a b words → Draws {E = E} b c (Ok word)
    → DrawsAll a c (words ++ word ∷ [])
drawn_more None b c words word h d = tt
drawn_more (Some left) b c words word h d =
    let k = rw h.2 at d.first in (k.0, h.1 ∙ ap (λ (l : List (List ℕ)). words ++ l) k.1 ∙ sym (append_assoc words (word ∷ []) k.0), k.2)

-- a draw failed
pub drawn_no_more : {E : Type 0} (a b c : Option (List (List ℕ))) (words : List (List ℕ)) (e : E) → DrawsAll a b words → Draws b c (Err e) → DrawsAll a c words
drawn_no_more None b c words e h d = tt
drawn_no_more (Some left) b c words e h d = (h.0, h.1, d.kept ∙ h.2)
