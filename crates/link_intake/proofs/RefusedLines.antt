-- The lines of refused items, one item further.
use Rattle.std.proofs.Common.{◌≡◌, ◌+◌, ◌<◌, ℕ, suc, List, [], ◌∷◌, ◌++◌, drop, drop-cons, get_or, length, add-one, append_assoc, append-nil, sym, ◌∙◌, ap}
use Rattle.link_intake.specs.ResultsText.{refused_line, refused_lines}
use Rattle.link_intake.specs.declared.item_result.ItemResult.{ItemResult}

pub lines_next : (out more : List ℕ) (results : List ItemResult) (i : ℕ) (f : ItemResult) → i < length results → f ≡ get_or results i f → more ≡ out ++ refused_line (i + 1) f
    → more ++ refused_lines (i + 1 + 1) (drop (i + 1) results) ≡ out ++ refused_lines (i + 1) (drop i results)
lines_next out more results i f lt at e =
    let split : drop i results ≡ f ∷ drop (i + 1) results = rw (add-one) (drop-cons results i f lt ∙ ap (λ (x : ItemResult). x ∷ drop (suc i) results) (sym at)) in
    ap (λ (o : List ℕ). o ++ refused_lines (i + 1 + 1) (drop (i + 1) results)) e ∙ append_assoc out (refused_line (i + 1) f) (refused_lines (i + 1 + 1) (drop (i + 1) results))
    ∙ ap (λ (l : List ItemResult). out ++ refused_lines (i + 1) l) (sym split)

pub lines_end : (out : List ℕ) (n : ℕ) (rest : List ItemResult) → rest ≡ [] → out ≡ out ++ refused_lines n rest
lines_end out n rest e = sym (append-nil out) ∙ ap (λ (l : List ItemResult). out ++ refused_lines n l) (sym e)
