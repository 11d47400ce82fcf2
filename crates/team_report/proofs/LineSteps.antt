-- Lines that are written one after another, of what is found of each element.
use Rattle.std.proofs.Common.{◌≡◌, ◌∙◌, ℕ, ◌+◌, ◌<◌, ◌≤◌, List, ◌++◌, Option, Some, refl, sym, ap, add-one, append-nil, append_assoc, drop, drop-cons, flat_map, get_or, length, map, slice_get}
use Rattle.std.specs.List.{filter_map}
use Rattle.std.proofs.lemmas.List.{drop_all}
use Rattle.team_model.specs.Judging.{team_rules, verdict}
use Rattle.team_model.specs.declared.terms.Link.{Link}
use Rattle.team_model.specs.declared.terms.Verdict.{Verdict}
use Rattle.link_graph.specs.Held.{arrived_of}
use Rattle.link_graph.proofs.Marks.{map_at}

module _ {Y A : Type 0} (f : A → List ℕ) (h : Y → Option A) (ys : List Y) where
  -- what is left has the line of the next first
  pub line_next : (i : ℕ) (d : Y) (x : A) (whole now next : List ℕ) → i < length ys → h (get_or ys i d) ≡ Some x → next ≡ now ++ f x
      → now ++ flat_map f (filter_map h (drop i ys)) ≡ whole → next ++ flat_map f (filter_map h (drop (i + 1) ys)) ≡ whole
  line_next i d x whole now next lt is line so =
      ap (λ l. l ++ flat_map f (filter_map h (drop (i + 1) ys))) line
      ∙ append_assoc now (f x) (flat_map f (filter_map h (drop (i + 1) ys)))
      ∙ ap (λ l. now ++ l) (sym rest) ∙ so
    where
      rest : flat_map f (filter_map h (drop i ys)) ≡ f x ++ flat_map f (filter_map h (drop (i + 1) ys))
      rest = rw (add-one, drop-cons ys i d lt, is) refl

  -- nothing is left
  pub lines_end : (i : ℕ) (whole now : List ℕ) → length ys ≤ i → now ++ flat_map f (filter_map h (drop i ys)) ≡ whole → now ≡ whole
  lines_end i whole now past so = sym (append-nil now) ∙ ap (λ l. now ++ flat_map f (filter_map h l)) (sym (drop_all i ys past)) ∙ so

-- the verdict of a position is that of its link
pub judged_at : (links : List Link) (p : ℕ) (x : Link) (v : Verdict) (vs : List Verdict) → slice_get (arrived_of links) p ≡ Some x → vs ≡ map (verdict team_rules links) (arrived_of links) → v ≡ get_or vs p v
    → v ≡ verdict team_rules links x
judged_at links p x v vs at are found = found ∙ ap (λ (l : List Verdict). get_or l p v) are ∙ map_at (verdict team_rules links) (arrived_of links) p x v at
