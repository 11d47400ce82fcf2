-- The connected links line up one by one.
use Rattle.std.proofs.Common.{◌≡◌, ◌+◌, ◌<◌, ◌≤◌, ℕ, zero, suc, List, [], ◌∷◌, ◌++◌, Option, Some, None, refl, sym, ◌∙◌, ap, subst, length, insert, take, drop, slice_get, add-one, All, arith}
use Rattle.std.specs.List.{AllByRecursion}
use Rattle.std.specs.Map.{keys_of}
use Rattle.std.proofs.lemmas.List.{length-map, map-append, take-append-drop, length_push, take_all}
use Rattle.std.proofs.lemmas.List.Elements.{All-from_recursion, recursion_from_All}
use Rattle.std.proofs.lemmas.List.Sums.{fold-append}
use Rattle.team_sets.specs.Names.{Name}
use Rattle.team_sets.specs.Order.{names}
use Rattle.team_sets.specs.OrderLaws.{ParentsFirst}
use Rattle.team_sets.proofs.Ancestors.{first_take, next_at}
use Rattle.team_sets.proofs.Lists.{take_next}
use Rattle.team_model.specs.Judging.{name_of, prev_of}
use Rattle.team_model.specs.declared.terms.Link.{Link}
use Rattle.link_graph.specs.Heads.{heads_with}
use Rattle.link_graph.specs.Lines.{IsLineup, place_index}
use Rattle.link_graph.specs.Positions.{at_places, HasEntries, linked}
use Rattle.link_graph.specs.declared.lineup.Lineup.{Lineup}
use Rattle.link_graph.proofs.Fitting.{keys_linked, length-linked}
use Rattle.link_graph.proofs.Lining.{all_insert, all_more, at_front, at_map, length_at, order_more}

length_part : {A : Type 0} (xs : List A) (k : ℕ) → k ≤ length xs → length (take k xs) ≡ k
length_part xs zero h = refl
length_part [] (suc k) h = absurd (omega (arith, h))
length_part (x ∷ xs) (suc k) h = ap suc (length_part xs k (omega (arith, h)))

module _ (links : List Link) (entries : List (Name × ℕ)) (has : HasEntries links entries) (k : ℕ) (line : Lineup) (so : IsLineup (take k (linked links entries)) line) (within : k ≤ length entries) where
  many : length (take k (linked links entries)) ≡ k
  many = length_part (linked links entries) k (let h = length-linked links entries has in omega (arith, h, within))

  pub row_size : length line.order.items ≡ k
  row_size = so.size ∙ many

  pub row_range : All (λ p. p < length entries) line.order.items
  row_range =
      All-from_recursion (λ p. p < length entries) line.order.items
      (all_more line.order.items (length (take k (linked links entries))) (length entries) (omega (arith, many, within)) (recursion_from_All (λ p. p < length (take k (linked links entries))) line.order.items so.range))

  pub row_heads : length line.heads.items ≤ k
  row_heads = let h = so.few in omega (arith, h, many)

  module _ (first : ParentsFirst name_of prev_of [] (linked links entries)) (y : Link) (at : slice_get (linked links entries) k ≡ Some y) (new : Lineup)
      (order : new.order.items ≡ insert line.order.items (place_index y (at_places (keys_of entries) line.order.items)) (length line.order.items))
      (heads : new.heads.items ≡ heads_with line.heads.items y) (short : length new.heads.items ≤ length line.heads.items + 1) where
    front : List Link
    front = take k (linked links entries)

    pub row_more : IsLineup (take (k + 1) (linked links entries)) new
    row_more =
        let next : take (k + 1) (linked links entries) ≡ take k (linked links entries) ++ y ∷ [] = take_next (linked links entries) k y at in
        let range = recursion_from_All (λ p. p < length (take k (linked links entries))) line.order.items so.range in
        let there : at_places (keys_of entries) line.order.items ≡ names name_of (at_places (take k (linked links entries)) line.order.items) =
        ap (λ (l : List Name). at_places l line.order.items) (sym (ap (λ (l : List Link). names name_of l) (take-append-drop k (linked links entries)) ∙ keys_linked links entries has))
        ∙ ap (λ (l : List Name). at_places l line.order.items) (map-append name_of (take k (linked links entries)) (drop k (linked links entries)))
        ∙ at_front (names name_of (take k (linked links entries))) (names name_of (drop k (linked links entries))) line.order.items
        (all_more line.order.items (length (take k (linked links entries))) (length (names name_of (take k (linked links entries)))) (omega (arith, length-map (take k (linked links entries)) name_of)) range)
        ∙ sym (at_map name_of (take k (linked links entries)) line.order.items) in
        let placed : new.order.items ≡ insert line.order.items (place_index y (at_places (keys_of entries) line.order.items)) (length (take k (linked links entries))) =
        order ∙ ap (λ n. insert line.order.items (place_index y (at_places (keys_of entries) line.order.items)) n) so.size in
        let long : length (take k (linked links entries) ++ y ∷ []) ≡ length (take k (linked links entries)) + 1 = length_push (take k (linked links entries)) y in
        subst (λ (l : List Link). IsLineup l new) (sym next) (record {
          order = order_more (take k (linked links entries)) y line.order.items new.order.items (at_places (keys_of entries) line.order.items)
              (first_take name_of prev_of k [] (linked links entries) first) (next_at name_of prev_of k [] (linked links entries) y first at) range so.order there
              (length_at (take k (linked links entries)) line.order.items range) placed;
          range = All-from_recursion (λ p. p < length (take k (linked links entries) ++ y ∷ [])) new.order.items
              (subst (λ (l : List ℕ). AllByRecursion (λ p. p < length (take k (linked links entries) ++ y ∷ [])) l) (sym placed)
              (all_insert (λ p. p < length (take k (linked links entries) ++ y ∷ [])) line.order.items (place_index y (at_places (keys_of entries) line.order.items)) (length (take k (linked links entries)))
              (all_more line.order.items (length (take k (linked links entries))) (length (take k (linked links entries) ++ y ∷ [])) (omega (arith, long)) range) (omega (arith, long))));
          size = ap (λ (l : List ℕ). length l) placed ∙ length_more line.order.items (place_index y (at_places (keys_of entries) line.order.items)) (length (take k (linked links entries))) ∙ omega (arith, so.size, long);
          heads = heads ∙ ap (λ (l : List Name). heads_with l y) so.heads ∙ sym (fold-append heads_with [] (take k (linked links entries)) (y ∷ []));
          few = let h = so.few in omega (arith, short, h, long);
        })
      where
        length_more : (xs : List ℕ) (i x : ℕ) → length (insert xs i x) ≡ suc (length xs)
        length_more xs zero x = refl
        length_more [] (suc i) x = refl
        length_more (z ∷ zs) (suc i) x = ap suc (length_more zs i x)

-- all have come
pub row_whole : (links : List Link) (entries : List (Name × ℕ)) (k : ℕ) (line : Lineup) → HasEntries links entries → length entries ≤ k → IsLineup (take k (linked links entries)) line → IsLineup (linked links entries) line
row_whole links entries k line has past so =
    subst (λ (l : List Link). IsLineup l line) (take_all k (linked links entries) (let h = length-linked links entries has in omega (arith, h, past))) so

take_short : {A : Type 0} (xs : List A) (k : ℕ) → length (take k xs) ≤ length xs
take_short xs zero = omega arith
take_short [] (suc k) = omega arith
take_short (x ∷ xs) (suc k) = let h = take_short xs k in omega (arith, h)

-- a row isn't longer than what has connected
pub row_within : (links : List Link) (entries : List (Name × ℕ)) (k n : ℕ) (line : Lineup) → HasEntries links entries → IsLineup (take k (linked links entries)) line → n ≡ length line.order.items → n ≤ length entries
row_within links entries k n line has so is =
    let size = so.size in
    let short = take_short (linked links entries) k in
    let long = length-linked links entries has in
    omega (arith, is, size, short, long)
