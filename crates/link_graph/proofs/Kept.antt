-- What two lists of marks pick of the order.
use Rattle.std.proofs.Common.{◌≡◌, ℕ, ◌<◌, Bool, false, not, ◌&&◌, List, Some, sym, ◌∙◌, ap, subst, length, map, filter, get_or, slice_get, All}
use Rattle.std.proofs.lemmas.List.Elements.{All-filter}
use Rattle.team_sets.specs.Names.{Name}
use Rattle.team_model.specs.Judging.{order_of}
use Rattle.team_model.specs.declared.terms.Link.{Link}
use Rattle.link_graph.specs.Below.{AreBelow, is_kept, is_within}
use Rattle.link_graph.specs.Held.{arrived_of}
use Rattle.link_graph.specs.Positions.{at_places}
use Rattle.link_graph.proofs.Marks.{map_at}
use Rattle.link_graph.proofs.Picks.{picked_filter}

module _ (links : List Link) (ns others : List Name) (wanted unwanted : List Bool) (wanted_are : wanted ≡ map (is_within links ns) (arrived_of links))
    (unwanted_are : unwanted ≡ map (is_within links others) (arrived_of links)) where
  kept_at : (p : ℕ) (x : Link) → slice_get (arrived_of links) p ≡ Some x → is_kept wanted unwanted p ≡ (is_within links ns x && not (is_within links others x))
  kept_at p x at =
      ap (λ b. b && not (get_or unwanted p false)) (ap (λ l. get_or l p false) wanted_are ∙ map_at (is_within links ns) (arrived_of links) p x false at)
      ∙ ap (λ b. is_within links ns x && not b) (ap (λ l. get_or l p false) unwanted_are ∙ map_at (is_within links others) (arrived_of links) p x false at)

  pub are_below : (order found : List ℕ) → at_places (arrived_of links) order ≡ order_of links → All (λ p. p < length (arrived_of links)) order → found ≡ filter (is_kept wanted unwanted) order
      → AreBelow links ns others found
  are_below order found is range all = record {
    given = subst (λ (l : List ℕ). All (λ p. p < length (arrived_of links)) l) (sym all) (All-filter (is_kept wanted unwanted) (λ p. p < length (arrived_of links)) order range);
    links_are =
        ap (λ (l : List ℕ). at_places (arrived_of links) l) all
        ∙ picked_filter (arrived_of links) (is_kept wanted unwanted) (λ x. is_within links ns x && not (is_within links others x)) order (λ i d x h at. kept_at (get_or order i d) x at)
        ∙ ap (λ (l : List Link). filter (λ x. is_within links ns x && not (is_within links others x)) l) is;
  }
