use Rattle.std.proofs.Common.{◌≡◌, ◌∙◌, ℕ, true, List, [], ◌∷◌, Some, refl, sym, subst, position}
use Rattle.std.proofs.lemmas.Bool.{and_from}
use Rattle.team_sets.specs.Names.{Name, same_name, has_name}
use Rattle.team_sets.specs.Order.{names}
use Rattle.team_sets.specs.OrderLaws.{IsSet}
use Rattle.team_sets.proofs.Ancestors.{in_at}
use Rattle.team_sets.proofs.Parts.{name_in}
use Rattle.team_model.specs.Judging.{name_of, prev_of, order_of}
use Rattle.team_model.specs.declared.terms.Link.{Link}
use Rattle.link_graph.proofs.Names.{place_named}
use Rattle.replica.specs.Below.{AreConnected}
use Rattle.link_graph.proofs.Arrived.{to_order}
use Rattle.link_graph.proofs.Marks.{link_named}
use Rattle.link_graph.specs.Held.{Held, arrived_of}
use Rattle.team_cases.proofs.past_rows.team_of.Goals as goal

-- A link that has a position is connected.
one_connected : (links : List Link) → IsSet name_of links → (n : Name) (p : ℕ) → position (same_name n) (names name_of (arrived_of links)) ≡ Some p → AreConnected links (n ∷ [])
one_connected links set n p found =
    let x = link_named (arrived_of links) p n (place_named n (names name_of (arrived_of links)) p found) in
    and_from (has_name (names name_of (order_of links)) n) true
    (name_in name_of prev_of (order_of links) x.0 (to_order links set x.0 (in_at (arrived_of links) p x.0 x.1)) n x.2) refl

pub team_of-requires : goal.team_of-requires
team_of-requires c = record {
  connected = subst (λ (held : Held). AreConnected held.links (c.args.name.now ∷ [])) c.graph-graph.ensures
      (one_connected c.graph-graph.result.now.links c.is_held.ensures.set c.args.name.now _ (sym c.position.ensures ∙ c.in-Some.is));
}
