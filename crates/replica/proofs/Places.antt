-- Links by their names: the position of each.
use Rattle.std.proofs.Common.{◌≡◌, ℕ, List, Option, Some, None, position, slice_get, unwrap_or, refl, sym, ◌∙◌, ap}
use Rattle.std.specs.Cmp.Lexicographic.{nat_list_eq_equiv}
use Rattle.std.proofs.lemmas.Bool.{false≢true}
use Rattle.team_sets.specs.Names.{same_name}
use Rattle.team_sets.specs.Members.{IsIn}
use Rattle.team_sets.specs.Order.{names}
use Rattle.team_sets.specs.OrderLaws.{IsSet}
use Rattle.team_model.specs.Judging.{name_of}
use Rattle.team_model.specs.declared.terms.Link.{Link}
use Rattle.link_graph.specs.Held.{arrived_of}
use Rattle.link_graph.proofs.Names.{place_named}
use Rattle.replica.specs.Settling.{position_of}
use Rattle.link_graph.proofs.Arrived.{index_in, one_place, ordered}
use Rattle.link_graph.proofs.Marks.{link_named, named_at, not_there}

module _ (links : List Link) (set : IsSet name_of links) where
  pub position_at : (i : ℕ) (x : Link) → slice_get (arrived_of links) i ≡ Some x → position (same_name x.name) (names name_of (arrived_of links)) ≡ Some i
  position_at i x at = go (position (same_name x.name) (names name_of (arrived_of links))) refl
    where
      go : (o : Option ℕ) → position (same_name x.name) (names name_of (arrived_of links)) ≡ o → position (same_name x.name) (names name_of (arrived_of links)) ≡ Some i
      go None e =
          absurd (false≢true (sym (not_there (same_name x.name) (names name_of (arrived_of links)) i x.name e (named_at (arrived_of links) i x at)) ∙ nat_list_eq_equiv.refl x.name))
      go (Some p) e =
          let y = link_named (arrived_of links) p x.name (place_named x.name (names name_of (arrived_of links)) p e) in
          e ∙ ap (λ q. Some q) (one_place (arrived_of links) (ordered links set).set p i y.0 x y.1 at y.2)

  pub position_is : (i : ℕ) (x : Link) → slice_get (arrived_of links) i ≡ Some x → position_of links x.name ≡ i
  position_is i x at = ap (λ o. unwrap_or o 0) (position_at i x at)

  -- a connected link stands at its position
  pub link_there : (x : Link) → IsIn x (arrived_of links) → slice_get (arrived_of links) (position_of links x.name) ≡ Some x
  link_there x k = let at = index_in (arrived_of links) x k in ap (λ p. slice_get (arrived_of links) p) (position_is at.0 x at.1) ∙ at.1
