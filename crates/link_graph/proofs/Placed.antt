-- A link is connected where its name has a position.
use Rattle.std.proofs.Common.{◌≡◌, ◌∙◌, ℕ, false, List, Option, Some, None, is_some, sym, position}
use Rattle.std.specs.Cmp.Lexicographic.{bytes_decides}
use Rattle.std.proofs.lemmas.Bool.{false≢true}
use Rattle.team_sets.specs.Names.{Name, has_name, same_name}
use Rattle.team_sets.specs.Order.{names}
use Rattle.team_sets.specs.OrderLaws.{IsSet}
use Rattle.team_sets.proofs.Agree.{same_answer}
use Rattle.team_sets.proofs.Ancestors.{in_at}
use Rattle.team_sets.proofs.Parts.{has_of_in, name_in}
use Rattle.team_sets.proofs.Pasts.{one_named}
use Rattle.team_model.specs.Judging.{name_of, order_of, prev_of}
use Rattle.team_model.specs.declared.terms.Link.{Link}
use Rattle.link_graph.specs.Below.{is_connected}
use Rattle.link_graph.specs.Held.{arrived_of}
use Rattle.link_graph.proofs.Arrived.{index_in, ordered}
use Rattle.link_graph.proofs.Marks.{named_at, not_there}
use Rattle.link_graph.proofs.Names.{place_named}

-- one of the links has the name where there is a position of it
position_has : (xs : List Link) (n : Name) (o : Option ℕ) → position (same_name n) (names name_of xs) ≡ o → is_some o ≡ has_name (names name_of xs) n
position_has xs n None e = same_answer false (has_name (names name_of xs) n) (λ h. absurd (false≢true h))
    (λ h. let x = one_named name_of xs n h in let i = index_in xs x.0 x.1 in
    sym (not_there (same_name n) (names name_of xs) i.0 (x.0).name e (named_at xs i.0 x.0 i.1)) ∙ (bytes_decides n (x.0).name).1 (sym x.2))
position_has xs n (Some i) e = sym (has_of_in name_of prev_of (names name_of xs) n (in_at (names name_of xs) i n (place_named n (names name_of xs) i e)))

module _ (links : List Link) (set_of : IsSet name_of links) where
  order_has : (n : Name) → has_name (names name_of (arrived_of links)) n ≡ is_connected links n
  order_has n = same_answer (has_name (names name_of (arrived_of links)) n) (is_connected links n)
      (λ h. let x = one_named name_of (arrived_of links) n h in name_in name_of prev_of (order_of links) x.0 ((ordered links set_of).members.forth x.0 x.1) n x.2)
      (λ h. let x = one_named name_of (order_of links) n h in name_in name_of prev_of (arrived_of links) x.0 ((ordered links set_of).members.back x.0 x.1) n x.2)

  -- a link of this name is connected where the name has a position
  pub connected_at : (n : Name) (o : Option ℕ) → position (same_name n) (names name_of (arrived_of links)) ≡ o → is_some o ≡ is_connected links n
  connected_at n o e = position_has (arrived_of links) n o e ∙ order_has n
