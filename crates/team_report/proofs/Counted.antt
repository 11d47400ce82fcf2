-- The verdicts by position count the links that count.
use Rattle.std.proofs.Common.{◌≡◌, Bool, true, false, suc, cond, List, [], ◌∷◌, refl, ◌∙◌, ap, length, map, filter}
use Rattle.team_sets.specs.OrderLaws.{IsSet}
use Rattle.team_sets.proofs.Ancestors.{order_first}
use Rattle.team_sets.proofs.Arrivals.{arrived_ordered, first_set}
use Rattle.team_sets.proofs.Distinct.{distinct-differ}
use Rattle.team_sets.proofs.OrderLeast.{in_filter, of_filter}
use Rattle.team_sets.proofs.SameSet.{set-filter, set-length}
use Rattle.team_model.specs.Counting.{is_counting}
use Rattle.team_model.specs.Judging.{name_of, order_of, prev_of, team_rules, verdict}
use Rattle.team_model.specs.ShowText.{count_counting}
use Rattle.team_model.specs.declared.terms.Link.{Link}
use Rattle.team_model.specs.declared.terms.Verdict.{Verdict}
use Rattle.link_graph.specs.Held.{arrived_of}

counted_map : {A B : Type 0} (p : B → Bool) (f : A → B) (xs : List A) → length (filter p (map f xs)) ≡ length (filter (λ x. p (f x)) xs)
counted_map p f [] = refl
counted_map p f (x ∷ xs) = go (p (f x)) (counted_map p f xs)
  where
    go : (b : Bool) → length (filter p (map f xs)) ≡ length (filter (λ y. p (f y)) xs)
        → length (cond b (f x ∷ filter p (map f xs)) (filter p (map f xs))) ≡ length (cond b (x ∷ filter (λ y. p (f y)) xs) (filter (λ y. p (f y)) xs))
    go true e = ap suc e
    go false e = e

pub counted : (links : List Link) (verdicts : List Verdict) → IsSet name_of links → verdicts ≡ map (verdict team_rules links) (arrived_of links)
    → length (filter is_counting verdicts) ≡ count_counting links
counted links verdicts set_of is =
    let ordered = arrived_ordered name_of prev_of links set_of in
    ap (λ l. length (filter is_counting l)) is ∙ counted_map is_counting (verdict team_rules links) (arrived_of links)
    ∙ set-length name_of (filter counts (arrived_of links)) (filter counts (order_of links)) (set-filter name_of counts (arrived_of links) ordered.set)
    (set-filter name_of counts (order_of links) (first_set name_of prev_of [] (order_of links) (order_first name_of prev_of links (distinct-differ name_of links set_of))))
    (record {
      forth = λ x k. let of = of_filter counts x (arrived_of links) k in in_filter counts x (order_of links) (ordered.members.forth x of.0) of.1;
      back = λ x k. let of = of_filter counts x (order_of links) k in in_filter counts x (arrived_of links) (ordered.members.back x of.0) of.1;
    })
  where
    counts : Link → Bool
    counts x = is_counting (verdict team_rules links x)
