use Rattle.std.proofs.Common.{◌∙◌, sym, ap}
use Rattle.std.specs.List.{dedup, list_any}
use Rattle.std.specs.Ordering.{eq_by_cmp}
use Rattle.std.proofs.lemmas.List.Filters.{dedup_is}
use Rattle.std.proofs.lemmas.List.Kept.{IsStrictlySortedBy-dedup}
use Rattle.std.proofs.lemmas.List.Sorted.{list_any-IsPermutation}
use Rattle.key_reach.proofs.Searched.{any_dedup, any_ties}
use Rattle.lockboxes.proofs.opening.ordered.Goals as goal

pub returns : goal.returns
returns g c =
    let cmp = g.T.Ord.cmp in
    let same = g.T.PartialEq.eq in
    let ties = g.met.T.Ord.matches_eq in
    let is = dedup_is _ _ _ c.dedup.ensures.filtered in
    let sorted = c.in_ok-sort.ensures.sorted in
    record {
      ascends = rw is (IsStrictlySortedBy-dedup g.met.T.Ord.total ties _ sorted);
      exact = λ x.
          rw is (sym (any_ties cmp g.met.T.Ord.total same ties (dedup same c.sort.new.self.items) x)
          ∙ any_dedup same g.met.T.Eq.laws c.sort.new.self.items x
          ∙ any_ties cmp g.met.T.Ord.total same ties c.sort.new.self.items x
          ∙ sym (list_any-IsPermutation (eq_by_cmp cmp x) _ _ c.in_ok-sort.ensures.permutation)
          ∙ ap (λ l. list_any (eq_by_cmp cmp x) l) c.in_ok-list.ensures.items);
    }
