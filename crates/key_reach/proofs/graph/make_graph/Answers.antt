use Rattle.std.proofs.Common.{◌<◌, ℕ, length, rules}
use Rattle.std.proofs.lemmas.List.Sorted.{IsNonDecreasingBy-from_sort_by_key, All-permutation}
use Rattle.key_reach.proofs.Ends.{all-ends-there, names-kept}
use Rattle.key_reach.proofs.graph.make_graph.Goals as goal

pub number_arrows-requires-clause-ends : goal.number_arrows-requires-clause-ends
number_arrows-requires-clause-ends g c =
    let list = rw (c.as_slice.ensures.value, c.in_ok-ends.ensures) at c.in_ok-nodes.ensures in
    rw c.as_slice-2.ensures.value (all-ends-there g.T.Ord.cmp g.met.T.Ord.total c.args.more.now c.args.arrows.now c.in_ok-nodes.nodes.items list)

pub returns-clause-graph : goal.returns-clause-graph
returns-clause-graph g c =
    let nodes = c.as_slice-2.ensures.value in
    let inside = rw nodes at c.in_ok-numbers.ensures.within in
    let named = rw nodes at c.in_ok-numbers.ensures.named in
    let moved = c.sort_by_key.ensures.permutation in
    record {
      ascends = c.in_ok-nodes.ensures.ascends;
      rises = IsNonDecreasingBy-from_sort_by_key (λ (a : ℕ × ℕ). a.0) c.sort_by_key.new.self.items c.in_ok-sort_by_key.ensures.sorted (λ a r q k. search rules);
      within = All-permutation (λ (a : ℕ × ℕ). (a.0 < length c.in_ok-nodes.nodes.items) × (a.1 < length c.in_ok-nodes.nodes.items)) c.in_ok-numbers.numbers.items c.sort_by_key.new.self.items moved inside;
      named = names-kept c.in_ok-nodes.nodes.items c.args.arrows.now c.in_ok-numbers.numbers.items c.sort_by_key.new.self.items named moved;
    }
