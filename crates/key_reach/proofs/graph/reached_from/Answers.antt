use Rattle.std.proofs.Common.{◌∙◌, ap, length}
use Rattle.std.proofs.lemmas.Result.{IfOk-weaker}
use Rattle.key_reach.specs.Numbers.{Numbers}
use Rattle.key_reach.proofs.Numbered.{reached-list, places-within}
use Rattle.key_reach.proofs.graph.reached_from.Goals as goal

pub nodes_at-requires : goal.nodes_at-requires
nodes_at-requires g c =
    let size = ap (λ (s : Numbers). s.size) c.clear.ensures ∙ c.requires.size in
    let within = rw (c.walk.ensures.size, c.add_all.ensures.size, size) at c.as_slice-4.ensures.within in
    rw (c.as_slice-5.ensures.value, c.as_slice-6.ensures.value) (places-within (length c.args.graph.now.nodes.items) c.as_slice-4.result.now c.in_ok-places.places.items within c.in_ok-places.ensures)

pub returns-clause-reached : goal.returns-clause-reached
returns-clause-reached g c =
    let named = rw c.as_slice.ensures.value at c.in_ok-starts.ensures.named in
    let none = ap (λ (s : Numbers). s.members) c.clear.ensures in
    let added = rw (none, c.as_slice-2.ensures.value) at c.in_ok-add_all.ensures.added in
    let walked = rw (c.as_slice-3.ensures.value, added, ← c.as_slice-4.ensures.members) at c.in_ok-walk.ensures.reached in
    let at = rw (c.as_slice-5.ensures.value, c.as_slice-6.ensures.value) at c.nodes_at.ensures in
    IfOk-weaker c.nodes_at.result _ _ (λ list h. λ arrows is. reached-list g.T.Ord.cmp g.met.T.Ord.total c.requires.tells arrows c.args.graph.now.nodes.items c.args.graph.now.arrows.items is
    c.in_ok-starts.starts.items c.args.from.now named c.as_slice-4.result.now walked c.in_ok-places.places.items c.in_ok-places.ensures list.items h) at
