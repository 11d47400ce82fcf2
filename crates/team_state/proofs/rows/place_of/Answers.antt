use Rattle.std.proofs.Common.{rules}
use Rattle.std.proofs.lemmas.List.Sorted.{answers_always}
use Rattle.team_state.proofs.Placed.{found_is, searched-absent, searched-found, total_is}
use Rattle.team_state.proofs.rows.place_of.Goals as goal

pub returns-clause-found : goal.returns-clause-found
returns-clause-found g c =
    let laws = g.met.T.Row in
    let total = total_is g.T.Key.Ord.cmp g.T.Row.order laws.order_is g.met.T.Key.Ord.total in
    let facts = c.binary_search_by_key.ensures in
    let found = facts.position g.T.Row.key_of (answers_always _ _ _ (λ f a r h called. search rules)) in
    searched-found g.T.Row.order g.T.Row.same g.T.Row.key_of total laws.ties c.args.key.now c.args.rows.now c.binary_search_by_key.result c.requires facts.bound
    (found_is g.T.Key.Ord.cmp g.T.Row.order laws.order_is g.T.Row.key_of c.args.key.now c.args.rows.now c.binary_search_by_key.result found)

pub returns-clause-absent : goal.returns-clause-absent
returns-clause-absent g c =
    let laws = g.met.T.Row in
    let total = total_is g.T.Key.Ord.cmp g.T.Row.order laws.order_is g.met.T.Key.Ord.total in
    let facts = c.binary_search_by_key.ensures in
    let found = facts.position g.T.Row.key_of (answers_always _ _ _ (λ f a r h called. search rules)) in
    searched-absent g.T.Row.order g.T.Row.same g.T.Row.key_of total laws.ties c.args.key.now c.args.rows.now c.binary_search_by_key.result c.requires facts.bound
    (found_is g.T.Key.Ord.cmp g.T.Row.order laws.order_is g.T.Row.key_of c.args.key.now c.args.rows.now c.binary_search_by_key.result found)
