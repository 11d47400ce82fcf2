use Rattle.std.proofs.Common.{◌≡◌, ◌<◌, ◌∙◌, List, length, take, sym, ap, subst, arith}
use Rattle.std.proofs.lemmas.List.{take_all}
use Rattle.team_sets.specs.Names.{Name}
use Rattle.link_graph.specs.Heads.{heads_of}
use Rattle.replica.specs.Below.{AreConnected}
use Rattle.team_author.specs.Planning.{parents_of}
use Rattle.team_author.proofs.Heads.{heads_connected}
use Rattle.team_author.proofs.planning.first_heads.Goals as goal

pub returns-then-heads-lt-MOST_PARENTS-clause-parents : goal.returns-then-heads-lt-MOST_PARENTS-clause-parents
returns-then-heads-lt-MOST_PARENTS-clause-parents c =
    let links = c.args.graph.now.links in
    let few : length (heads_of links) < 64 = rw c.heads-heads.ensures at c.if-heads-lt-MOST_PARENTS.true in
    c.heads-heads.ensures ∙ sym (take_all 64 (heads_of links) (omega (arith, few)))

pub returns-then-heads-lt-MOST_PARENTS-clause-connected : goal.returns-then-heads-lt-MOST_PARENTS-clause-connected
returns-then-heads-lt-MOST_PARENTS-clause-connected c =
    let links = c.args.graph.now.links in
    let few : length (heads_of links) < 64 = rw c.heads-heads.ensures at c.if-heads-lt-MOST_PARENTS.true in
    let same : c.heads-heads.result.now ≡ parents_of links = c.heads-heads.ensures ∙ sym (take_all 64 (heads_of links) (omega (arith, few))) in
    subst (λ (ns : List Name). AreConnected links ns) (sym same) (heads_connected links 64)

pub returns-else-heads-lt-MOST_PARENTS-clause-connected : goal.returns-else-heads-lt-MOST_PARENTS-clause-connected
returns-else-heads-lt-MOST_PARENTS-clause-connected c =
    let links = c.args.graph.now.links in
    let same : c.split_at.result.0.now ≡ parents_of links = c.split_at.ensures.front ∙ ap (λ (ns : List Name). take 64 ns) c.heads-heads.ensures in
    subst (λ (ns : List Name). AreConnected links ns) (sym same) (heads_connected links 64)
