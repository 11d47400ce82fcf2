use Rattle.std.proofs.Common.{subst, List}
use Rattle.team_model.specs.declared.terms.Link.{Link}
use Rattle.team_files.specs.Frames.{MayFollow}
use Rattle.team_files.proofs.Joining.{next_fresh, next_space}
use Rattle.team_files.proofs.holding.hold_next.Goals as goal

pub hold-requires-clause-fresh : goal.hold-requires-clause-fresh
hold-requires-clause-fresh c =
    let may = subst (λ (ls : List Link). MayFollow ls c.args.link) c.links.ensures (c.may_follow.ensures.0 c.if-not-may_follow.false) in
    next_fresh c.args.graph.now.team c.args.graph.now.links c.args.link c.args.bytes.now c.requires.order c.requires.valid may

pub hold-requires-clause-space : goal.hold-requires-clause-space
hold-requires-clause-space c =
    let may = subst (λ (ls : List Link). MayFollow ls c.args.link) c.links.ensures (c.may_follow.ensures.0 c.if-not-may_follow.false) in
    next_space c.args.graph.now.team c.args.graph.now.links c.args.link c.args.bytes.now c.requires.order c.requires.valid may c.requires.short
