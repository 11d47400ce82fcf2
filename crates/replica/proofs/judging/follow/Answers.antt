use Rattle.replica.proofs.Pasts.{from_one}
use Rattle.replica.proofs.judging.follow.Goals as goal

pub returns : goal.returns
returns g c =
    from_one c.args.graph.now.links c.is_held.ensures.set c.args.position
    c.link_at.result.now c.args.last c.apply.new.state c.link_at.ensures c.requires.follows c.requires.last c.in_ok-apply.ensures.ok
