use Rattle.std.proofs.Common.{◌≤◌, length, arith}
use Rattle.link_graph.specs.Held.{arrived_of}
use Rattle.link_graph.proofs.Arrived.{ordered}
use Rattle.replica.proofs.Judgements.{judged_before, judged_few}
use Rattle.replica.proofs.Lasting.{found_before}
use Rattle.replica.proofs.replica.look_again.Goals as goal

pub look-requires : goal.look-requires
look-requires g c = found_before c.args.graph.now.links c.args.known.now c.requires.held c.is_held.ensures.set c.requires.known

pub overflow_cast-len : goal.overflow_cast-len
overflow_cast-len g c =
    let links = c.args.graph.now.links in
    let few : length c.args.known.now.reasons.items ≤ length (arrived_of links) =
    judged_few links c.args.known.now.reasons.items (judged_before links c.args.known.now.reasons.items c.requires.held c.is_held.ensures.set c.requires.known.reasons) in
    let within : length (arrived_of links) ≤ length links = (ordered links c.is_held.ensures.set).within in
    omega (arith, few, within, c.is_held.ensures.few)
