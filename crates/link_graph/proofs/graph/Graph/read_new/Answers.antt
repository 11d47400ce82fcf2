use Rattle.std.proofs.Common.{ap, subst, Err}
use Rattle.team_sets.specs.Names.{Name}
use Rattle.link_text.specs.LinkText.{IsValid}
use Rattle.link_text.specs.TeamReading.{FindsOfTeam}
use Rattle.link_graph.specs.Faults.{fault_of}
use Rattle.link_graph.specs.Held.{Held}
use Rattle.link_graph.proofs.Answering.{failed, read_fault, room_fault}
use Rattle.link_graph.proofs.graph.Graph.read_new.Goals as goal

pub returns-in_err-link-clause-fault : goal.returns-in_err-link-clause-fault
returns-in_err-link-clause-fault c =
    let fault = c.in_err-link.field-0.0 in
    let finds = subst (λ (t : Name). FindsOfTeam t c.args.bytes.now (Err fault)) (ap (λ (h : Held). h.team) c.self.view_is) c.in_err-link.ensures in
    rw (failed c.from_residual.result (fault_of fault) c.from_residual.ensures.1) (read_fault c.args.self.now c.args.bytes.now fault c.requires.short finds)

pub returns-in_err-admit-clause-fault : goal.returns-in_err-admit-clause-fault
returns-in_err-admit-clause-fault c =
    let fault = c.in_err-admit.field-0.0 in
    let valid = subst (λ (t : Name). IsValid t c.args.bytes.now c.in_ok-link.link) (ap (λ (h : Held). h.team) c.self.view_is) c.in_ok-link.ensures.found in
    rw (failed c.from_residual-in_err-admit.result fault c.from_residual-in_err-admit.ensures.1)
    (room_fault c.args.self.now c.args.bytes.now c.in_ok-link.link fault valid c.requires.new c.in_err-admit.ensures.fault)
