use Rattle.std.proofs.Common.{◌≡◌, ◌∙◌, sym, subst}
use Rattle.link_graph.specs.Held.{Held}
use Rattle.link_graph.specs.Taking.{HasText}
use Rattle.link_graph.specs.declared.take_fault.TakeFault.TheVariants.{Memory}
use Rattle.link_graph.proofs.Answering.{failed}
use Rattle.replica.specs.Kept.{IsKept}
use Rattle.replica.proofs.Taken.{lacks_memory, let_go, not_again, not_held, not_long}
use Rattle.replica.proofs.replica.Replica.insert.Goals as goal

pub invariant_of-self-in_err-self-inside : goal.invariant_of-self-in_err-self-inside
invariant_of-self-in_err-self-inside g c =
    let other = not_again c.in_ok-took.took c.was_held.result c.was_held.ensures c.if-was_held.false in
    let gone = let_go c.self.inside.graph c.take.new.self c.args.bytes.now c.in_ok-took.took other c.in_ok-took.ensures.taken in
    subst (λ (h : Held). IsKept h.links c.self.inside.kept) (sym (c.in_err-self-inside.ensures.err ∙ gone)) c.self.invariant

pub returns-in_err-self-inside : goal.returns-in_err-self-inside
returns-in_err-self-inside g c =
    let other = not_again c.in_ok-took.took c.was_held.result c.was_held.ensures c.if-was_held.false in
    let gone = let_go c.self.inside.graph c.take.new.self c.args.bytes.now c.in_ok-took.took other c.in_ok-took.ensures.taken in
    let same : c.look_again.new.graph ≡ c.args.self.now = c.in_err-self-inside.ensures.err ∙ gone ∙ c.self.view_is in
    rw (failed c.from_residual-in_err-self-inside.result Memory c.from_residual-in_err-self-inside.ensures.1)
    (lacks_memory c.args.self.now c.look_again.new.graph c.args.bytes.now
    (λ has. not_held c.self.inside.graph c.take.new.self c.args.bytes.now c.in_ok-took.took other c.in_ok-took.ensures.again
    (subst (λ (h : Held). HasText h.links c.args.bytes.now) (sym c.self.view_is) has))
    (not_long c.self.inside.graph c.take.new.self c.args.bytes.now c.in_ok-took.took c.in_ok-took.ensures)
    same)
