use Rattle.std.proofs.Common.{◌<◌, ℕ, length}
use Rattle.std.proofs.lemmas.List.Elements.{All-push}
use Rattle.key_reach.specs.Graphs.{found_arrows}
use Rattle.key_reach.proofs.Ends.{named-next}
use Rattle.key_reach.proofs.graph.number_arrows.Goals as goal

pub loop-arrow-preserved : goal.loop-arrow-preserved
loop-arrow-preserved g c = record {
  within = rw c.in_ok-push.ensures.items (All-push (λ (a : ℕ × ℕ). (a.0 < length c.args.nodes.now) × (a.1 < length c.args.nodes.now)) c.loop-arrow.numbers.items c.number_arrow.result c.loop-arrow.invariant.within c.number_arrow.ensures.within);
  named = named-next c.args.nodes.now c.args.arrows.now c.loop-arrow.numbers.items c.push.new.self.items c.loop-arrow.arrow-index c.arrow-item.result c.number_arrow.result (found_arrows c.args.arrows.now)
      c.loop-arrow-test.true c.arrow-item.is c.in_ok-push.ensures.items c.number_arrow.ensures.tail c.number_arrow.ensures.head c.loop-arrow.invariant.named;
}
