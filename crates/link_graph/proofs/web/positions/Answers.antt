use Rattle.std.proofs.Common.{Ok, refl, ◌∙◌}
use Rattle.std.specs.declared.alloc.AllocError.{AllocError}
use Rattle.std.proofs.lemmas.Iterator.{items_from_collect, YieldsList-from_range}
use Rattle.link_graph.proofs.web.positions.Goals as goal

pub returns : goal.returns
returns c =
    c.from_vec.ensures ∙ items_from_collect {E = AllocError} (Ok c.in_ok-positions.positions) c.in_ok-positions.ensures.ran (YieldsList-from_range c.args.from c.args.to _ refl refl)
