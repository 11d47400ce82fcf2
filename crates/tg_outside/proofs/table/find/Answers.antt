use Rattle.std.proofs.Common.{◌∙◌, sym}
use Rattle.tg_outside.proofs.Lists.{newest-drop}
use Rattle.tg_outside.proofs.table.find.Goals as goal

pub returns-then-eq : goal.returns-then-eq
returns-then-eq c =
    let step = newest-drop c.args.name.now c.args.entries.now c.loop-entry.entry-index c.entry-item.result c.loop-entry-test.true c.entry-item.is in
    sym (rw (← c.as_slice.ensures, ← c.eq.ensures, c.if-eq.true) at step) ∙ c.loop-entry.invariant

pub loop-entry-preserved : goal.loop-entry-preserved
loop-entry-preserved c =
    let step = newest-drop c.args.name.now c.args.entries.now c.loop-entry.entry-index c.entry-item.result c.loop-entry-test.true c.entry-item.is in
    sym (rw (← c.as_slice.ensures, ← c.eq.ensures, c.if-eq.false) at step) ∙ c.loop-entry.invariant
