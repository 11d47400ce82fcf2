use Rattle.ancestry.proofs.Marks.{marks-within}
use Rattle.ancestry.proofs.row.mark_with_pasts.Goals as goal

pub mark-requires-in-loop-position : goal.mark-requires-in-loop-position
mark-requires-in-loop-position c = marks-within c.args.rows.now c.past_at.result.now c.loop-position.marks.items _ c.past_at.ensures c.loop-position.invariant.size
