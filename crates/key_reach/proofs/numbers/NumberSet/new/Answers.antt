use Rattle.key_reach.proofs.Marks.{marked-none}
use Rattle.key_reach.proofs.numbers.NumberSet.new.Goals as goal

pub invariant_of-result : goal.invariant_of-result
invariant_of-result c = rw (c.in_ok-vec.ensures.items_if_clones_equal, c.new.ensures.items) (marked-none c.args.size)
