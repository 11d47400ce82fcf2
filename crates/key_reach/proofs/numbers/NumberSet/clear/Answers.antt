use Rattle.key_reach.proofs.Marks.{members-below, marked-cleared}
use Rattle.key_reach.proofs.numbers.NumberSet.clear.Goals as goal

pub unmark-requires : goal.unmark-requires
unmark-requires c = rw c.as_slice.ensures.value (members-below c.self.inside.marks.items c.self.inside.members.items c.self.invariant)

pub invariant_of-self : goal.invariant_of-self
invariant_of-self c =
    let each = rw c.as_slice.ensures.value at c.unmark.ensures.marks in
    rw c.clear.ensures.items (marked-cleared c.unmark.new.marks.items c.self.inside.marks.items c.self.inside.members.items c.self.invariant each)
