use Rattle.key_reach.proofs.Marks.{members-below}
use Rattle.key_reach.proofs.numbers.NumberSet.as_slice.Goals as goal

pub returns-clause-within : goal.returns-clause-within
returns-clause-within c = rw (c.as_slice.ensures.value, ← c.self.view_is) (members-below c.self.inside.marks.items c.self.inside.members.items c.self.invariant)
