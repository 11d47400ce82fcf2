use Rattle.key_reach.proofs.Marks.{members-few}
use Rattle.key_reach.proofs.numbers.NumberSet.len.Goals as goal

pub returns-clause-within : goal.returns-clause-within
returns-clause-within c = rw (c.as_slice.ensures.value, ← c.self.view_is) (members-few c.self.inside.marks.items c.self.inside.members.items c.self.invariant)
