use Rattle.std.proofs.Common.{◌∙◌, sym}
use Rattle.key_reach.proofs.Marks.{marked-more}
use Rattle.key_reach.proofs.numbers.NumberSet.add.Goals as goal

pub invariant_of-self-2 : goal.invariant_of-self-2
invariant_of-self-2 c =
    let within = rw (← c.self.view_is) at c.requires in
    let told = rw (← c.self.view_is) at c.contains.ensures in
    rw c.in_ok-push.ensures.items (marked-more c.self.inside.marks.items c.self.inside.members.items c.args.number c.self.invariant within (sym told ∙ c.if-contains.false))
