use Rattle.ancestry.proofs.Rows.{rows-add}
use Rattle.ancestry.proofs.ancestry.Ancestry.add.Goals as goal

pub invariant_of-self-2 : goal.invariant_of-self-2
invariant_of-self-2 c =
    rw c.in_ok-push.ensures.items
    (rows-add c.self.inside.rows.items c.args.self.now c.in_ok-row.row c.args.parents.now c.self.invariant c.self.view_is c.requires.few c.requires.given c.in_ok-row.ensures.parents c.in_ok-row.ensures.past
    c.in_ok-row.ensures.height c.in_ok-row.ensures.low)
