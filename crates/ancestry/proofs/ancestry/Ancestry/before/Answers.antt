use Rattle.std.proofs.Common.{◌∙◌}
use Rattle.ancestry.specs.Rows.{parents_of}
use Rattle.ancestry.proofs.Rows.{before-of}
use Rattle.ancestry.proofs.Searched.{past-sorted}
use Rattle.ancestry.proofs.ancestry.Ancestry.before.Goals as goal

pub is_among-requires : goal.is_among-requires
is_among-requires c = rw c.past_at.ensures (past-sorted (parents_of c.deref.result.now) c.args.b)

pub returns : goal.returns
returns c =
    c.is_among.ensures
    ∙ before-of c.deref.result.now c.self.inside.rows.items c.args.self.now c.past_at.result.now c.args.a c.args.b c.deref.ensures.value c.self.view_is c.past_at.ensures c.requires.given_a
