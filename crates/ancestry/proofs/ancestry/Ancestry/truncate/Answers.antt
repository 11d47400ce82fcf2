use Rattle.std.proofs.Common.{◌∙◌, ap, take}
use Rattle.ancestry.specs.Rows.{parents_of}
use Rattle.ancestry.proofs.Rows.{parents-take, rows-less}
use Rattle.ancestry.proofs.ancestry.Ancestry.truncate.Goals as goal

pub invariant_of-self : goal.invariant_of-self
invariant_of-self c = rw c.truncate.ensures.items (rows-less c.self.inside.rows.items c.args.len c.self.invariant)

pub returns : goal.returns
returns c = ap parents_of c.truncate.ensures.items ∙ parents-take c.args.len c.self.inside.rows.items ∙ ap (λ g. take c.args.len g) c.self.view_is
