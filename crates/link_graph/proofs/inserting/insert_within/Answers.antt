use Rattle.std.proofs.Common.{refl}
use Rattle.link_graph.proofs.inserting.insert_within.Goals as goal

pub returns-clause-items : goal.returns-clause-items
returns-clause-items g c = rw (c.insert.ensures.items, c.insert.ensures.succeeds c.requires.room) refl

pub returns-clause-len : goal.returns-clause-len
returns-clause-len g c = rw (c.insert.ensures.len, c.insert.ensures.succeeds c.requires.room) refl
