use Rattle.std.proofs.Common.{◌∙◌}
use Rattle.ancestry.proofs.Searched.{searched-is}
use Rattle.ancestry.proofs.row.is_among.Goals as goal

pub returns : goal.returns
returns c = c.is_ok.ensures.value ∙ searched-is c.args.numbers.now c.args.number c.binary_search.result c.requires c.binary_search.ensures.position
