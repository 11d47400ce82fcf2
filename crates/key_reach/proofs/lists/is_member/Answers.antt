use Rattle.std.proofs.Common.{◌∙◌}
use Rattle.key_reach.proofs.Searched.{searched_is}
use Rattle.key_reach.proofs.lists.is_member.Goals as goal

pub returns : goal.returns
returns g c =
    c.is_ok.ensures.value ∙ searched_is g.T.Ord.cmp g.met.T.Ord.total c.args.list.now c.args.value.now c.binary_search.result c.requires c.binary_search.ensures.bound c.binary_search.ensures.position
