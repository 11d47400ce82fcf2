use Rattle.std.proofs.Common.{◌∙◌, sym, ap}
use Rattle.std.specs.Result.{is_ok}
use Rattle.std.proofs.lemmas.Bool.{false≢true}
use Rattle.key_reach.proofs.Searched.{searched_is}
use Rattle.key_reach.proofs.lists.place.Goals as goal

pub returns-in-Err : goal.returns-in-Err
returns-in-Err g c =
    λ h. absurd (false≢true (ap is_ok (sym c.in-Err.is)
    ∙ searched_is g.T.Ord.cmp g.met.T.Ord.total c.args.list.now c.args.value.now c.binary_search.result c.requires.ascends c.binary_search.ensures.bound c.binary_search.ensures.position ∙ h))
