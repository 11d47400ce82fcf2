use Rattle.std.proofs.Common.{◌∙◌, ◌++◌, [], ◌∷◌, Bool, cond, ap}
use Rattle.key_reach.proofs.Searched.{any_ties}
use Rattle.team_report.proofs.keys.add.Goals as goal

pub returns : goal.returns
returns g c =
    let xs = c.args.values.now.keys in
    c.in_ok-insert.ensures.keys ∙ ap (λ (b : Bool). cond b xs (xs ++ c.args.value ∷ [])) (any_ties g.T.Ord.cmp g.met.T.Ord.total g.T.PartialEq.eq g.met.T.Ord.matches_eq xs c.args.value)
