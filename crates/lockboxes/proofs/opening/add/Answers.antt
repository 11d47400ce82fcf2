use Rattle.std.proofs.Common.{[], ◌∷◌, sym, subst}
use Rattle.lockboxes.specs.Indexes.{IsGrown}
use Rattle.lockboxes.proofs.Opens.{grown_one}
use Rattle.lockboxes.proofs.opening.add.Goals as goal

pub returns : goal.returns
returns g c = subst (λ l. IsGrown c.args.values.now.keys l (c.args.value ∷ [])) (sym c.in_ok-insert.ensures.keys) (grown_one g.T.PartialEq.eq c.requires c.args.values.now.keys c.args.value)
