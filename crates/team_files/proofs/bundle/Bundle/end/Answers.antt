use Rattle.std.proofs.Common.{false, [], ◌∷◌, refl, subst}
use Rattle.team_files.specs.declared.item.Item.TheVariants.{Cut}
use Rattle.team_files.specs.Pieces.{IsComing, Pending}
use Rattle.team_files.proofs.ComingItems.{ends_cut}
use Rattle.team_files.proofs.Growing.{some_behind}
use Rattle.team_files.proofs.bundle.Bundle.end.Goals as goal

pub returns : goal.returns
returns c =
    let it = c.self.inside in
    let s : Pending = record { kept = it.kept; left = it.left; over = it.over } in
    subst (λ t. IsComing t [] (Cut ∷ [])) c.self.view_is
    (ends_cut s c.if-self.false (c.self.invariant c.if-self.false) (some_behind it.kept false c.if-is_empty.ensures refl))
