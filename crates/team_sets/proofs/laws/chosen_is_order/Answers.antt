use Rattle.std.proofs.Common.{sym, subst, []}
use Rattle.team_sets.specs.Order.{order}
use Rattle.team_sets.specs.OrderLaws.{IsChosenInTurn}
use Rattle.team_sets.proofs.Parts.{in_turn, in_turn-unique}
use Rattle.team_sets.proofs.laws.chosen_is_order.Goals as goal

pub returns : goal.returns
returns g c name prev links list = (
  λ h. in_turn-unique name prev links [] list (order name prev links) h (in_turn name prev links),
  λ e. subst (λ l. IsChosenInTurn name prev links [] l) (sym e) (in_turn name prev links),
)
