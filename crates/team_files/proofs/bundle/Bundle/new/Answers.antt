use Rattle.std.proofs.Common.{sym, subst}
use Rattle.team_files.specs.Bundles.{IsFront}
use Rattle.team_files.proofs.ItemTexts.{empty_front}
use Rattle.team_files.proofs.bundle.Bundle.new.Goals as goal

pub invariant_of-result : goal.invariant_of-result
invariant_of-result c = λ going. subst IsFront (sym c.new.ensures) empty_front
