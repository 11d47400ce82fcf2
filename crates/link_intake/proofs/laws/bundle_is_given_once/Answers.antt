use Rattle.std.proofs.Common.{List, subst}
use Rattle.team_files.specs.declared.item.Item.{Item}
use Rattle.link_intake.specs.Giving.{IsGiven}
use Rattle.link_intake.proofs.laws.bundle_is_given_once.Goals as goal

pub returns : goal.returns
returns c = λ old new other bundle results others held h k.
    let one = c.bundle_is_read_once.ensures.once bundle h.items k.items h.is_bundle k.is_bundle in
    c.items_are_given_once.ensures old new other k.items results others held (subst (λ (l : List Item). IsGiven old l new results) one h.given) k.given
