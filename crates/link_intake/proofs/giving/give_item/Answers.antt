use Rattle.std.proofs.Common.{refl}
use Rattle.team_files.specs.declared.item.Item.TheVariants as item
use Rattle.link_intake.specs.declared.item_result.ItemResult.TheVariants.{Header, Refused}
use Rattle.link_intake.specs.declared.item_result.Refusal.TheVariants.{BadFrame, Cut, Long}
use Rattle.link_intake.proofs.Givings.{gives_one, gives_part, keeps_part}
use Rattle.link_intake.proofs.giving.give_item.Goals as goal

pub returns-in-Header-clause-given : goal.returns-in-Header-clause-given
returns-in-Header-clause-given c = gives_one c.push.result _ _ _ item.Header _ _ Header c.in-Header.is (refl, refl) c.push.ensures.ok

pub returns-in-Header-clause-part : goal.returns-in-Header-clause-part
returns-in-Header-clause-part c = gives_part c.push.result _ _ _ item.Header Header c.in-Header.is (refl, refl)

pub returns-in_ok-take_text-in-Text-clause-given : goal.returns-in_ok-take_text-in-Text-clause-given
returns-in_ok-take_text-in-Text-clause-given c =
    let took = c.in_ok-take_text-in-Text in
    gives_one c.push-in-Text.result _ _ _ (item.Text c.in-Text.bytes) _ _ took.field-0 c.in-Text.is (rw c.as_slice.ensures at took.ensures.becomes) c.push-in-Text.ensures.ok

pub returns-in_ok-take_text-in-Text-clause-part : goal.returns-in_ok-take_text-in-Text-clause-part
returns-in_ok-take_text-in-Text-clause-part c =
    let took = c.in_ok-take_text-in-Text in
    gives_part c.push-in-Text.result _ _ _ (item.Text c.in-Text.bytes) took.field-0 c.in-Text.is (rw c.as_slice.ensures at took.ensures.becomes)

pub returns-in_err-take_text-in-Text-clause-part : goal.returns-in_err-take_text-in-Text-clause-part
returns-in_err-take_text-in-Text-clause-part c = keeps_part c.from_residual.result _ _ _ c.in_err-take_text-in-Text.ensures.same

pub returns-in-Cut-clause-given : goal.returns-in-Cut-clause-given
returns-in-Cut-clause-given c = gives_one c.push-in-Cut.result _ _ _ item.Cut _ _ (Refused Cut) c.in-Cut.is (refl, refl) c.push-in-Cut.ensures.ok

pub returns-in-Cut-clause-part : goal.returns-in-Cut-clause-part
returns-in-Cut-clause-part c = gives_part c.push-in-Cut.result _ _ _ item.Cut (Refused Cut) c.in-Cut.is (refl, refl)

pub returns-in-BadFrame-clause-given : goal.returns-in-BadFrame-clause-given
returns-in-BadFrame-clause-given c = gives_one c.push-in-BadFrame.result _ _ _ item.BadFrame _ _ (Refused BadFrame) c.in-BadFrame.is (refl, refl) c.push-in-BadFrame.ensures.ok

pub returns-in-BadFrame-clause-part : goal.returns-in-BadFrame-clause-part
returns-in-BadFrame-clause-part c = gives_part c.push-in-BadFrame.result _ _ _ item.BadFrame (Refused BadFrame) c.in-BadFrame.is (refl, refl)

pub returns-in-Long-clause-given : goal.returns-in-Long-clause-given
returns-in-Long-clause-given c = gives_one c.push-in-Long.result _ _ _ item.Long _ _ (Refused Long) c.in-Long.is (refl, refl) c.push-in-Long.ensures.ok

pub returns-in-Long-clause-part : goal.returns-in-Long-clause-part
returns-in-Long-clause-part c = gives_part c.push-in-Long.result _ _ _ item.Long (Refused Long) c.in-Long.is (refl, refl)
