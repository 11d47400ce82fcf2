use Rattle.std.proofs.Common.{◌≡◌, ◌∙◌, Some, None, sym, ap}
use Rattle.lms_ots.specs.Kinds.{ots_kind}
use Rattle.tg_text.specs.Spelling.{number_at}
use Rattle.lms_tree.specs.LmsKinds.{lms_kind}
use Rattle.lms_tree.proofs.Conditions.{wrong_key, no_lms, no_ots, kinds_lead}
use Rattle.lms_tree.proofs.verifying.verify.Goals as goal

pub returns-then-public-ne56 : goal.returns-then-public-ne56
returns-then-public-ne56 c = sym (wrong_key c.args.public.now c.args.message.now c.args.signature.now c.if-public-ne56.true)

pub returns-in_default : goal.returns-in_default
returns-in_default c =
    let none : lms_kind (number_at 0 c.args.public.now) ≡ None = ap lms_kind (sym c.number_at.ensures) ∙ sym c.of.ensures ∙ c.in_default.is in
    sym (no_lms c.args.public.now c.args.message.now c.args.signature.now none)

pub returns-in_default-of : goal.returns-in_default-of
returns-in_default-of c =
    let lms : lms_kind (number_at 0 c.args.public.now) ≡ Some c.in-Some.lms = ap lms_kind (sym c.number_at.ensures) ∙ sym c.of.ensures ∙ c.in-Some.is in
    let none : ots_kind (number_at 4 c.args.public.now) ≡ None = ap ots_kind (sym c.number_at-2.ensures) ∙ sym c.of-2.ensures ∙ c.in_default-of.is in
    sym (no_ots c.args.public.now c.args.message.now c.args.signature.now c.in-Some.lms lms none)

pub returns : goal.returns
returns c =
    let lms : lms_kind (number_at 0 c.args.public.now) ≡ Some c.in-Some.lms = ap lms_kind (sym c.number_at.ensures) ∙ sym c.of.ensures ∙ c.in-Some.is in
    let ots : ots_kind (number_at 4 c.args.public.now) ≡ Some c.in-Some-of.ots = ap ots_kind (sym c.number_at-2.ensures) ∙ sym c.of-2.ensures ∙ c.in-Some-of.is in
    c.leads_to.ensures
    ∙ sym (kinds_lead c.args.public.now c.args.message.now c.args.signature.now c.in-Some.lms c.in-Some-of.ots c.if-public-ne56.false lms ots)
