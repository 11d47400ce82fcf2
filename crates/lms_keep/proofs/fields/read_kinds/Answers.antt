use Rattle.lms_keep.proofs.KindLaws.{no_lms, no_ots, both_kinds}
use Rattle.lms_keep.proofs.fields.read_kinds.Goals as goal

pub returns-in_err-lms-2 : goal.returns-in_err-lms-2
returns-in_err-lms-2 c = rw c.from_residual-in_err-lms-2.ensures (no_lms c.args.text.now c.in_ok-lms.lms.now c.in_ok-lms.ots.now c.read_within.result
    c.in_ok-lms.ensures.some.0 c.in_ok-lms.ensures.some.1 c.read_within.ensures c.in_err-lms-2.was)

pub returns-in_err-ots : goal.returns-in_err-ots
returns-in_err-ots c = rw c.from_residual-in_err-ots.ensures (no_ots c.args.text.now c.in_ok-lms.lms.now c.in_ok-lms.ots.now c.read_within-2.result
    c.in_ok-lms.ensures.some.0 c.in_ok-lms.ensures.some.1 c.read_within-2.ensures c.in_err-ots.was)

pub returns : goal.returns
returns c = both_kinds c.args.text.now c.in_ok-lms.lms.now c.in_ok-lms.ots.now c.in_ok-lms-2.lms c.in_ok-ots.ots
    c.in_ok-lms.ensures.some.0 c.in_ok-lms.ensures.some.1 c.in_ok-lms-2.ensures c.in_ok-ots.ensures
