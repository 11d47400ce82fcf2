use Rattle.std.proofs.Common.{sym, ◌∙◌}
use Rattle.link_text.proofs.Proved.{not_unproved, one_verdict}
use Rattle.link_text.proofs.proving.read_link.Goals as goal

pub returns-then-branch-clause-bad_signature : goal.returns-then-branch-clause-bad_signature
returns-then-branch-clause-bad_signature c = record {
  only = λ e. absurd (cc);
  comes = λ u. absurd (not_unproved c.args.bytes.now c.in_ok-link.link c.in_ok-link.ensures.found (sym c.in_ok-proves.ensures ∙ c.if-branch.true) u);
}

pub returns-else-branch-clause-only : goal.returns-else-branch-clause-only
returns-else-branch-clause-only c = λ l is.
    absurd (one_verdict c.args.bytes.now l c.in_ok-link.link is.reads c.in_ok-link.ensures.found is.proved (sym c.in_ok-proves.ensures ∙ c.if-branch.false))
