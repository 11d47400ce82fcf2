use Rattle.std.proofs.Common.{◌∙◌, sym}
use Rattle.team_report.proofs.Explains.{named_here, named_later}
use Rattle.team_report.proofs.why.link_named.Goals as goal

pub loop-link-preserved : goal.loop-link-preserved
loop-link-preserved c =
    named_later c.args.name.now c.args.links.now c.loop-link.link-index c.link-item.result c.loop-link-test.true c.link-item.is (sym c.has_name.ensures ∙ c.if-has_name.false) c.loop-link.invariant

pub returns-then-has_name : goal.returns-then-has_name
returns-then-has_name c =
    named_here c.args.name.now c.args.links.now c.loop-link.link-index c.link-item.result c.loop-link-test.true c.link-item.is (sym c.has_name.ensures ∙ c.if-has_name.true) c.loop-link.invariant
