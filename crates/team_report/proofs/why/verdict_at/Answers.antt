use Rattle.std.proofs.Common.{◌∙◌}
use Rattle.team_report.proofs.Explains.{verdict_found}
use Rattle.team_report.proofs.why.verdict_at.Goals as goal

pub returns : goal.returns
returns c =
    verdict_found c.args.replica.now.links c.args.position c.index-as_slice-position.result c.as_slice.result.now (c.as_slice.ensures ∙ c.view.ensures.verdicts) c.index-as_slice-position.is
