use Rattle.std.proofs.Common.{◌++◌, ℕ, flat_map, slice_get}
use Rattle.team_sets.specs.Names.{Name}
use Rattle.team_model.specs.declared.terms.Verdict.TheVariants.{Waiting}
use Rattle.link_graph.specs.Positions.{linked}
use Rattle.team_report.specs.LogText.{judged_line}
use Rattle.team_report.proofs.LineSteps.{line_next}
use Rattle.team_report.proofs.Waits.{entry_link}
use Rattle.team_report.proofs.log.write_entries.Goals as goal

pub loop-entry-preserved : goal.loop-entry-preserved
loop-entry-preserved c =
    let links = c.args.links.now in
    let entries = c.args.entries.now in
    let index = c.loop-entry.entry-index in
    let entry = c.entry-item.result in
    let link = c.index-links-entry.result in
    line_next (λ x. judged_line x Waiting) (λ (e : Name × ℕ). slice_get links e.1) entries index entry link
    (c.args.out.now ++ flat_map (λ x. judged_line x Waiting) (linked links entries)) c.loop-entry.out c.write_line.new.out c.loop-entry-test.true
    (entry_link links entries index entry link c.requires c.loop-entry-test.true c.entry-item.is c.index-links-entry.is) c.in_ok-write_line.ensures c.loop-entry.invariant
