use Rattle.std.proofs.Common.{◌≡◌, ◌++◌, flat_map, drop}
use Rattle.team_model.specs.declared.terms.Verdict.TheVariants.{Waiting}
use Rattle.link_graph.specs.Positions.{linked}
use Rattle.team_report.specs.LogText.{judged_line}
use Rattle.team_report.proofs.log.write_entries.Given as goal

-- with the lines of what is left, all are there
abbrev pub invariant-loop-entry : goal.invariant-loop-entry
invariant-loop-entry l =
    l.out ++ flat_map (λ x. judged_line x Waiting) (linked l.links (drop l.entry-index l.entries)) ≡ l.fn.out ++ flat_map (λ x. judged_line x Waiting) (linked l.links l.entries)
