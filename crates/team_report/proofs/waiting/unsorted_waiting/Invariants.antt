use Rattle.std.proofs.Common.{◌≡◌, not, filter, take}
use Rattle.link_graph.specs.Positions.{HasEntries, linked}
use Rattle.team_report.specs.LogText.{is_connected}
use Rattle.team_report.proofs.waiting.unsorted_waiting.Given as goal

-- those of the links so far that wait are entered
abbrev pub invariant-loop-place : goal.invariant-loop-place
invariant-loop-place l = record {
  entries : HasEntries l.graph.links l.entries.items;
  linked : linked l.graph.links l.entries.items ≡ filter (λ x. not (is_connected l.graph.links x)) (take l.place l.graph.links);
}
