use Rattle.std.proofs.Common.{◌≡◌, ◌+◌, ◌++◌, drop}
use Rattle.link_intake.specs.ResultsText.{refused_lines}
use Rattle.link_intake.proofs.printing.write_refused.Given as goal

abbrev pub invariant-loop-became : goal.invariant-loop-became
invariant-loop-became l = record {
  number : l.number ≡ l.became-index;
  lines : l.out ++ refused_lines (l.became-index + 1) (drop l.became-index l.results) ≡ l.fn.out ++ refused_lines 1 l.results;
}
