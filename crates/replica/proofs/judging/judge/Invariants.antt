use Rattle.std.proofs.Common.{◌≡◌, length}
use Rattle.replica.specs.Judged.{IsLast}
use Rattle.replica.specs.Striking.{IsJudged}
use Rattle.replica.proofs.judging.judge.Given as goal

abbrev pub invariant-loop-position : goal.invariant-loop-position
invariant-loop-position g l = record {
  size : length l.judged.reasons.items ≡ l.position;
  judged : IsJudged l.graph.links l.judged;
  last : IsLast l.graph.links (length l.judged.reasons.items) l.last;
}
