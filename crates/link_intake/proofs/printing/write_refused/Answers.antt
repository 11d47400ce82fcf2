use Rattle.std.proofs.Common.{◌∙◌, ◌+◌, ap, arith, drop_of_length-le}
use Rattle.link_intake.proofs.RefusedLines.{lines_end, lines_next}
use Rattle.link_intake.proofs.printing.write_refused.Goals as goal

pub loop-became-preserved : goal.loop-became-preserved
loop-became-preserved c =
    let i = c.loop-became.became-index in let became = c.became-item.result in record {
      number = ap (λ n. n + 1) c.loop-became.invariant.number;
      lines = lines_next c.loop-became.out _ c.args.results.now i became c.loop-became-test.true c.became-item.is (rw c.loop-became.invariant.number at c.in_ok-write_if_refused.ensures) ∙ c.loop-became.invariant.lines;
    }

pub returns : goal.returns
returns c = lines_end c.loop-became.out (c.loop-became.became-index + 1) _ (drop_of_length-le c.args.results.now (omega arith)) ∙ c.loop-became.invariant.lines
