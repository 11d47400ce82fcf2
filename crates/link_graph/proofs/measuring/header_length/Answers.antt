use Rattle.std.proofs.Common.{◌∙◌, ◌+◌, ◌*◌, ap, arith, length, List, ℕ}
use Rattle.link_graph.proofs.Sizing.{header_size}
use Rattle.link_graph.proofs.measuring.header_length.Goals as goal

pub returns-clause-length : goal.returns-clause-length
returns-clause-length c = ap (λ (l : List ℕ). 13 + 2 * length l) c.as_slice.ensures.bytes ∙ header_size c.args.team.now

pub returns-clause-small : goal.returns-clause-small
returns-clause-small c = let size = c.as_slice.ensures.range.size in let same = ap (λ (l : List ℕ). length l) c.as_slice.ensures.bytes in omega (arith, size, same)
