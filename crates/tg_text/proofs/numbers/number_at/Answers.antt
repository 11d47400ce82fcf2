use Rattle.std.proofs.Common.{rules}
use Rattle.tg_text.specs.Spelling.{number_at}
use Rattle.tg_text.proofs.numbers.number_at.Goals as goal

pub returns : goal.returns
unfolding number_at
returns c = search rules
