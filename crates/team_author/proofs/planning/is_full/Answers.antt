use Rattle.std.proofs.Common.{arith}
use Rattle.team_author.proofs.planning.is_full.Goals as goal

pub overflow_add-result : goal.overflow_add-result
overflow_add-result c = let short = c.is_held.ensures.short in let bytes = c.file_bytes.ensures in omega (arith, short, bytes)
