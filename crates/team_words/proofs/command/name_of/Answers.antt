use Rattle.std.proofs.Common.{Some, None}
use Rattle.team_words.proofs.LinkNames.{read_hash}
use Rattle.team_words.proofs.command.name_of.Goals as goal

pub returns-in-Some : goal.returns-in-Some
returns-in-Some c = read_hash c.args.word.now (Some c.in-Some.bytes) (rw (c.as_bytes.ensures.value, c.in-Some.is) at c.read_hex32.ensures)

pub returns-in-None : goal.returns-in-None
returns-in-None c = read_hash c.args.word.now None (rw (c.as_bytes.ensures.value, c.in-None.is) at c.read_hex32.ensures)
