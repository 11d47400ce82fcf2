use Rattle.std.proofs.Common.{rules}
use Rattle.author_commands.proofs.PlainActs.{plain_timed}
use Rattle.author_commands.proofs.plain.answer_plain.Goals as goal

pub returns-clause-body : goal.returns-clause-body
returns-clause-body g c =
    plain_timed c.args.file.now c.args.key_file.now c.args.act.now c.args.time (search rules) _ _ c.author.result c.author.ensures.body
