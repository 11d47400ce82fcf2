use Rattle.std.proofs.Common.{Global, string_bytes, rules}
use Rattle.team_words.proofs.WordCounts.{no_make_of_few, no_make_of_many}
use Rattle.team_words.proofs.command.make_with.Goals as goal
use Rattle.team_words.proofs.command.make_with.Goals.{in_default-via-then-words-lt2, in_default-via-else-words-lt2+else-words-lt3}

pub returns-in_default : goal.returns-in_default
returns-in_default c = elim c.in_default.branch [
  | in_default-via-then-words-lt2 w ↦ no_make_of_few (string_bytes {Z = Global}) c.args.file.now c.args.key_file.now c.args.words.now (search rules)
  | in_default-via-else-words-lt2+else-words-lt3 w ↦ no_make_of_many (string_bytes {Z = Global}) c.args.file.now c.args.key_file.now c.args.words.now (search rules)
]
