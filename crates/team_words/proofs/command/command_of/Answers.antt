use Rattle.std.proofs.Common.{◌≤◌, Global, length, string_bytes, arith, rules}
use Rattle.std.proofs.lemmas.Result.{IfOk-weaker}
use Rattle.team_words.proofs.OneCommand.{keyed_command}
use Rattle.team_words.proofs.WordCounts.{none_of_few}
use Rattle.team_words.proofs.command.command_of.Goals as goal
use Rattle.team_words.proofs.command.command_of.Goals.{in_default-via-then-words-lt2, in_default-via-else-words-lt2+else-words-lt3+else-words-lt4}

pub returns-in_default : goal.returns-in_default
returns-in_default c = elim c.in_default.branch [
  | in_default-via-then-words-lt2 w ↦ none_of_few (string_bytes {Z = Global}) c.args.words.now (search rules)
  | in_default-via-else-words-lt2+else-words-lt3+else-words-lt4 w ↦
      let over : 4 ≤ length c.args.words.now = search rules in
      let few = c.if-words-gt3.false in
      absurd (omega (arith, over, few))
]

pub returns-then-words-gt3 : goal.returns-then-words-gt3
returns-then-words-gt3 c =
    IfOk-weaker c.with_key.result _ _
    (λ found is.
    keyed_command (string_bytes {Z = Global}) c.args.words.now c.split_at.result.0.now c.split_at.result.1.now c.index-first-0.result c.index-first-1.result c.index-first-2.result c.as_str.result.now
    c.as_str-then-words-gt3.result.now c.as_str-then-words-gt3-2.result.now found c.if-words-gt3.true c.split_at.ensures.front c.split_at.ensures.back c.index-first-0.is c.index-first-1.is c.index-first-2.is
    c.as_str.ensures.value c.as_str-then-words-gt3.ensures.value c.as_str-then-words-gt3-2.ensures.value is)
    c.with_key.ensures
