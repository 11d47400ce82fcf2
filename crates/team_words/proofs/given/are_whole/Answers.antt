use Rattle.std.proofs.Common.{◌∙◌, Global, string_bytes}
use Rattle.team_words.proofs.WordCounts.{front_whole}
use Rattle.team_words.proofs.given.are_whole.Goals as goal

pub returns : goal.returns
returns c = rw c.split_at.ensures.front at c.lack_spaces.ensures ∙ front_whole (string_bytes {Z = Global}) c.args.words.now
