use Rattle.std.proofs.Common.{◌≡◌, Global, flat_map, map, string_bytes, take}
use Rattle.team_words.specs.Acts.{word_after}
use Rattle.team_words.proofs.given.join.Given as goal

-- the words so far
abbrev pub invariant-loop-word : goal.invariant-loop-word
invariant-loop-word l = l.text ≡ flat_map word_after (map (string_bytes {Z = Global}) (take l.word-index l.words))
