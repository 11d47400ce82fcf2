use Rattle.std.proofs.Common.{◌≡◌, Global, drop, map, string_bytes}
use Rattle.std.specs.List.{list_all}
use Rattle.team_words.specs.Acts.{lacks_space}
use Rattle.team_words.proofs.given.lack_spaces.Given as goal

-- what is left decides
abbrev pub invariant-loop-word : goal.invariant-loop-word
invariant-loop-word l = list_all lacks_space (map (string_bytes {Z = Global}) l.words) ≡ list_all lacks_space (map (string_bytes {Z = Global}) (drop l.word-index l.words))
