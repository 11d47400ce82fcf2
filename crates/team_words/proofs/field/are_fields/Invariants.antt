use Rattle.std.proofs.Common.{◌≡◌, Global, drop, map, string_bytes}
use Rattle.std.specs.List.{list_all}
use Rattle.team_words.specs.Words.{is_field}
use Rattle.team_words.proofs.field.are_fields.Given as goal

-- what is left decides
abbrev pub invariant-loop-word : goal.invariant-loop-word
invariant-loop-word l = list_all is_field (map (string_bytes {Z = Global}) l.words) ≡ list_all is_field (map (string_bytes {Z = Global}) (drop l.word-index l.words))
