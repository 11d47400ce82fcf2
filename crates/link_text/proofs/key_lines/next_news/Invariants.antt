use Rattle.std.proofs.Common.{◌≡◌, ◌++◌, length, flat_map}
use Rattle.std.specs.List.{AllByRecursion}
use Rattle.link_text.specs.KeyRanges.{IsNewKey}
use Rattle.link_text.specs.LinkText.{new_line}
use Rattle.link_text.proofs.key_lines.next_news.Given as goal

-- the lines so far are those of the news so far
abbrev pub invariant-each : goal.invariant-each
invariant-each l = record { are : AllByRecursion IsNewKey l.news; text : l.fn.lines ≡ flat_map new_line l.news ++ l.lines }

abbrev pub decreases-each : goal.decreases-each
decreases-each l = length l.lines
