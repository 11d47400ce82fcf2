use Rattle.std.proofs.Common.{◌≡◌, take}
use Rattle.std.specs.List.{AllByRecursion}
use Rattle.tg_text.specs.Spelling.{IsHash}
use Rattle.team_author.proofs.planning.copy_names.Given as goal

-- the names so far
abbrev pub invariant-loop-name : goal.invariant-loop-name
invariant-loop-name l = record {
  same : l.copied ≡ take l.name-index l.names;
  names : AllByRecursion IsHash l.copied;
}
