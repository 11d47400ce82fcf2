use Rattle.std.proofs.Common.{◌≡◌, ◌++◌, map, drop}
use Rattle.team_model.specs.Judging.{name_of}
use Rattle.team_files.proofs.names.names_of.Given as goal

abbrev pub invariant-loop-link : goal.invariant-loop-link
invariant-loop-link l = l.names.items ++ map name_of (drop l.link-index l.links) ≡ map name_of l.links
