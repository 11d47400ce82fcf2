use Rattle.std.proofs.Common.{subst, List}
use Rattle.std.specs.List.Sorted.{IsPermutation}
use Rattle.team_sets.specs.Names.{Name}
use Rattle.team_files.proofs.Named.{sorted_ascends}
use Rattle.team_files.proofs.names.ascending_names.Goals as goal

pub returns-clause-ascend : goal.returns-clause-ascend
returns-clause-ascend c =
    sorted_ascends c.args.links.now c.sort_names.new.names.items c.requires.set c.in_ok-sort_names.ensures.sorted
    (subst (λ (ns : List Name). IsPermutation ns c.sort_names.new.names.items) c.in_ok-names.ensures c.in_ok-sort_names.ensures.same)
