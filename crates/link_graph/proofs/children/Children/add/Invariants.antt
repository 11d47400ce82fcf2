use Rattle.std.proofs.Common.{◌≡◌, ◌++◌, ℕ, List, take}
use Rattle.link_graph.specs.Children.{children_of, named}
use Rattle.link_graph.proofs.children.Children.add.Given as goal

abbrev pub invariant-loop-i : goal.invariant-loop-i
invariant-loop-i l = (n : List ℕ) → children_of l.self.lists n ≡ children_of l.fn.self.lists n ++ named l.place (take l.i l.parents) n
