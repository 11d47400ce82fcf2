use Rattle.std.proofs.Common.{◌≡◌, ◌++◌, ℕ, List, drop}
use Rattle.link_graph.specs.Children.{children_of, named}
use Rattle.link_graph.proofs.children.Children.remove.Given as goal

abbrev pub invariant-loop-parent : goal.invariant-loop-parent
invariant-loop-parent l =
    (before : List ℕ → List ℕ) (place : ℕ) → ((n : List ℕ) → children_of l.fn.self.lists n ≡ before n ++ named place l.parents n)
    → (n : List ℕ) → children_of l.self.lists n ≡ before n ++ named place (drop l.parent-index l.parents) n
