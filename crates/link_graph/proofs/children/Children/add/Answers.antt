use Rattle.std.proofs.Common.{List, ℕ, refl, ◌∙◌, ◌++◌, ap}
use Rattle.link_graph.specs.Children.{children_of, named}
use Rattle.link_graph.proofs.children.Children.add.Goals as goal

pub returns-in-Err-clause-err : goal.returns-in-Err-clause-err
returns-in-Err-clause-err c = λ n.
    c.remove.ensures (λ (m : List ℕ). children_of c.args.self.now.lists m) c.args.place
    (λ m. c.in-Err.ensures.err m ∙ c.loop-i.invariant m ∙ ap (λ (ps : List (List ℕ)). children_of c.args.self.now.lists m ++ named c.args.place ps m) refl) n
