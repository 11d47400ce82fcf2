use Rattle.std.proofs.Common.{List, ℕ}
use Rattle.link_graph.specs.Children.{children_of}
use Rattle.link_graph.proofs.ChildLists.{removed_child, removed_all}
use Rattle.link_graph.proofs.children.Children.remove.Goals as goal

pub loop-parent-preserved : goal.loop-parent-preserved
loop-parent-preserved c = λ before place start n.
    removed_child (λ (m : List ℕ). before m) place c.args.parents.now c.loop-parent.parent-index c.parent-item.result c.loop-parent-test.true c.parent-item.is n
    (children_of c.loop-parent.self.lists n) _ (c.loop-parent.invariant before place start n) (c.remove_child.ensures n)

pub returns : goal.returns
returns c = λ before place start n. removed_all before place c.args.parents.now c.loop-parent.parent-index n _ c.loop-parent-test.false (c.loop-parent.invariant before place start n)
