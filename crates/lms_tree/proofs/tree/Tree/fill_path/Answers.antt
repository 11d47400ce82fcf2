use Rattle.std.proofs.Common.{◌≡◌, ◌<◌, ◌-◌, ◌*◌, ◌∙◌, refl, sym, ap, arith}
use Rattle.lms_tree.specs.declared.tree_key.TreeKey.{TreeKey}
use Rattle.lms_tree.specs.LmsKinds.{lms_row, leaves_of}
use Rattle.lms_tree.specs.Nodes.{node, sibling, path_of}
use Rattle.lms_tree.proofs.Powers.{leaf_level, half_level, sibling_level, level_within}
use Rattle.lms_tree.proofs.Filled.{path_step, path_end, read_node}
use Rattle.lms_tree.proofs.tree.Tree.fill_path.Goals as goal

pub loop-node-init : goal.loop-node-init
unfolding path_of
loop-node-init c =
    let key = c.args.self.now in
    let leaves : c.leaves.result ≡ leaves_of key.lms = c.leaves.ensures ∙ ap (λ (k : TreeKey). leaves_of k.lms) c.self.view_is in
    let none : (lms_row key.lms).h - 0 ≡ (lms_row key.lms).h = omega arith in
    record { done = rw (leaves, none) refl; level = rw leaves (leaf_level (lms_row key.lms).h c.args.q c.requires.leaf) }

pub index-requires : goal.index-requires
index-requires c =
    let key = c.args.self.now in
    let h = (lms_row key.lms).h in
    let lt : c.loop-node.node-index < h = omega arith in
    let size = c.self.invariant.size ∙ ap (λ (k : TreeKey). 2 * leaves_of k.lms) c.self.view_is in
    let within = level_within h c.loop-node.node-index (sibling c.loop-node.r) (sibling_level h c.loop-node.node-index c.loop-node.r lt c.loop-node.invariant.level) in
    rw c.sibling.ensures (omega arith)

pub loop-node-preserved : goal.loop-node-preserved
loop-node-preserved c =
    let key = c.args.self.now in
    let h = (lms_row key.lms).h in
    let k = c.loop-node.node-index in
    let lt : k < h = omega arith in
    let there = sibling_level h k c.loop-node.r lt c.loop-node.invariant.level in
    let is : c.index.result.now ≡ node key k (sibling c.loop-node.r) =
    read_node key c.self.inside.key c.self.inside.nodes.items k (sibling c.loop-node.r) c.sibling.result c.index.result.now c.self.view_is c.self.invariant (omega arith) there c.sibling.ensures c.index.ensures in
    record {
      done = rw is (path_step key h k c.loop-node.r c.loop-node.path lt (omega arith) ∙ c.loop-node.invariant.done);
      level = half_level h k c.loop-node.r lt c.loop-node.invariant.level;
    }

pub returns : goal.returns
returns c =
    let key = c.args.self.now in
    sym (path_end key (lms_row key.lms).h c.loop-node.node-index c.loop-node.r c.loop-node.path (omega arith) (omega arith)) ∙ c.loop-node.invariant.done
