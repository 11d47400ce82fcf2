use Rattle.std.proofs.Common.{◌≡◌, refl, arith}
use Rattle.lms_tree.specs.LmsKinds.{lms_row}
use Rattle.lms_tree.specs.Nodes.{root}
use Rattle.lms_tree.specs.Signatures.{public_key}
use Rattle.lms_tree.proofs.Filled.{root_level, read_node}
use Rattle.lms_tree.proofs.tree.Tree.public.Goals as goal

pub returns : goal.returns
unfolding public_key
returns c =
    let key = c.args.self.now in
    let h = (lms_row key.lms).h in
    let is : c.index.result.now ≡ root key =
    read_node key c.self.inside.key c.self.inside.nodes.items h 1 1 c.index.result.now c.self.view_is c.self.invariant (omega arith) (root_level h) refl c.index.ensures in
    rw (c.write_public.ensures, is, c.self.view_is) refl
