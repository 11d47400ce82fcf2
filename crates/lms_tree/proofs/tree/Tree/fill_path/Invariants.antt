use Rattle.std.proofs.Common.{◌≡◌, ◌-◌, ◌++◌, take}
use Rattle.lms_tree.specs.LmsKinds.{lms_row}
use Rattle.lms_tree.specs.Nodes.{path_from, path_of}
use Rattle.lms_tree.proofs.Powers.{IsLevel}
use Rattle.lms_tree.proofs.tree.Tree.fill_path.Given as goal

abbrev pub invariant-loop-node : goal.invariant-loop-node
invariant-loop-node l =
    let h = (lms_row l.self.lms).h in
    record {
      done : take l.node-index l.path ++ path_from l.self l.node-index (h - l.node-index) l.r ≡ path_of l.self l.q;
      level : IsLevel h l.node-index l.r;
    }
