use Rattle.std.proofs.Common.{sym}
use Rattle.std.proofs.lemmas.List.Concat.{concat_is}
use Rattle.lms_tree.specs.Nodes.{path_of}
use Rattle.lms_tree.proofs.tree.Tree.write_path.Goals as goal

pub returns : goal.returns
returns c =
    rw (c.copy_from_slice.ensures.after, c.as_flattened.ensures.value, c.fill_path.ensures) (sym (concat_is (path_of c.args.self.now c.args.q)))
