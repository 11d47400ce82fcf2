use Rattle.std.proofs.Common.{◌≡◌, ◌∙◌, refl}
use Rattle.std.specs.List.{concat}
use Rattle.std.proofs.lemmas.List.Concat.{concat_is}
use Rattle.lms_ots.proofs.Signed.{all_sized}
use Rattle.lms_tree.proofs.Climbs.{length-nodes, pieces_concat}
use Rattle.lms_tree.proofs.verifying.root_over.Goals as goal

pub climb-requires : goal.climb-requires
climb-requires c =
    rw c.as_flattened.ensures.value (rw (concat_is c.args.path.now) (length-nodes c.args.path.now (all_sized c.args.path.now c.told-path)))

pub returns : goal.returns
returns c =
    let flat : c.as_flattened.result.now ≡ concat c.args.path.now = c.as_flattened.ensures.value ∙ concat_is c.args.path.now in
    rw (c.climb.ensures, c.leaf_hash.ensures, c.leaves.ensures, flat, pieces_concat c.args.path.now (all_sized c.args.path.now c.told-path)) refl
