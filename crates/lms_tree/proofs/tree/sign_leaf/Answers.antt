use Rattle.std.proofs.Common.{refl}
use Rattle.lms_tree.specs.Signatures.{leaf_signature}
use Rattle.lms_tree.proofs.tree.sign_leaf.Goals as goal

pub returns : goal.returns
unfolding leaf_signature
returns c = rw (c.ots_sign.ensures.bytes, c.fill_secrets.ensures, c.ots_random-random.ensures) refl
