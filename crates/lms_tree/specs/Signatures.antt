-- Public keys and signatures of RFC 8554 sections 5.3 and 5.4.
use Rattle.std.specs.Prelude.{ℕ, List, ◌++◌}
use Rattle.std.specs.List.{concat}
use Rattle.lms_ots.specs.Kinds.{ots_row}
use Rattle.lms_ots.specs.Digits.{u32str}
use Rattle.lms_ots.specs.Chains.{ots_secrets, randomizer}
use Rattle.lms_ots.specs.Ots.{ots_signature}
use Rattle.lms_tree.specs.declared.lms_kind.LmsKind.{LmsKind}
use Rattle.lms_tree.specs.declared.tree_key.TreeKey.{TreeKey}
use Rattle.lms_tree.specs.LmsKinds.{lms_row}
use Rattle.lms_tree.specs.Nodes.{root, path_of}

-- the public key (section 5.3)
unfoldable pub public_key : TreeKey → List ℕ
public_key key = u32str (lms_row key.lms).number ++ u32str (ots_row key.ots).number ++ key.id ++ root key

-- the one-time signature of a message by the leaf q, with the randomizer of the seed
unfoldable pub leaf_signature : TreeKey → ℕ → List ℕ → List ℕ
leaf_signature key q message =
    ots_signature key.ots key.id q (ots_secrets key.ots key.id q key.seed) (randomizer key.id q key.seed) message

-- a signature put together of its parts: the leaf q, a one-time signature, the type number and a path (section 5.4)
abbrev pub joined : LmsKind → ℕ → List ℕ → List (List ℕ) → List ℕ
joined lms q one_time path = u32str q ++ one_time ++ u32str (lms_row lms).number ++ concat path

-- the signature of a message by the leaf q
unfoldable pub signature_of : TreeKey → ℕ → List ℕ → List ℕ
signature_of key q message = joined key.lms q (leaf_signature key q message) (path_of key q)
