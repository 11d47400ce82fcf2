-- What whoever holds the private elements and the path of one leaf, and no seed, may build on.
use Rattle.std.specs.Prelude.{◌≡◌, ◌↔◌, ◌<◌, ℕ, List, length, IsTrue}
use Rattle.std.specs.List.{AllByRecursion}
use Rattle.lms_ots.specs.declared.kind.OtsKind.{OtsKind}
use Rattle.lms_ots.specs.Kinds.{ots_row}
use Rattle.lms_ots.specs.Ots.{ots_public, candidate, is_ots}
use Rattle.tg_text.specs.Spelling.{number_at}
use Rattle.lms_tree.specs.declared.lms_kind.LmsKind.{LmsKind}
use Rattle.lms_tree.specs.declared.tree_key.TreeKey.{TreeKey}
use Rattle.lms_tree.specs.LmsKinds.{lms_row, leaves_of}
use Rattle.lms_tree.specs.Nodes.{root, path_of}
use Rattle.lms_tree.specs.Signatures.{public_key, joined}
use Rattle.lms_tree.specs.Verifying.{id_in, root_in, root_over, verifies}

-- the bytes have the length of a public key, and begin with the numbers of these types
pub record IsKeyOf (lms : LmsKind) (ots : OtsKind) (key : List ℕ) : Type 0 where
  pub size : length key ≡ 56
  pub lms_is : number_at 0 key ≡ (lms_row lms).number
  pub ots_is : number_at 4 key ≡ (ots_row ots).number

-- the nodes are as many as a path of this type has, each of 32 bytes
pub record IsPath (lms : LmsKind) (path : List (List ℕ)) : Type 0 where
  pub many : length path ≡ (lms_row lms).h
  pub sized : AllByRecursion (λ node. length node ≡ 32) path

-- the public key of a tree bears its types, its id and its root
abbrev pub KeyHasItsParts : Type 0
KeyHasItsParts = (key : TreeKey) → length key.id ≡ 16
    → IsKeyOf key.lms key.ots (public_key key) × (id_in (public_key key) ≡ key.id) × (root_in (public_key key) ≡ root key)

-- a leaf's own path is one of its tree's type, and leads from its one-time key to the root
abbrev pub PathLeadsToTheRoot : Type 0
PathLeadsToTheRoot = (key : TreeKey) (q : ℕ) → q < leaves_of key.lms
    → IsPath key.lms (path_of key q) × (root_over key.lms key.id q (ots_public key.ots key.id q key.seed) (path_of key q) ≡ root key)

-- A signature put together of a leaf, a one-time signature, the type and a path verifies exactly where the candidate of the one-time
-- signature leads to the key's root.
abbrev pub JoinedVerifies : Type 0
JoinedVerifies = (lms : LmsKind) (ots : OtsKind) (key message one_time : List ℕ) (q : ℕ) (path : List (List ℕ))
    → IsKeyOf lms ots key → q < leaves_of lms → IsTrue (is_ots ots one_time) → IsPath lms path
    → IsTrue (verifies key message (joined lms q one_time path)) ↔ (root_over lms (id_in key) q (candidate ots (id_in key) q message one_time) path ≡ root_in key)
