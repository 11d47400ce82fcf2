-- The nodes of a tree, in the letters of RFC 8554 section 5.3. Node 1 is the root, and the nodes 2 r and 2 r + 1 lie below node r.
use Rattle.std.specs.Prelude.{◌≡◌, ℕ, zero, suc, ◌+◌, ◌-◌, ◌*◌, ◌/◌, ◌%◌, ◌^◌, ◌<◌, ◌≤◌, ◌==◌, if◌then◌else◌, List, [], ◌∷◌, ◌++◌, length, slice_index_or}
use Rattle.sha2.specs.Sha256.{sha256}
use Rattle.lms_ots.specs.Digits.{u32str, u16str}
use Rattle.lms_ots.specs.Ots.{ots_public}
use Rattle.lms_tree.specs.declared.tree_key.TreeKey.{TreeKey}
use Rattle.lms_tree.specs.LmsKinds.{lms_row, leaves_of}

-- D_LEAF and D_INTR (section 5.3)
abbrev pub d_leaf : ℕ
d_leaf = 0x8282

abbrev pub d_intr : ℕ
d_intr = 0x8383

-- T[r] of a leaf, of its one-time key
abbrev pub leaf_hash : List ℕ → ℕ → List ℕ → List ℕ
leaf_hash id r key = sha256 (id ++ u32str r ++ u16str d_leaf ++ key)

-- T[r] of another node, of the two below it
abbrev pub inner_hash : List ℕ → ℕ → List ℕ → List ℕ → List ℕ
inner_hash id r left right = sha256 (id ++ u32str r ++ u16str d_intr ++ left ++ right)

-- T[r] of a node r that lies k above the leaves
unfoldable pub node : TreeKey → ℕ → ℕ → List ℕ
node key zero r = leaf_hash key.id r (ots_public key.ots key.id (r - leaves_of key.lms) key.seed)
node key (suc k) r = inner_hash key.id r (node key k (2 * r)) (node key k (2 * r + 1))

-- T[1]
abbrev pub root : TreeKey → List ℕ
root key = node key (lms_row key.lms).h 1

-- the other node below the same one
abbrev pub sibling : ℕ → ℕ
sibling r = if r % 2 == 1 then r - 1 else r + 1

-- the siblings of a node r that lies k above the leaves, and of the n - 1 nodes above it
unfoldable pub path_from : TreeKey → ℕ → ℕ → ℕ → List (List ℕ)
path_from key k zero r = []
path_from key k (suc n) r = node key k (sibling r) ∷ path_from key (k + 1) n (r / 2)

-- path[0] .. path[h - 1] of the leaf q, from the leaf to the root
unfoldable pub path_of : TreeKey → ℕ → List (List ℕ)
path_of key q = path_from key 0 (lms_row key.lms).h (leaves_of key.lms + q)

-- the list holds T[r] at r, from a node on
unfoldable pub HoldsFrom : TreeKey → ℕ → List (List ℕ) → Type 0
HoldsFrom key from nodes =
    (k r : ℕ) → k ≤ (lms_row key.lms).h → from ≤ r → 2 ^ ((lms_row key.lms).h - k) ≤ r → r < 2 * 2 ^ ((lms_row key.lms).h - k)
    → slice_index_or nodes r [] ≡ node key k r

-- the list holds all nodes of the tree, T[r] at r
pub record IsTree (key : TreeKey) (nodes : List (List ℕ)) : Type 0 where
  pub id : length key.id ≡ 16
  pub low : (lms_row key.lms).h ≤ 15
  pub size : length nodes ≡ 2 * leaves_of key.lms
  pub holds : HoldsFrom key 1 nodes
