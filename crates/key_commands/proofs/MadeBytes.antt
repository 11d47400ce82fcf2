-- What a tree signs, and its public key, are bytes.
use Rattle.std.proofs.Common.{◌≡◌, ◌≤◌, ◌+◌, ◌/◌, ◌==◌, ◌&&◌, nat_le, true, IsTrue, ℕ, zero, suc, List, [], ◌∷◌, ◌++◌, length, arith}
use Rattle.std.specs.List.{AllByRecursion, concat}
use Rattle.std.proofs.lemmas.Bool.{and_from, eq-eqb, le-leb}
use Rattle.sha2.specs.Sha256.{sha256}
use Rattle.tg_text.specs.Spelling.{AreBytes, IsPublicKey, is_public_key, number_at}
use Rattle.lms_ots.specs.declared.kind.OtsKind.{OtsKind}
use Rattle.lms_ots.specs.declared.kind.OtsKind.TheVariants.{W1, W2, W4, W8}
use Rattle.lms_ots.specs.Kinds.{ots_row}
use Rattle.lms_ots.specs.Digits.{coef, message_digits, u16str, u32str}
use Rattle.lms_ots.specs.Chains.{chain, ots_secrets, randomizer, secret, secrets_from}
use Rattle.lms_ots.specs.Ots.{ots_signature, starts}
use Rattle.lms_tree.specs.declared.lms_kind.LmsKind.{LmsKind}
use Rattle.lms_tree.specs.declared.lms_kind.LmsKind.TheVariants.{H5, H10, H15, H20, H25}
use Rattle.lms_tree.specs.declared.tree_key.TreeKey.{TreeKey}
use Rattle.lms_tree.specs.LmsKinds.{leaves_of, lms_row}
use Rattle.lms_tree.specs.Nodes.{node, path_from, path_of, root, sibling}
use Rattle.lms_tree.specs.Signatures.{leaf_signature, public_key, signature_of}
use Rattle.lms_tree.proofs.Verified.{key_parts}
use Rattle.lms_keep.specs.KeyText.{IsId}
use Rattle.lockboxes.specs.Digests.{bytes_append, bytes_high, bytes_none, bytes_sha256}

bytes_four : (w x y z : List ℕ) → AreBytes w → AreBytes x → AreBytes y → AreBytes z → AreBytes (w ++ x ++ y ++ z)
bytes_four w x y z a b c d = bytes_append (w ++ x ++ y) z (bytes_append (w ++ x) y (bytes_append w x a b) c) d

bytes_u32str : (n : ℕ) → AreBytes (u32str n)
unfolding u32str
bytes_u32str n = bytes_high 4 n

-- a one-time signature
bytes_chain : (id : List ℕ) (q i j n : ℕ) (x : List ℕ) → AreBytes x → AreBytes (chain id q i j n x)
unfolding chain
bytes_chain id q i j zero x are = are
bytes_chain id q i j (suc n) x are =
    let m = id ++ u32str q ++ u16str i ++ j ∷ [] ++ x in bytes_chain id q i (j + 1) n (sha256 m) (bytes_sha256 m)

bytes_starts : (kind : OtsKind) (id : List ℕ) (q : ℕ) (digits : List ℕ) (i : ℕ) (xs : List (List ℕ)) → AllByRecursion AreBytes xs
    → AreBytes (starts kind id q digits i xs)
unfolding starts
bytes_starts kind id q digits i [] are = bytes_none
bytes_starts kind id q digits i (x ∷ xs) are =
    let a = coef digits i (ots_row kind).w in
    bytes_append (chain id q i 0 a x) (starts kind id q digits (i + 1) xs) (bytes_chain id q i 0 a x are.0) (bytes_starts kind id q digits (i + 1) xs are.1)

bytes_secret : (id : List ℕ) (q i : ℕ) (seed : List ℕ) → AreBytes (secret id q i seed)
unfolding secret
bytes_secret id q i seed = bytes_sha256 (id ++ u32str q ++ u16str i ++ 0xff ∷ [] ++ seed)

bytes_secrets : (id : List ℕ) (q : ℕ) (seed : List ℕ) (i n : ℕ) → AllByRecursion AreBytes (secrets_from id q seed i n)
unfolding secrets_from
bytes_secrets id q seed i zero = tt
bytes_secrets id q seed i (suc n) = (bytes_secret id q i seed, bytes_secrets id q seed (i + 1) n)

bytes_ots : (kind : OtsKind) (id : List ℕ) (q : ℕ) (xs : List (List ℕ)) (c message : List ℕ) → AreBytes c → AllByRecursion AreBytes xs
    → AreBytes (ots_signature kind id q xs c message)
unfolding ots_signature
bytes_ots kind id q xs c message random are =
    let number = u32str (ots_row kind).number in
    let digits = message_digits kind id q c message in
    bytes_append (number ++ c) (starts kind id q digits 0 xs) (bytes_append number c (bytes_u32str (ots_row kind).number) random) (bytes_starts kind id q digits 0 xs are)

bytes_leaf : (key : TreeKey) (q : ℕ) (message : List ℕ) → AreBytes (leaf_signature key q message)
unfolding leaf_signature
bytes_leaf key q message =
    bytes_ots key.ots key.id q (ots_secrets key.ots key.id q key.seed) (randomizer key.id q key.seed) message
    (bytes_secret key.id q 0xfffd key.seed) (bytes_secrets key.id q key.seed 0 (ots_row key.ots).p)

-- the nodes of a tree
bytes_node : (key : TreeKey) (k r : ℕ) → AreBytes (node key k r)
unfolding node
bytes_node key zero r = bytes_sha256 _
bytes_node key (suc k) r = bytes_sha256 _

bytes_path : (key : TreeKey) (n k r : ℕ) → AreBytes (concat (path_from key k n r))
unfolding path_from
bytes_path key zero k r = bytes_none
bytes_path key (suc n) k r =
    bytes_append (node key k (sibling r)) (concat (path_from key (k + 1) n (r / 2))) (bytes_node key k (sibling r)) (bytes_path key n (k + 1) (r / 2))

pub bytes_signature : (key : TreeKey) (q : ℕ) (message : List ℕ) → AreBytes (signature_of key q message)
unfolding signature_of path_of
bytes_signature key q message =
    let h = (lms_row key.lms).h in
    let r = leaves_of key.lms + q in
    bytes_four (u32str q) (leaf_signature key q message) (u32str (lms_row key.lms).number) (concat (path_from key 0 h r))
    (bytes_u32str q) (bytes_leaf key q message) (bytes_u32str (lms_row key.lms).number) (bytes_path key h 0 r)

-- a public key
bytes_public : (key : TreeKey) → AreBytes key.id → AreBytes (public_key key)
unfolding public_key
bytes_public key are =
    let a = (lms_row key.lms).number in
    let b = (ots_row key.ots).number in
    bytes_four (u32str a) (u32str b) key.id (root key) (bytes_u32str a) (bytes_u32str b) are (bytes_node key (lms_row key.lms).h 1)

lms_between : (lms : LmsKind) → (5 ≤ (lms_row lms).number) × ((lms_row lms).number ≤ 9)
lms_between H5 = (omega arith, omega arith)
lms_between H10 = (omega arith, omega arith)
lms_between H15 = (omega arith, omega arith)
lms_between H20 = (omega arith, omega arith)
lms_between H25 = (omega arith, omega arith)

ots_between : (ots : OtsKind) → (1 ≤ (ots_row ots).number) × ((ots_row ots).number ≤ 4)
ots_between W1 = (omega arith, omega arith)
ots_between W2 = (omega arith, omega arith)
ots_between W4 = (omega arith, omega arith)
ots_between W8 = (omega arith, omega arith)

form_is : (lms : LmsKind) (ots : OtsKind) (n a b : ℕ) → n ≡ 56 → a ≡ (lms_row lms).number → b ≡ (ots_row ots).number
    → ((n == 56) && nat_le 5 a && nat_le a 9 && nat_le 1 b && nat_le b 4) ≡ true
form_is lms ots n a b size l o =
    let two = lms_between lms in
    let one = ots_between ots in
    and_from _ _ (and_from _ _ (and_from _ _ (and_from _ _ (eq-eqb n 56 size) (le-leb 5 a (rw l two.0))) (le-leb a 9 (rw l two.1))) (le-leb 1 b (rw o one.0)))
    (le-leb b 4 (rw o one.1))

public_form : (key : TreeKey) → length key.id ≡ 16 → IsTrue (is_public_key (public_key key))
unfolding number_at
public_form key size =
    let k = public_key key in
    let parts = key_parts key size in
    form_is key.lms key.ots (length k) (number_at 0 k) (number_at 4 k) parts.size parts.lms parts.ots

pub public_is : (key : TreeKey) → IsId key.id → IsPublicKey (public_key key)
public_is key id = record { form = public_form key id.size; bytes = bytes_public key id.bytes }
