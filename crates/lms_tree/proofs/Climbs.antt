-- Climbing from a node along the siblings leads to the node above it.
use Rattle.std.proofs.Common.{◌≡◌, ℕ, zero, suc, ◌+◌, ◌-◌, ◌*◌, ◌/◌, ◌%◌, ◌^◌, ◌<◌, ◌≤◌, ◌==◌, true, false, Bool, List, [], ◌∷◌, ◌++◌, length, take, drop, refl, sym, ap, ◌∙◌, arith, add-one, length-append}
use Rattle.std.specs.List.{concat, AllByRecursion}
use Rattle.std.proofs.Math.Nat.{pow-succ', div-div-eq-div-mul}
use Rattle.std.proofs.lemmas.Bool.{eqb-true, eqb-false}
use Rattle.std.proofs.lemmas.List.{take_at, drop_at, drop-drop}
use Rattle.sha2.proofs.Facts256.{length-sha256}
use Rattle.lms_ots.specs.Ots.{pieces}
use Rattle.lms_tree.specs.declared.tree_key.TreeKey.{TreeKey}
use Rattle.lms_tree.specs.Nodes.{node, sibling, path_from}
use Rattle.lms_tree.specs.Verifying.{parent, climb}

pub parent_is : (key : TreeKey) (k r : ℕ) → parent key.id r (node key k r) (node key k (sibling r)) ≡ node key (k + 1) (r / 2)
unfolding node
parent_is key k r = by_half (r % 2 == 1) refl where
  by_half : (b : Bool) → (r % 2 == 1) ≡ b → parent key.id r (node key k r) (node key k (sibling r)) ≡ node key (k + 1) (r / 2)
  by_half true e =
      let odd : r % 2 ≡ 1 = eqb-true (r % 2) 1 e in
      let left : r - 1 ≡ 2 * (r / 2) = omega arith in
      let right : 2 * (r / 2) + 1 ≡ r = omega arith in
      rw (e, add-one k, left, right) refl
  by_half false e =
      let odd : (r % 2 ≡ 1) → ⊥ = eqb-false (r % 2) 1 e in
      let left : 2 * (r / 2) ≡ r = omega arith in
      rw (e, add-one k, left) refl

pub climb_path : (key : TreeKey) (n k r : ℕ) → climb key.id r (node key k r) (path_from key k n r) ≡ node key (k + n) (r / 2 ^ n)
unfolding climb path_from
climb_path key zero k r = let e : k + 0 ≡ k = omega arith in let d : r / 1 ≡ r = omega arith in rw (e, d) refl
climb_path key (suc n) k r =
    let e : k + suc n ≡ (k + 1) + n = omega arith in
    let d : r / 2 ^ suc n ≡ r / 2 / 2 ^ n = rw (pow-succ' 2 n) (sym (div-div-eq-div-mul r 2 (2 ^ n))) in
    ap (λ x. climb key.id (r / 2) x (path_from key (k + 1) n (r / 2))) (parent_is key k r)
    ∙ rw (e, d) (climb_path key n (k + 1) (r / 2))

pub climb_step : (id : List ℕ) (height i r : ℕ) (node path : List ℕ) → i < height
    → climb id r node (pieces (height - i) (drop (32 * i) path))
    ≡ climb id (r / 2) (parent id r node (take 32 (drop (32 * i) path))) (pieces (height - (i + 1)) (drop (32 * (i + 1)) path))
unfolding climb pieces
climb_step id height i r node path lt =
    let e : height - i ≡ suc (height - (i + 1)) = omega arith in
    let d : 32 * (i + 1) ≡ 32 * i + 32 = omega arith in
    rw (e, d, ← drop-drop 32 (32 * i) path) refl

pub climb_end : (id : List ℕ) (height i r : ℕ) (node path : List ℕ) → height ≤ i → climb id r node (pieces (height - i) (drop (32 * i) path)) ≡ node
unfolding climb pieces
climb_end id height i r node path le = let e : height - i ≡ 0 = omega arith in rw e refl

pub length-node : (key : TreeKey) (k r : ℕ) → length (node key k r) ≡ 32
unfolding node
length-node key zero r = length-sha256 _
length-node key (suc k) r = length-sha256 _

pub path_sized : (key : TreeKey) (k n r : ℕ) → AllByRecursion (λ (x : List ℕ). length x ≡ 32) (path_from key k n r)
unfolding path_from
path_sized key k zero r = tt
path_sized key k (suc n) r = (length-node key k (sibling r), path_sized key (k + 1) n (r / 2))

pub length-path : (key : TreeKey) (k n r : ℕ) → length (path_from key k n r) ≡ n
unfolding path_from
length-path key k zero r = refl
length-path key k (suc n) r = ap suc (length-path key (k + 1) n (r / 2))

-- nodes written one after the other are read again
pub pieces_concat : (path : List (List ℕ)) → AllByRecursion (λ (x : List ℕ). length x ≡ 32) path → pieces (length path) (concat path) ≡ path
unfolding pieces
pieces_concat [] h = refl
pieces_concat (node ∷ path) h =
    let front : take 32 (node ++ concat path) ≡ node = take_at node (concat path) 32 h.0 in
    let back : drop 32 (node ++ concat path) ≡ concat path = drop_at node (concat path) 32 h.0 in
    rw (front, back, pieces_concat path h.1) refl

pub length-nodes : (path : List (List ℕ)) → AllByRecursion (λ (x : List ℕ). length x ≡ 32) path → length (concat path) ≡ 32 * length path
length-nodes [] h = refl
length-nodes (node ∷ path) h = rw (length-append, h.0, length-nodes path h.1) (omega arith)
