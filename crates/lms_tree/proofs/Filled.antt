-- The nodes of a tree, filled from the leaves up to the root.
use Rattle.std.proofs.Common.{◌≡◌, ◌≢◌, ℕ, zero, suc, ◌+◌, ◌-◌, ◌*◌, ◌/◌, ◌^◌, ◌<◌, ◌≤◌, inl, inr, List, [], ◌∷◌, length, get_or, refl, ◌∙◌, arith, subst, get_or-set_other, get_or-set_same, take, ◌++◌, append_assoc, append-nil, add-one}
use Rattle.std.proofs.Math.Nat.{eq-or-lt_of_le}
use lib.ListN.{set}
use Rattle.lms_tree.specs.declared.tree_key.TreeKey.{TreeKey}
use Rattle.lms_tree.specs.LmsKinds.{lms_row, leaves_of}
use Rattle.lms_tree.specs.Nodes.{node, leaf_hash, inner_hash, sibling, path_from, HoldsFrom, IsTree}
use Rattle.lms_ots.specs.Ots.{ots_public}
use Rattle.std.proofs.Math.Seq.{take-suc-set}
use Rattle.std.proofs.lemmas.List.{take_all, get_or_default}
use Rattle.lms_tree.proofs.Powers.{level_below, above_leaves, below_leaves, IsLevel, level_some, level_within}

-- the leaves below a place are at hand
abbrev pub HoldsLeaves : TreeKey → ℕ → List (List ℕ) → Type 0
HoldsLeaves key below nodes = (r : ℕ) → leaves_of key.lms ≤ r → r < below → get_or nodes r [] ≡ node key 0 r

pub leaf_step : (key : TreeKey) (r : ℕ) (nodes : List (List ℕ)) (v : List ℕ) → r < length nodes → HoldsLeaves key r nodes → v ≡ node key 0 r → HoldsLeaves key (r + 1) (set nodes r v)
leaf_step key r nodes v lt holds is s lo hi =
    let le : s ≤ r = omega arith in
    elim (eq-or-lt_of_le le) [
      | inl e ↦ rw e (get_or-set_same nodes r v [] lt ∙ is)
      | inr below ↦ let ne : s ≢ r = omega arith in get_or-set_other nodes r s v [] ne ∙ holds s lo below
    ]

pub leaves_hold : (key : TreeKey) (nodes : List (List ℕ)) → HoldsLeaves key (2 * leaves_of key.lms) nodes → HoldsFrom key (leaves_of key.lms) nodes
unfolding HoldsFrom
leaves_hold key nodes holds zero r le from lo hi = holds r from (let e : (lms_row key.lms).h - 0 ≡ (lms_row key.lms).h = omega arith in rw e at hi)
leaves_hold key nodes holds (suc k) r le from lo hi = absurd (above_leaves (lms_row key.lms).h k r le from hi)

pub inner_at : (key : TreeKey) (r : ℕ) (nodes : List (List ℕ)) → 1 ≤ r → r < leaves_of key.lms → HoldsFrom key (r + 1) nodes
    → (k : ℕ) → k ≤ (lms_row key.lms).h → 2 ^ ((lms_row key.lms).h - k) ≤ r → r < 2 * 2 ^ ((lms_row key.lms).h - k)
    → inner_hash key.id r (get_or nodes (2 * r) []) (get_or nodes (2 * r + 1) []) ≡ node key k r
unfolding HoldsFrom node
inner_at key r nodes one low holds zero le lo hi = absurd (below_leaves (lms_row key.lms).h r lo low)
inner_at key r nodes one low holds (suc k) le lo hi =
    let e = level_below (lms_row key.lms).h k le in
    let left : get_or nodes (2 * r) [] ≡ node key k (2 * r) = holds k (2 * r) (omega arith) (omega arith) (omega arith) (omega arith) in
    let right : get_or nodes (2 * r + 1) [] ≡ node key k (2 * r + 1) = holds k (2 * r + 1) (omega arith) (omega arith) (omega arith) (omega arith) in
    rw (left, right) refl

pub inner_step : (key : TreeKey) (r : ℕ) (nodes : List (List ℕ)) (v : List ℕ) → 1 ≤ r → r < leaves_of key.lms → length nodes ≡ 2 * leaves_of key.lms → HoldsFrom key (r + 1) nodes
    → v ≡ inner_hash key.id r (get_or nodes (2 * r) []) (get_or nodes (2 * r + 1) []) → HoldsFrom key r (set nodes r v)
unfolding HoldsFrom
inner_step key r nodes v one low size holds is k s le from lo hi =
    elim (eq-or-lt_of_le from) [
      | inl e ↦
          let lo' : 2 ^ ((lms_row key.lms).h - k) ≤ r = omega arith in
          let hi' : r < 2 * 2 ^ ((lms_row key.lms).h - k) = omega arith in
          let lt : r < length nodes = omega arith in
          rw (← e) (get_or-set_same nodes r v [] lt ∙ is ∙ inner_at key r nodes one low holds k le lo' hi')
      | inr above ↦ let ne : s ≢ r = omega arith in get_or-set_other nodes r s v [] ne ∙ holds k s le (omega arith) lo hi
    ]

pub node_at : (key : TreeKey) (nodes : List (List ℕ)) (k r : ℕ) → HoldsFrom key 1 nodes → k ≤ (lms_row key.lms).h → IsLevel (lms_row key.lms).h k r
    → get_or nodes r [] ≡ node key k r
unfolding HoldsFrom
node_at key nodes k r holds le at = holds k r le (level_some (lms_row key.lms).h k r at) at.lo at.hi

pub leaf_is : (key : TreeKey) (q : ℕ) → leaf_hash key.id (leaves_of key.lms + q) (ots_public key.ots key.id q key.seed) ≡ node key 0 (leaves_of key.lms + q)
unfolding node
leaf_is key q = let e : leaves_of key.lms + q - leaves_of key.lms ≡ q = omega arith in rw e refl

-- the siblings of a path, filled in order
pub path_step : (key : TreeKey) (h k r : ℕ) (xs : List (List ℕ)) → k < h → k < length xs
    → take (k + 1) (set xs k (node key k (sibling r))) ++ path_from key (k + 1) (h - (k + 1)) (r / 2) ≡ take k xs ++ path_from key k (h - k) r
unfolding path_from
path_step key h k r xs lt within =
    let e : h - k ≡ suc (h - (k + 1)) = omega arith in
    let t : take (k + 1) (set xs k (node key k (sibling r))) ≡ take k xs ++ node key k (sibling r) ∷ [] = rw (add-one k) (take-suc-set xs k (node key k (sibling r)) within) in
    rw (t, e, append_assoc) refl

pub path_end : (key : TreeKey) (h k r : ℕ) (xs : List (List ℕ)) → h ≤ k → length xs ≡ h → take k xs ++ path_from key k (h - k) r ≡ xs
unfolding path_from
path_end key h k r xs le size =
    let e : h - k ≡ 0 = omega arith in
    rw (e, append-nil) (take_all _ xs (omega arith))

pub root_level : (h : ℕ) → IsLevel h h 1
root_level h = let e : h - h ≡ 0 = omega arith in record { lo = rw e (omega arith); hi = rw e (omega arith) }

-- what is read at a node's place is that node
pub read_node : (key inside : TreeKey) (nodes : List (List ℕ)) (k r at : ℕ) (d : List ℕ) → inside ≡ key → IsTree inside nodes → k ≤ (lms_row key.lms).h → IsLevel (lms_row key.lms).h k r → at ≡ r
    → d ≡ get_or nodes at d → d ≡ node key k r
read_node key inside nodes k r at d same tree le level e is =
    let whole : IsTree key nodes = subst (λ (x : TreeKey). IsTree x nodes) same tree in
    let size = whole.size in
    let within = level_within (lms_row key.lms).h k r level in
    let lt : r < length nodes = omega arith in
    is ∙ rw e (get_or_default nodes r d [] lt) ∙ node_at key nodes k r whole.holds le level
