-- The levels of a tree: a node k above the leaves lies from 2 ^ (h - k) on, and below twice that.
use Rattle.std.proofs.Common.{◌≡◌, ℕ, suc, ◌+◌, ◌-◌, ◌*◌, ◌/◌, ◌%◌, ◌^◌, ◌<◌, ◌≤◌, ◌==◌, Bool, true, false, refl, ◌∙◌, arith}
use Rattle.std.proofs.Math.Nat.{pow-suc}
use Rattle.std.proofs.Math.Pow.{pow_mono}
use Rattle.std.proofs.lemmas.Nat.{pow_pos}
use Rattle.std.proofs.lemmas.Bool.{eqb-true, eqb-false}
use Rattle.lms_tree.specs.Nodes.{sibling}

-- the level below has twice as many
pub level_below : (h k : ℕ) → suc k ≤ h → 2 ^ (h - k) ≡ 2 * 2 ^ (h - suc k)
level_below h k le =
    let e : h - k ≡ suc (h - suc k) = omega arith in
    let p : 2 ^ suc (h - suc k) ≡ 2 ^ (h - suc k) * 2 = pow-suc 2 (h - suc k) in
    rw e (p ∙ omega arith)

pub level_low : (h k : ℕ) → 2 ^ (h - k) ≤ 2 ^ h
level_low h k = pow_mono (omega arith)

-- no level above has a node from 2 ^ h on
pub above_leaves : (h k r : ℕ) → suc k ≤ h → 2 ^ h ≤ r → r < 2 * 2 ^ (h - suc k) → ⊥
above_leaves h k r le lo hi = let e = level_below h k le in let m = level_low h k in omega arith

-- nor the leaves a node below
pub below_leaves : (h r : ℕ) → 2 ^ (h - 0) ≤ r → r < 2 ^ h → ⊥
below_leaves h r lo hi = let e : h - 0 ≡ h = omega arith in let l : 2 ^ h ≤ r = rw e at lo in omega arith

-- where a node lies, k above the leaves
pub record IsLevel (h k r : ℕ) : Type 0 where
  pub lo : 2 ^ (h - k) ≤ r
  pub hi : r < 2 * 2 ^ (h - k)

pub leaf_level : (h q : ℕ) → q < 2 ^ h → IsLevel h 0 (2 ^ h + q)
leaf_level h q lt = let e : h - 0 ≡ h = omega arith in record { lo = rw e (omega arith); hi = rw e (omega arith) }

pub half_level : (h k r : ℕ) → k < h → IsLevel h k r → IsLevel h (k + 1) (r / 2)
half_level h k r lt at =
    let e = level_below h k lt in
    let s : h - (k + 1) ≡ h - suc k = omega arith in
    let lo = at.lo in
    let hi = at.hi in
    record { lo = rw s (omega arith); hi = rw s (omega arith) }

pub sibling_level : (h k r : ℕ) → k < h → IsLevel h k r → IsLevel h k (sibling r)
sibling_level h k r lt at = by_half (r % 2 == 1) refl where
  by_half : (b : Bool) → (r % 2 == 1) ≡ b → IsLevel h k (sibling r)
  by_half true e =
      let odd : r % 2 ≡ 1 = eqb-true (r % 2) 1 e in
      let below = level_below h k lt in
      let lo = at.lo in
      let hi = at.hi in
      rw e (record { lo = omega arith; hi = omega arith })
  by_half false e =
      let odd : (r % 2 ≡ 1) → ⊥ = eqb-false (r % 2) 1 e in
      let below = level_below h k lt in
      let lo = at.lo in
      let hi = at.hi in
      rw e (record { lo = omega arith; hi = omega arith })

pub level_within : (h k r : ℕ) → IsLevel h k r → r < 2 * 2 ^ h
level_within h k r at = let m = level_low h k in let hi = at.hi in omega arith

pub level_some : (h k r : ℕ) → IsLevel h k r → 1 ≤ r
level_some h k r at = let p = pow_pos (h - k) in let lo = at.lo in omega arith
