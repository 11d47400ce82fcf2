-- A step of a chain, and a chain in two parts.
use Rattle.std.proofs.Common.{◌≡◌, ℕ, zero, suc, ◌+◌, ◌-◌, ◌<◌, List, [], ◌∷◌, ◌++◌, length, refl, arith, add-one}
use Rattle.sha2.specs.Sha256.{sha256}
use Rattle.sha2.proofs.Facts256.{length-sha256}
use Rattle.lms_ots.specs.Digits.{u32str, u16str}
use Rattle.lms_ots.specs.Chains.{chain}

pub chain_step : (id : List ℕ) (q i to j : ℕ) (x : List ℕ) → j < to → chain id q i j (to - j) x ≡ chain id q i (j + 1) (to - (j + 1)) (sha256 (id ++ u32str q ++ u16str i ++ j ∷ [] ++ x))
unfolding chain
chain_step id q i to j x h = let e : to - j ≡ (to - (j + 1)) + 1 = omega arith in rw (e, add-one) refl

pub chain_none : (id : List ℕ) (q i j : ℕ) (x : List ℕ) → chain id q i j 0 x ≡ x
unfolding chain
chain_none id q i j x = refl

pub chain_on : (id : List ℕ) (q i j m n : ℕ) (x : List ℕ) → chain id q i (j + m) n (chain id q i j m x) ≡ chain id q i j (m + n) x
unfolding chain
chain_on id q i j zero n x = rw (let e : j + 0 ≡ j = omega arith in e, let z : 0 + n ≡ n = omega arith in z) refl
chain_on id q i j (suc m) n x =
    let e : j + suc m ≡ (j + 1) + m = omega arith in
    let s : suc m + n ≡ suc (m + n) = omega arith in
    rw (e, s) (chain_on id q i (j + 1) m n (sha256 (id ++ u32str q ++ u16str i ++ j ∷ [] ++ x)))

pub length-chain : (id : List ℕ) (q i j n : ℕ) (x : List ℕ) → length x ≡ 32 → length (chain id q i j n x) ≡ 32
unfolding chain
length-chain id q i j zero x h = h
length-chain id q i j (suc n) x h = length-chain id q i (j + 1) n _ (length-sha256 _)
