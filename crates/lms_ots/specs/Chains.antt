-- The chains of RFC 8554 section 4.3, and the private elements of its Appendix A.
use Rattle.std.specs.Prelude.{ℕ, zero, suc, ◌+◌, List, [], ◌∷◌, ◌++◌}
use Rattle.sha2.specs.Sha256.{sha256}
use Rattle.lms_ots.specs.declared.kind.OtsKind.{OtsKind}
use Rattle.lms_ots.specs.Kinds.{ots_row}
use Rattle.lms_ots.specs.Digits.{u32str, u16str}

-- n steps of chain i, from the step j on
unfoldable pub chain : List ℕ → ℕ → ℕ → ℕ → ℕ → List ℕ → List ℕ
chain id q i j zero tmp = tmp
chain id q i j (suc n) tmp = chain id q i (j + 1) n (sha256 (id ++ u32str q ++ u16str i ++ j ∷ [] ++ tmp))

-- x_q[i], drawn from SEED (Appendix A)
unfoldable pub secret : List ℕ → ℕ → ℕ → List ℕ → List ℕ
secret id q i seed = sha256 (id ++ u32str q ++ u16str i ++ 0xff ∷ [] ++ seed)

-- C, drawn from SEED in the same way, by a number that no chain has. It is this repository's own: section 4.5 draws C at random
abbrev pub randomizer : List ℕ → ℕ → List ℕ → List ℕ
randomizer id q seed = secret id q 0xfffd seed

-- x_q[i] .. x_q[i + n - 1]
unfoldable pub secrets_from : List ℕ → ℕ → List ℕ → ℕ → ℕ → List (List ℕ)
secrets_from id q seed i zero = []
secrets_from id q seed i (suc n) = secret id q i seed ∷ secrets_from id q seed (i + 1) n

-- x_q[0] .. x_q[p - 1]
abbrev pub ots_secrets : OtsKind → List ℕ → ℕ → List ℕ → List (List ℕ)
ots_secrets kind id q seed = secrets_from id q seed 0 (ots_row kind).p
