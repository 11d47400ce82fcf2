-- One-time keys and signatures of RFC 8554 sections 4.3, 4.5 and 4.6.
use Rattle.std.specs.Prelude.{ℕ, zero, suc, ◌+◌, ◌-◌, ◌^◌, Bool, ◌&&◌, ◌==◌, List, [], ◌∷◌, ◌++◌, length, take, drop}
use Rattle.sha2.specs.Sha256.{sha256}
use Rattle.tg_text.specs.Spelling.{number_at}
use Rattle.lms_ots.specs.declared.kind.OtsKind.{OtsKind}
use Rattle.lms_ots.specs.Kinds.{ots_row, ots_length}
use Rattle.lms_ots.specs.Digits.{u32str, u16str, d_pblc, coef, message_digits}
use Rattle.lms_ots.specs.Chains.{chain, ots_secrets}

-- the ends of the chains from i on, each run whole from its private element
unfoldable pub tops : OtsKind → List ℕ → ℕ → ℕ → List (List ℕ) → List ℕ
tops kind id q i [] = []
tops kind id q i (x ∷ xs) = chain id q i 0 (2 ^ (ots_row kind).w - 1) x ++ tops kind id q (i + 1) xs

-- K of these private elements (section 4.3)
unfoldable pub ots_key : OtsKind → List ℕ → ℕ → List (List ℕ) → List ℕ
ots_key kind id q xs = sha256 (id ++ u32str q ++ u16str d_pblc ++ tops kind id q 0 xs)

-- K of the leaf q of a seed
abbrev pub ots_public : OtsKind → List ℕ → ℕ → List ℕ → List ℕ
ots_public kind id q seed = ots_key kind id q (ots_secrets kind id q seed)

-- y[i] and those after it, each chain run from its private element as far as its digit says
unfoldable pub starts : OtsKind → List ℕ → ℕ → List ℕ → ℕ → List (List ℕ) → List ℕ
starts kind id q digits i [] = []
starts kind id q digits i (x ∷ xs) =
    chain id q i 0 (coef digits i (ots_row kind).w) x ++ starts kind id q digits (i + 1) xs

-- the signature by these private elements (section 4.5)
unfoldable pub ots_signature : OtsKind → List ℕ → ℕ → List (List ℕ) → List ℕ → List ℕ → List ℕ
ots_signature kind id q xs c message =
    u32str (ots_row kind).number ++ c ++ starts kind id q (message_digits kind id q c message) 0 xs

-- the first n pieces of 32 bytes
unfoldable pub pieces : ℕ → List ℕ → List (List ℕ)
pieces zero bytes = []
pieces (suc n) bytes = take 32 bytes ∷ pieces n (drop 32 bytes)

-- the ends of the chains from i on, each run on from its digit
unfoldable pub ends : OtsKind → List ℕ → ℕ → List ℕ → ℕ → List (List ℕ) → List ℕ
ends kind id q digits i [] = []
ends kind id q digits i (y ∷ ys) =
    let a = coef digits i (ots_row kind).w in
    chain id q i a (2 ^ (ots_row kind).w - 1 - a) y ++ ends kind id q digits (i + 1) ys

-- Kc, the key to which the signature of a message leads (section 4.6)
unfoldable pub candidate : OtsKind → List ℕ → ℕ → List ℕ → List ℕ → List ℕ
candidate kind id q message signature =
    sha256 (id ++ u32str q ++ u16str d_pblc
    ++ ends kind id q (message_digits kind id q (take 32 (drop 4 signature)) message) 0 (pieces (ots_row kind).p (drop 36 signature)))

-- whether the bytes have the length and the type number of a signature of this kind
abbrev pub is_ots : OtsKind → List ℕ → Bool
is_ots kind signature = (length signature == ots_length kind) && (number_at 0 signature == (ots_row kind).number)
