-- The candidate of a signature made for the message is the public key.
use Rattle.std.proofs.Common.{◌≡◌, true, eq-eqb, ℕ, zero, suc, ◌+◌, ◌-◌, ◌*◌, ◌^◌, ◌<◌, ◌≤◌, List, [], ◌∷◌, ◌++◌, length, take, drop, get_or, refl, ap, arith, append_assoc, length-append}
use Rattle.std.specs.List.{AllByRecursion}
use Rattle.std.proofs.lemmas.List.{take_at, drop_at}
use Rattle.lms_ots.specs.declared.kind.OtsKind.{OtsKind}
use Rattle.lms_ots.specs.Kinds.{ots_row, ots_length}
use Rattle.lms_ots.specs.Digits.{u32str, coef, message_digits}
use Rattle.lms_ots.specs.Chains.{chain, secret, secrets_from, randomizer}
use Rattle.lms_ots.specs.Ots.{tops, starts, ends, pieces, ots_key, ots_signature, candidate, is_ots}
use Rattle.tg_text.specs.Spelling.{number_at}
use Rattle.sha2.proofs.Facts256.{length-sha256}
use Rattle.std.proofs.lemmas.Nat.{from_be_bytes-to_be_bytes_4}
use Rattle.lms_ots.proofs.Buffers.{length-u32str}
use Rattle.lms_ots.proofs.Steps.{chain_on, length-chain}
use Rattle.lms_ots.proofs.Widths.{coef_small}

pub chain_whole : (id : List ℕ) (q i a top : ℕ) (x : List ℕ) → a ≤ top → chain id q i a (top - a) (chain id q i 0 a x) ≡ chain id q i 0 top x
chain_whole id q i a top x h =
    let z : 0 + a ≡ a = omega arith in
    let t : a + (top - a) ≡ top = omega arith in
    rw (z, t) at (chain_on id q i 0 a (top - a) x)

pub ends_of_starts : (kind : OtsKind) (id : List ℕ) (q : ℕ) (digits : List ℕ) (i : ℕ) (xs : List (List ℕ)) → AllByRecursion (λ (x : List ℕ). length x ≡ 32) xs
    → ends kind id q digits i (pieces (length xs) (starts kind id q digits i xs)) ≡ tops kind id q i xs
unfolding tops starts ends pieces
ends_of_starts kind id q digits i [] h = refl
ends_of_starts kind id q digits i (x ∷ xs) h =
    let a = coef digits i (ots_row kind).w in
    let y = chain id q i 0 a x in
    let rest = starts kind id q digits (i + 1) xs in
    let size : length y ≡ 32 = length-chain id q i 0 a x h.0 in
    let front : take 32 (y ++ rest) ≡ y = take_at y rest 32 size in
    let back : drop 32 (y ++ rest) ≡ rest = drop_at y rest 32 size in
    rw (front, back, chain_whole id q i a (2 ^ (ots_row kind).w - 1) x (coef_small digits i kind), ends_of_starts kind id q digits (i + 1) xs h.1) refl

-- what the type of an array of arrays says
pub all_sized : (xs : List (List ℕ)) → ((i : ℕ) → i < length xs → length (get_or xs i []) ≡ 32) → AllByRecursion (λ (x : List ℕ). length x ≡ 32) xs
all_sized [] told = tt
all_sized (x ∷ xs) told = (told 0 (omega arith), all_sized xs (λ i lt. told (suc i) (omega arith)))

pub key_of_signature : (kind : OtsKind) (id : List ℕ) (q : ℕ) (xs : List (List ℕ)) (c message : List ℕ) → length xs ≡ (ots_row kind).p → length c ≡ 32 → AllByRecursion (λ (x : List ℕ). length x ≡ 32) xs
    → candidate kind id q message (ots_signature kind id q xs c message) ≡ ots_key kind id q xs
unfolding candidate ots_signature ots_key
key_of_signature kind id q xs c message p size all =
    let number = u32str (ots_row kind).number in
    let body = starts kind id q (message_digits kind id q c message) 0 xs in
    let four : length number ≡ 4 = length-u32str (ots_row kind).number in
    let head : length (number ++ c) ≡ 36 = rw (length-append, four, size) refl in
    let after : drop 4 (number ++ (c ++ body)) ≡ c ++ body = drop_at number (c ++ body) 4 four in
    let random : take 32 (drop 4 ((number ++ c) ++ body)) ≡ c = rw (append_assoc, after) (take_at c body 32 size) in
    let back : drop 36 ((number ++ c) ++ body) ≡ body = drop_at (number ++ c) body 36 head in
    rw (random, back, ← p, ends_of_starts kind id q (message_digits kind id q c message) 0 xs all) refl

pub length-starts : (kind : OtsKind) (id : List ℕ) (q : ℕ) (digits : List ℕ) (i : ℕ) (xs : List (List ℕ)) → AllByRecursion (λ (x : List ℕ). length x ≡ 32) xs
    → length (starts kind id q digits i xs) ≡ 32 * length xs
unfolding starts
length-starts kind id q digits i [] h = refl
length-starts kind id q digits i (x ∷ xs) h =
    let one : length (chain id q i 0 (coef digits i (ots_row kind).w) x) ≡ 32 = length-chain id q i 0 _ x h.0 in
    let more = length-starts kind id q digits (i + 1) xs h.1 in
    rw (length-append, one, more) (omega arith)

pub length-ots_signature : (kind : OtsKind) (id : List ℕ) (q : ℕ) (xs : List (List ℕ)) (c message : List ℕ) → length xs ≡ (ots_row kind).p → length c ≡ 32 → AllByRecursion (λ (x : List ℕ). length x ≡ 32) xs
    → length (ots_signature kind id q xs c message) ≡ ots_length kind
unfolding ots_signature
length-ots_signature kind id q xs c message p size all =
    rw (length-append, length-append, length-u32str, size, length-starts kind id q (message_digits kind id q c message) 0 xs all, p) refl

-- a signature begins with its type number
pub ots_signature_head : (kind : OtsKind) (id : List ℕ) (q : ℕ) (xs : List (List ℕ)) (c message : List ℕ)
    → ots_signature kind id q xs c message ≡ u32str (ots_row kind).number ++ (c ++ starts kind id q (message_digits kind id q c message) 0 xs)
unfolding ots_signature
ots_signature_head kind id q xs c message = rw append_assoc refl

-- the private elements of a seed
pub secrets_sized : (id : List ℕ) (q : ℕ) (seed : List ℕ) (i n : ℕ) → AllByRecursion (λ (x : List ℕ). length x ≡ 32) (secrets_from id q seed i n)
unfolding secrets_from secret
secrets_sized id q seed i zero = tt
secrets_sized id q seed i (suc n) = (length-sha256 _, secrets_sized id q seed (i + 1) n)

pub length-secrets_from : (id : List ℕ) (q : ℕ) (seed : List ℕ) (i n : ℕ) → length (secrets_from id q seed i n) ≡ n
unfolding secrets_from
length-secrets_from id q seed i zero = refl
length-secrets_from id q seed i (suc n) = ap suc (length-secrets_from id q seed (i + 1) n)

pub length-randomizer : (id : List ℕ) (q : ℕ) (seed : List ℕ) → length (randomizer id q seed) ≡ 32
unfolding secret
length-randomizer id q seed = length-sha256 _

-- a number read where it was written
pub number_at-u32str : (xs rest : List ℕ) (i n : ℕ) → length xs ≡ i → n < 2 ^ 32 → number_at i (xs ++ (u32str n ++ rest)) ≡ n
unfolding number_at u32str
number_at-u32str xs rest i n size low = rw (drop_at xs (u32str n ++ rest) i size) (from_be_bytes-to_be_bytes_4 n low)

-- a signature has the length and the type number of its kind
pub form_of_signature : (kind : OtsKind) (id : List ℕ) (q : ℕ) (xs : List (List ℕ)) (c message : List ℕ) → length xs ≡ (ots_row kind).p → length c ≡ 32 → AllByRecursion (λ (x : List ℕ). length x ≡ 32) xs
    → (ots_row kind).number < 2 ^ 32 → is_ots kind (ots_signature kind id q xs c message) ≡ true
form_of_signature kind id q xs c message p size all low =
    let s = ots_signature kind id q xs c message in
    let number : number_at 0 s ≡ (ots_row kind).number = rw (ots_signature_head kind id q xs c message) (number_at-u32str [] _ 0 (ots_row kind).number refl low) in
    rw (eq-eqb (length s) (ots_length kind) (length-ots_signature kind id q xs c message p size all), eq-eqb (number_at 0 s) (ots_row kind).number number) refl
