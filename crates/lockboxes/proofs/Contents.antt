-- What a symbolic box that opens looks like.
use Rattle.std.proofs.Common.{◌≡◌, ℕ, ◌==◌, List, ◌++◌, length, take, drop, Some, None, Bool, true, false, refl, sym, ap, ◌∙◌, arith, length-drop}
use Rattle.std.specs.Prelude.{if◌then◌else◌}
use Rattle.std.proofs.lemmas.Bool.{and_parts}
use Rattle.std.proofs.lemmas.Bool.Decides.{Decides-eqb}
use Rattle.std.proofs.lemmas.List.{take-append-drop}
use Rattle.std.proofs.lemmas.Slice.Eq.{bytes_eq-Decides}
use Rattle.std.specs.Str.{bytes_eq}
use Rattle.sha2.specs.Sha256.{sha256}
use Rattle.lockboxes.specs.Symbolic.{symbolic_unseal}

told : (test : Bool) (x content : List ℕ) → (if test then Some x else None) ≡ Some content → (test ≡ true) × (x ≡ content)
told true x content e = (refl, cc)
told false x content e = cc

pub content_of_box : (bytes secret content : List ℕ) → symbolic_unseal bytes secret ≡ Some content → (length content ≡ 32) × (bytes ≡ sha256 secret ++ content)
content_of_box bytes secret content e =
    let both = told _ _ _ e in
    let tests = and_parts (length bytes == 64) (bytes_eq (take 32 bytes) (sha256 secret)) both.0 in
    let size : length bytes ≡ 64 = (Decides-eqb (length bytes) 64).0 tests.0 in
    let front : take 32 bytes ≡ sha256 secret = (bytes_eq-Decides (take 32 bytes) (sha256 secret)).0 tests.1 in
    let behind : length (drop 32 bytes) ≡ 32 = rw length-drop (omega (arith, size)) in
    (sym (ap length both.1) ∙ behind, sym (take-append-drop 32 bytes) ∙ rw (front, both.1) refl)
