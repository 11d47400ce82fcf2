use Rattle.std.proofs.Common.{◌≡◌, ℕ, List, ◌++◌, drop}
use Rattle.sha2.specs.Hashers.{Holds256}
use Rattle.lms_ots.specs.Digits.{u32str, u16str, d_pblc}
use Rattle.lms_ots.specs.Ots.{tops}
use Rattle.lms_ots.proofs.signatures.public_of_secrets.Given as goal

abbrev pub invariant-loop-i : goal.invariant-loop-i
invariant-loop-i l =
    (m : List ℕ) × Holds256 l.hasher m
    × (m ++ tops l.kind l.id l.q l.i (drop l.i l.secrets) ≡ l.id ++ u32str l.q ++ u16str d_pblc ++ tops l.kind l.id l.q 0 l.secrets)
