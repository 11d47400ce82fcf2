use Rattle.std.proofs.Common.{◌≡◌, ℕ, ◌-◌, ◌*◌, List, ◌++◌, drop}
use Rattle.sha2.specs.Hashers.{Holds256}
use Rattle.lms_ots.specs.Kinds.{ots_row}
use Rattle.lms_ots.specs.Digits.{u32str, u16str, d_pblc}
use Rattle.lms_ots.specs.Ots.{ends, pieces}
use Rattle.lms_ots.proofs.signatures.key_of_starts.Given as goal

abbrev pub invariant-loop-i : goal.invariant-loop-i
invariant-loop-i l =
    let p = (ots_row l.kind).p in
    (m : List ℕ) × Holds256 l.hasher m
    × (m ++ ends l.kind l.id l.q l.digits l.i (pieces (p - l.i) (drop (32 * l.i) l.ys))
    ≡ l.id ++ u32str l.q ++ u16str d_pblc ++ ends l.kind l.id l.q l.digits 0 (pieces p l.ys))
