use Rattle.std.proofs.Common.{◌≡◌, length}
use Rattle.invitations.proofs.HashLines.{AreTaken}
use Rattle.invitations.proofs.nodes.next_hashes.Given as goal

-- as many hashes as lines were read, each of the next line
abbrev pub invariant-loop-i : goal.invariant-loop-i
invariant-loop-i l = record { count : length l.hashes ≡ l.i; taken : AreTaken l.word l.many l.fn.lines l.lines l.hashes }
