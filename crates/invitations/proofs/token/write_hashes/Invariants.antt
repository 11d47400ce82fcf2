use Rattle.std.proofs.Common.{◌≡◌, ◌++◌, take}
use Rattle.invitations.specs.FileLines.{hash_lines}
use Rattle.invitations.proofs.token.write_hashes.Given as goal

-- the lines of the hashes so far
abbrev pub invariant-loop-hash : goal.invariant-loop-hash
invariant-loop-hash l = l.out ≡ l.fn.out ++ hash_lines l.word (take l.hash-index l.hashes)
