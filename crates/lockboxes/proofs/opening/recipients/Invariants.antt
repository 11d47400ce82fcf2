use Rattle.std.proofs.Common.{◌≡◌, ◌++◌, map, drop}
use Rattle.lockboxes.proofs.opening.recipients.Given as goal

abbrev pub invariant-loop-line : goal.invariant-loop-line
invariant-loop-line l = l.keys.items ++ map (λ b. b.to) (drop l.line-index l.boxes) ≡ map (λ b. b.to) l.boxes
