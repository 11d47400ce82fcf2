use Rattle.std.proofs.Common.{arith, [], ◌∷◌}
use Rattle.outcomes.proofs.Drawing.{draws-cut}
use Rattle.key_commands.proofs.newkey.draw_key.Goals as goal

pub returns-in-Ok-clause-cut : goal.returns-in-Ok-clause-cut
returns-in-Ok-clause-cut g c = λ seen w is.
    let made = c.in-Ok.ensures.made in draws-cut 3 (made.0 ∷ made.1 ∷ made.2 ∷ []) _ _ seen w (omega arith) made.3 is

pub returns-in-Ok-clause-fresh : goal.returns-in-Ok-clause-fresh
returns-in-Ok-clause-fresh g c = let made = c.in-Ok.ensures.made in rw made.4 (omega arith)

pub returns-in-Err-EntropyFault-clause-cut : goal.returns-in-Err-EntropyFault-clause-cut
returns-in-Err-EntropyFault-clause-cut g c = λ seen w is.
    let made = rw c.in-Err-EntropyFault.field-0-is at c.in-Err-EntropyFault.ensures.made in draws-cut 3 made.0 _ _ seen w (omega (arith, made.1)) made.2 is
