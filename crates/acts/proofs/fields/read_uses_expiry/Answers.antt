use Rattle.tg_text.specs.Spelling.{spell_decimal}
use Rattle.acts.specs.ActText.{IsTime, IsUses}
use Rattle.acts.proofs.Pairs.{two_read, uses_word}
use Rattle.acts.proofs.fields.read_uses_expiry.Goals as goal

pub returns : goal.returns
returns c = rw c.zip.ensures (two_read IsUses IsTime spell_decimal spell_decimal _ _ _ _ _ (uses_word) c.in_ok-uses.ensures.some.0 c.in_ok-uses.ensures.some.1 c.read_uses.ensures c.read_decimal.ensures)
