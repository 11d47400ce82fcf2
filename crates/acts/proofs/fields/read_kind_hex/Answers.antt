use Rattle.tg_text.specs.Spelling.{IsHash, spell_hex}
use Rattle.acts.specs.ActText.{spell_kind}
use Rattle.acts.proofs.Pairs.{two_read, kind_word}
use Rattle.acts.proofs.fields.read_kind_hex.Goals as goal

pub returns : goal.returns
returns c = rw c.zip.ensures (two_read (λ _. Unit {0}) IsHash spell_kind spell_hex _ _ _ _ _ (λ k _. kind_word k) c.in_ok-kind.ensures.some.0 c.in_ok-kind.ensures.some.1 c.read_kind.ensures c.read_hex32.ensures)
