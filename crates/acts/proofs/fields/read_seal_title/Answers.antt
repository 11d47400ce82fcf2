use Rattle.tg_text.specs.Spelling.{IsHash, IsTitle, spell_hex}
use Rattle.acts.specs.Fields.{spell_text}
use Rattle.acts.proofs.Pairs.{two_read, hex_word}
use Rattle.acts.proofs.fields.read_seal_title.Goals as goal

pub returns : goal.returns
returns c = rw c.zip.ensures (two_read IsHash IsTitle spell_hex spell_text _ _ _ _ _ (λ k _. hex_word k) c.in_ok-seal.ensures.some.0 c.in_ok-seal.ensures.some.1 c.read_hex32.ensures c.read_title.ensures)
