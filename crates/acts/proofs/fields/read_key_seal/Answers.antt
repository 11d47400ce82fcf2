use Rattle.tg_text.specs.Spelling.{IsHash, IsPublicKey, spell_base64, spell_hex}
use Rattle.acts.proofs.Pairs.{two_read, key_word}
use Rattle.acts.proofs.fields.read_key_seal.Goals as goal

pub returns : goal.returns
returns c = rw c.zip.ensures (two_read IsPublicKey IsHash spell_base64 spell_hex _ _ _ _ _ (λ k _. key_word k) c.in_ok-key.ensures.some.0 c.in_ok-key.ensures.some.1 c.read.ensures c.read_hex32.ensures)
