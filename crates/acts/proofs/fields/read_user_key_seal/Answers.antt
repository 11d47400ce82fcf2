use Rattle.tg_text.specs.Spelling.{IsHash, IsPublicKey, spell_base64, spell_hex}
use Rattle.acts.specs.ActText.{IsName}
use Rattle.acts.specs.Fields.{AreTwo, spell_text, spell_two}
use Rattle.acts.proofs.Pairs.{two_read, name_word}
use Rattle.acts.proofs.fields.read_user_key_seal.Goals as goal

pub returns : goal.returns
returns c = rw c.zip.ensures (two_read IsName (AreTwo IsPublicKey IsHash) spell_text (spell_two spell_base64 spell_hex) _ _ _ _ _ (name_word) c.in_ok-user.ensures.some.0 c.in_ok-user.ensures.some.1 c.read_user.ensures c.read_key_seal.ensures)
