use Rattle.tg_text.specs.Spelling.{IsHash, IsPublicKey, AreBytes, spell_base64, spell_hex}
use Rattle.acts.specs.Fields.{AreTwo, spell_two}
use Rattle.acts.proofs.Pairs.{two_read, hex_word}
use Rattle.acts.proofs.fields.read_seal_by_proof.Goals as goal

pub returns : goal.returns
returns c = rw c.zip.ensures (two_read IsHash (AreTwo IsPublicKey AreBytes) spell_hex (spell_two spell_base64 spell_base64) _ _ _ _ _ (λ k _. hex_word k) c.in-Some.ensures.some.0 c.in-Some.ensures.some.1 c.read_hex32.ensures c.in_ok-rest.ensures)
