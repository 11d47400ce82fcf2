use Rattle.tg_text.specs.Spelling.{IsPublicKey, AreBytes, spell_base64}
use Rattle.acts.proofs.Pairs.{two_read, key_word}
use Rattle.acts.proofs.fields.read_by_proof.Goals as goal

pub returns : goal.returns
returns c = rw c.zip.ensures (two_read IsPublicKey AreBytes spell_base64 spell_base64 _ _ _ _ _ (λ k _. key_word k) c.in-Some.ensures.some.0 c.in-Some.ensures.some.1 c.read.ensures c.in_ok-proof.ensures)
