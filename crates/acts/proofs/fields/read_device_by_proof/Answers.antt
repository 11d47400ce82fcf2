use Rattle.tg_text.specs.Spelling.{IsPublicKey, spell_base64}
use Rattle.acts.specs.Fields.{IsSealByProof, spell_seal_by_proof}
use Rattle.acts.proofs.Pairs.{two_read, key_word}
use Rattle.acts.proofs.fields.read_device_by_proof.Goals as goal

pub returns : goal.returns
returns c = rw c.zip.ensures (two_read IsPublicKey IsSealByProof spell_base64 spell_seal_by_proof _ _ _ _ _ (λ k _. key_word k) c.in-Some.ensures.some.0 c.in-Some.ensures.some.1 c.read.ensures c.in_ok-rest.ensures)
