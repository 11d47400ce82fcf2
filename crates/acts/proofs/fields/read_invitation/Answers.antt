use Rattle.tg_text.specs.Spelling.{spell_base64, spell_decimal}
use Rattle.acts.specs.ActText.{IsInviteKey, IsTime, IsUses}
use Rattle.acts.specs.Fields.{AreTwo, spell_two}
use Rattle.acts.proofs.Pairs.{two_read, key_word}
use Rattle.acts.proofs.fields.read_invitation.Goals as goal

pub returns : goal.returns
returns c = rw c.zip.ensures (two_read IsInviteKey (AreTwo IsUses IsTime) spell_base64 (spell_two spell_decimal spell_decimal) _ _ _ _ _ (λ k _. key_word k) c.in_ok-key.ensures.some.0 c.in_ok-key.ensures.some.1 c.read_invite_key.ensures c.read_uses_expiry.ensures)
