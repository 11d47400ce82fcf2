use Rattle.std.proofs.Common.{codes, refl}
use Rattle.tg_text.specs.Spelling.{spell_base64}
use Rattle.tg_text.proofs.FieldLaws.{base64_lacks}
use Rattle.tg_text.proofs.FieldLines.{takes}
use Rattle.invitations.specs.TokenText.{IsInvitation}
use Rattle.invitations.proofs.lines.next_invitation.Goals as goal

pub returns : goal.returns
returns c = takes IsInvitation spell_base64 (codes "key") c.in_ok-field.field.now c.args.lines.now c.take_field.new.self c.read_invitation.result
    (λ key is. base64_lacks 10 key refl refl) c.in_ok-field.ensures.some c.read_invitation.ensures
