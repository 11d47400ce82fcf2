use Rattle.std.proofs.Common.{codes}
use Rattle.tg_text.proofs.FieldLines.{takes}
use Rattle.invitations.specs.FileLines.{user_field}
use Rattle.invitations.specs.Parts.{IsUserIfAny}
use Rattle.invitations.proofs.UserFields.{user_lacks}
use Rattle.invitations.proofs.lines.next_user_if_any.Goals as goal

pub returns : goal.returns
returns c = takes IsUserIfAny user_field (codes "user") c.in_ok-field.field.now c.args.lines.now c.take_field.new.self c.read_user_if_any.result
    (λ user is. user_lacks user is) c.in_ok-field.ensures.some c.read_user_if_any.ensures
