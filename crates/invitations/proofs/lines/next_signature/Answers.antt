use Rattle.std.proofs.Common.{codes, refl}
use Rattle.std.proofs.lemmas.Result.{IfOk-weaker}
use Rattle.tg_text.specs.Spelling.{AreBytes, spell_base64}
use Rattle.tg_text.proofs.FieldLaws.{base64_lacks}
use Rattle.tg_text.proofs.FieldLines.{takes}
use Rattle.invitations.proofs.lines.next_signature.Goals as goal

pub returns : goal.returns
returns c =
    IfOk-weaker c.read_base64.result _ _
    (λ found reads. takes AreBytes spell_base64 (codes "sign") c.in-Some.field.now c.args.lines.now c.take_field.new.self found (λ x is. base64_lacks 10 x refl refl) c.in-Some.ensures.some reads)
    c.read_base64.ensures
