use Rattle.std.proofs.Common.{codes, refl}
use Rattle.tg_text.specs.Spelling.{AreBytes, spell_base64}
use Rattle.tg_text.proofs.FieldLaws.{base64_lacks}
use Rattle.link_text.proofs.Lines.{takes}
use Rattle.link_text.proofs.next.next_signature.Goals as goal

pub returns : goal.returns
returns c = rw c.ok_or.ensures.value (takes AreBytes spell_base64 (codes "sign") c.in_ok-field.field.now c.args.lines.now c.next_field.new.lines c.in_ok-read_base64.field-0
    (λ bytes are. base64_lacks 10 bytes refl refl) c.in_ok-field.ensures.ok c.in_ok-read_base64.ensures)
