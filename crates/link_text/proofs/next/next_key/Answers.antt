use Rattle.std.proofs.Common.{codes, refl}
use Rattle.tg_text.specs.Spelling.{IsPublicKey, spell_base64}
use Rattle.tg_text.proofs.FieldLaws.{base64_lacks}
use Rattle.link_text.proofs.Lines.{takes}
use Rattle.link_text.proofs.next.next_key.Goals as goal

pub returns : goal.returns
returns c = rw c.ok_or.ensures.value (takes IsPublicKey spell_base64 (codes "key") c.in_ok-field.field.now c.args.lines.now c.next_field.new.lines c.read.result
    (λ key is. base64_lacks 10 key refl refl) c.in_ok-field.ensures.ok c.read.ensures)
