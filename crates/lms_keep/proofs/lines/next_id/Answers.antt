use Rattle.std.proofs.Common.{codes, refl}
use Rattle.tg_text.specs.Spelling.{spell_hex}
use Rattle.tg_text.proofs.FieldLaws.{hex_lacks}
use Rattle.lms_keep.specs.KeyText.{IsId}
use Rattle.tg_text.proofs.FieldLines.{takes}
use Rattle.lms_keep.proofs.lines.next_id.Goals as goal

pub returns : goal.returns
returns c = takes IsId spell_hex (codes "id") c.in_ok-field.field.now c.args.lines.now c.take_field.new.self c.read_id.result
    (λ id is. hex_lacks 10 id refl) c.in_ok-field.ensures.some c.read_id.ensures
