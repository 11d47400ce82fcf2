use Rattle.std.proofs.Common.{codes, refl}
use Rattle.tg_text.specs.Spelling.{IsPublicKey, spell_base64}
use Rattle.tg_text.proofs.FieldLaws.{base64_lacks}
use Rattle.tg_text.proofs.FieldLines.{takes}
use Rattle.handshake.proofs.lines.next_key.Goals as goal

pub returns : goal.returns
returns c = takes IsPublicKey spell_base64 (codes "key") c.in_ok-field.field.now c.args.lines.now c.take_field.new.self c.read.result
    (λ key is. base64_lacks 10 key refl refl) c.in_ok-field.ensures.some c.read.ensures
