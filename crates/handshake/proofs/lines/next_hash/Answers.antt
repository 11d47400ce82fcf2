use Rattle.std.proofs.Common.{refl}
use Rattle.tg_text.specs.Spelling.{IsHash, spell_hex}
use Rattle.tg_text.proofs.FieldLaws.{hex_lacks}
use Rattle.tg_text.proofs.FieldLines.{takes}
use Rattle.handshake.proofs.lines.next_hash.Goals as goal

pub returns : goal.returns
returns c = takes IsHash spell_hex c.args.word.now c.in_ok-field.field.now c.args.lines.now c.take_field.new.self c.read_hex32.result
    (λ hash is. hex_lacks 10 hash refl) c.in_ok-field.ensures.some c.read_hex32.ensures
