use Rattle.std.proofs.Common.{codes, refl}
use Rattle.tg_text.specs.Spelling.{IsHash, spell_hex}
use Rattle.tg_text.proofs.FieldLaws.{hex_lacks}
use Rattle.tg_text.proofs.FieldLines.{takes}
use Rattle.head_sync.proofs.reading.next_team.Goals as goal

pub returns : goal.returns
returns c =
    takes IsHash (λ n. spell_hex n) (codes "team") c.in_ok-field.field.now c.args.lines.now c.take_field.new.self c.read_name.result (λ n is. hex_lacks 10 n refl) c.in_ok-field.ensures.some
    c.read_name.ensures
