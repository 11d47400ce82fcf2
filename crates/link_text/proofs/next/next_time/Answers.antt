use Rattle.std.proofs.Common.{ℕ, ◌<◌, ◌^◌, codes, refl}
use Rattle.tg_text.specs.Spelling.{spell_decimal}
use Rattle.tg_text.proofs.FieldLaws.{decimal_lacks}
use Rattle.link_text.proofs.Lines.{takes}
use Rattle.link_text.proofs.next.next_time.Goals as goal

pub returns : goal.returns
returns c = rw c.ok_or.ensures.value (takes (λ (time : ℕ). time < 2 ^ 64) spell_decimal (codes "time") c.in_ok-field.field.now c.args.lines.now c.next_field.new.lines c.read_decimal.result
    (λ time is. decimal_lacks 10 time refl is) c.in_ok-field.ensures.ok c.read_decimal.ensures)
