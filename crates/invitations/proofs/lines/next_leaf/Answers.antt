use Rattle.std.proofs.Common.{codes, refl, arith}
use Rattle.tg_text.specs.Spelling.{spell_decimal}
use Rattle.tg_text.proofs.FieldLaws.{decimal_lacks}
use Rattle.tg_text.proofs.FieldLines.{takes}
use Rattle.invitations.specs.Parts.{IsLeaf}
use Rattle.invitations.proofs.lines.next_leaf.Goals as goal

pub returns : goal.returns
returns c = takes IsLeaf spell_decimal (codes "leaf") c.in_ok-field.field.now c.args.lines.now c.take_field.new.self c.read_leaf.result
    (λ leaf is. decimal_lacks 10 leaf refl (omega (arith, is))) c.in_ok-field.ensures.some c.read_leaf.ensures
