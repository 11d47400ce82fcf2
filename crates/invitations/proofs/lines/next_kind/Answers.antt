use Rattle.std.proofs.Common.{codes}
use Rattle.acts.specs.ActText.{spell_kind}
use Rattle.acts.proofs.ActLaws.{kind_line}
use Rattle.tg_text.proofs.FieldLines.{takes}
use Rattle.invitations.specs.Parts.{IsKind}
use Rattle.invitations.proofs.lines.next_kind.Goals as goal

pub returns : goal.returns
returns c = takes IsKind spell_kind (codes "kind") c.in_ok-field.field.now c.args.lines.now c.take_field.new.self c.read_kind.result
    (λ kind is. kind_line kind) c.in_ok-field.ensures.some c.read_kind.ensures
