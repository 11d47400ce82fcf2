use Rattle.std.proofs.Common.{codes}
use Rattle.acts.specs.ActText.{IsActInRange, spell_act}
use Rattle.acts.proofs.ActLaws.{act_lacks}
use Rattle.link_text.proofs.Lines.{takes}
use Rattle.link_text.proofs.next.next_act.Goals as goal

pub returns : goal.returns
returns c = rw c.ok_or.ensures.value (takes IsActInRange spell_act (codes "act") c.in_ok-field.field.now c.args.lines.now c.next_field.new.lines c.in_ok-read.field-0
    (act_lacks) c.in_ok-field.ensures.ok c.in_ok-read.ensures)
