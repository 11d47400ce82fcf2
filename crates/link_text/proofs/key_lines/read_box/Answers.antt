use Rattle.link_text.proofs.Boxes.{read_none, read_some}
use Rattle.link_text.proofs.key_lines.read_box.Goals as goal

pub returns-in-Some : goal.returns-in-Some
returns-in-Some c = rw c.box_of.ensures (read_some c.args.field.now c.in_ok-parts.field-0 c.in-Some.parts c.in-Some.is c.in_ok-parts.ensures)

pub returns-in-None : goal.returns-in-None
returns-in-None c = read_none c.args.field.now c.in_ok-parts.field-0 c.in-None.is c.in_ok-parts.ensures
