use Rattle.std.proofs.Common.{codes}
use Rattle.tg_text.proofs.FieldLines.{takes}
use Rattle.handshake.specs.Messages.{IsNamed, spell_fault}
use Rattle.handshake.proofs.Texts.{fault_lacks}
use Rattle.handshake.proofs.lines.next_fault.Goals as goal

pub returns : goal.returns
returns c = takes IsNamed spell_fault (codes "fault") c.in_ok-field.field.now c.args.lines.now c.take_field.new.self c.read_fault.result
    (λ fault is. fault_lacks fault) c.in_ok-field.ensures.some c.read_fault.ensures
