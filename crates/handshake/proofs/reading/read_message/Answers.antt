use Rattle.std.proofs.Common.{rules}
use Rattle.handshake.proofs.Texts.{message_is, no_content, no_head}
use Rattle.handshake.proofs.reading.read_message.Goals as goal

pub returns-in-Some-2 : goal.returns-in-Some-2
returns-in-Some-2 c = message_is c.args.bytes.now c.new-lines.result c.next_head.new.lines c.rest.result.now c.in-Some.head c.in_ok-content.field-0 c.in-Some-2.content c.new-lines.ensures c.in-Some.ensures c.rest.ensures
    c.in_ok-content.ensures c.in-Some-2.is

pub returns-in-None : goal.returns-in-None
returns-in-None c = no_content c.args.bytes.now c.new-lines.result c.next_head.new.lines c.rest.result.now c.in-Some.head c.in_ok-content.field-0 c.new-lines.ensures c.in-Some.ensures c.rest.ensures
    c.in_ok-content.ensures c.in-None.is

pub returns-in_default : goal.returns-in_default
returns-in_default c = no_head c.args.bytes.now c.new-lines.result c.next_head.new.lines c.next_head.result c.new-lines.ensures c.next_head.ensures (search rules)
