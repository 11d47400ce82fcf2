use Rattle.handshake.proofs.Texts.{signs_taken}
use Rattle.handshake.proofs.lines.next_signature.Goals as goal

pub returns-in-Some : goal.returns-in-Some
returns-in-Some c = signs_taken c.in-Some.field.now c.args.lines.now c.take_field.new.self c.read_base64.result c.in-Some.ensures.some c.read_base64.ensures
