use Rattle.std.proofs.Common.{codes}
use Rattle.tg_text.proofs.FieldLines.{takes, takes_none}
use Rattle.handshake.specs.Messages.{kind_word}
use Rattle.handshake.specs.declared.message.Kind.{Kind}
use Rattle.handshake.proofs.Texts.{kind_lacks}
use Rattle.handshake.proofs.lines.next_kind.Goals as goal

pub returns : goal.returns
returns c = takes (λ (k : Kind). Unit {0}) kind_word (codes "team-greet 1") c.in_ok-field.field.now c.args.lines.now c.take_field.new.self c.read_kind.result
    (λ k is. kind_lacks k) c.in_ok-field.ensures.some c.read_kind.ensures

pub returns-in_err-field : goal.returns-in_err-field
returns-in_err-field c = rw c.from_residual.ensures (takes_none (λ (k : Kind). Unit {0}) kind_word (codes "team-greet 1") c.args.lines.now c.take_field.new.self c.in_err-field.ensures.none)
