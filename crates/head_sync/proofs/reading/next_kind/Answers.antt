use Rattle.std.proofs.Common.{codes}
use Rattle.tg_text.proofs.FieldLines.{takes, takes_none}
use Rattle.head_sync.specs.Bodies.{IsAnyKind, word_of}
use Rattle.head_sync.proofs.KindWords.{word_lacks}
use Rattle.head_sync.proofs.reading.next_kind.Goals as goal

pub returns-in_err-field : goal.returns-in_err-field
returns-in_err-field c = rw c.from_residual.ensures (takes_none IsAnyKind word_of (codes "team-sync 1") c.args.lines.now c.take_field.new.self c.in_err-field.ensures.none)

pub returns : goal.returns
returns c =
    takes IsAnyKind word_of (codes "team-sync 1") c.in_ok-field.field.now c.args.lines.now c.take_field.new.self c.read_kind.result (λ k is. word_lacks k) c.in_ok-field.ensures.some
    c.read_kind.ensures
