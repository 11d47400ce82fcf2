use Rattle.std.proofs.Common.{codes}
use Rattle.tg_text.proofs.FieldLines.{takes}
use Rattle.head_sync.specs.Bodies.{IsAnyMore}
use Rattle.head_sync.specs.Messages.{more_word}
use Rattle.head_sync.proofs.ReadOnce.{more_lacks}
use Rattle.head_sync.proofs.reading.next_more.Goals as goal

pub returns : goal.returns
returns c =
    takes IsAnyMore more_word (codes "more") c.in_ok-field.field.now c.args.lines.now c.take_field.new.self c.read_more.result (λ b is. more_lacks b) c.in_ok-field.ensures.some
    c.read_more.ensures
