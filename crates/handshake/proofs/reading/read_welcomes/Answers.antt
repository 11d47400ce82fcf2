use Rattle.std.proofs.Common.{sym, ◌∙◌}
use Rattle.handshake.proofs.Texts.{is_nil, no_welcome, welcome}
use Rattle.handshake.proofs.reading.read_welcomes.Goals as goal

pub returns-then-not-is_empty : goal.returns-then-not-is_empty
returns-then-not-is_empty c = no_welcome c.args.text.now (sym c.is_empty.ensures ∙ c.if-not-is_empty.true)

pub returns : goal.returns
returns c = welcome c.args.text.now (is_nil c.args.text.now (sym c.is_empty.ensures ∙ c.if-not-is_empty.false))
