use Rattle.std.proofs.Common.{sym, ◌∙◌}
use Rattle.tg_text.proofs.FieldLines.{no_end, no_space}
use Rattle.tg_text.proofs.lines.Lines.take_field.Goals as goal

pub returns-in_err-rest-clause-none : goal.returns-in_err-rest-clause-none
returns-in_err-rest-clause-none c = rw c.from_residual-in_err-rest.ensures
    (no_space c.args.word.now c.args.self.now c.in_ok-spaced.spaced.now (sym c.self.view_is ∙ c.in_ok-spaced.ensures) c.in_err-rest.ensures)

pub returns-in_err-field-clause-none : goal.returns-in_err-field-clause-none
returns-in_err-field-clause-none c = rw c.from_residual-in_err-field.ensures
    (no_end c.args.word.now c.args.self.now c.in_ok-spaced.spaced.now c.in_ok-rest.rest.now (sym c.self.view_is ∙ c.in_ok-spaced.ensures) c.in_ok-rest.ensures c.in_err-field.ensures.none)
