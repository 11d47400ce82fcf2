use Rattle.std.proofs.Common.{◌≡◌, false, sym, ap, ◌∙◌, subst, true≢false}
use Rattle.std.specs.Option.{is_some}
use Rattle.tg_text.specs.Spelling.{has_newline}
use Rattle.team_files.specs.Bundles.{IsBad, IsFront}
use Rattle.team_files.proofs.Lines.{some_none}
use Rattle.team_files.proofs.ItemTexts.{bad_line, bad_open, some_bad}
use Rattle.team_files.proofs.first.first_of.Goals as goal

pub returns-else-is_line_front : goal.returns-else-is_line_front
returns-else-is_line_front c =
    let none = subst (λ l. has_newline l ≡ false) c.new-lines.ensures c.in_default.ensures.none.0 in
    let isnt : IsFront c.args.bytes.now → ⊥ = λ front. true≢false (sym ((c.is_line_front.ensures none).1 front) ∙ c.if-is_line_front.false) in
    bad_open c.args.bytes.now none isnt (some_bad c.args.bytes.now isnt)

pub returns-in-None : goal.returns-in-None
returns-in-None c =
    subst IsBad (sym c.in-Some.ensures.some.1 ∙ c.new-lines.ensures)
    (bad_line c.in-Some.line.now c.next_line.new.self c.in-Some.ensures.some.0
    (λ team is e. true≢false (sym (c.is_some.ensures ∙ ap is_some (c.read_header.ensures.only team is e)) ∙ c.if-is_some.false))
    (λ n small e. some_none _ _ (c.read_short_length.ensures.only n small e) c.in-None.is))
