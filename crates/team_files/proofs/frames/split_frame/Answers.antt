use Rattle.std.proofs.Common.{sym, ◌∙◌}
use Rattle.team_files.proofs.Lines.{frame_line, some_none, some_some, too_long, front_is, back_is}
use Rattle.team_files.proofs.frames.split_frame.Goals as goal

pub returns-in_err-length-clause-only : goal.returns-in_err-length-clause-only
returns-in_err-length-clause-only c = λ inner rest small e.
    let line = frame_line c.in_ok-line.line.now c.next_line.new.self inner rest small c.in_ok-line.ensures.some.0 (sym c.in_ok-line.ensures.some.1 ∙ c.new-lines.ensures ∙ e) in
    absurd (some_none _ _ (c.read_length.ensures.only _ small line.0) c.in_err-length.was)

pub returns-then-length-rest-clause-only : goal.returns-then-length-rest-clause-only
returns-then-length-rest-clause-only c = λ inner rest small e.
    let line = frame_line c.in_ok-line.line.now c.next_line.new.self inner rest small c.in_ok-line.ensures.some.0 (sym c.in_ok-line.ensures.some.1 ∙ c.new-lines.ensures ∙ e) in
    let long = some_some _ _ _ (c.read_length.ensures.only _ small line.0) c.in_ok-length.was in
    too_long _ _ inner rest long (c.rest-rest.ensures ∙ line.1) c.if-length-rest.true

pub returns-clause-only : goal.returns-clause-only
returns-clause-only c = λ inner rest small e.
    let line = frame_line c.in_ok-line.line.now c.next_line.new.self inner rest small c.in_ok-line.ensures.some.0 (sym c.in_ok-line.ensures.some.1 ∙ c.new-lines.ensures ∙ e) in
    let long = some_some _ _ _ (c.read_length.ensures.only _ small line.0) c.in_ok-length.was in
    let left = c.rest-rest.ensures ∙ line.1 in
    (c.split_at.ensures.front ∙ front_is _ _ inner rest long left, c.split_at.ensures.back ∙ back_is _ _ inner rest long left)
