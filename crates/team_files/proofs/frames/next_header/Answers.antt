use Rattle.std.proofs.Common.{sym, ◌∙◌}
use Rattle.team_files.proofs.Lines.{header_line}
use Rattle.team_files.proofs.frames.next_header.Goals as goal

pub returns-clause-only : goal.returns-clause-only
returns-clause-only c = λ team rest is e.
    let line = header_line c.in_ok-line.line.now c.next_line.new.self team rest c.in_ok-line.ensures.some.0 (sym c.in_ok-line.ensures.some.1 ∙ e) in
    (c.read_header.ensures.only team is line.0, line.1)
