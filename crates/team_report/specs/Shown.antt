-- What is shown of a team: its state, and how many links are held, wait and count. The words of private contracts.
use Rattle.std.specs.Prelude.{ℕ, List, [], ◌∷◌, ◌++◌, codes}
use Rattle.team_sets.specs.Names.{Name}
use Rattle.tg_text.specs.Spelling.{line_of}
use Rattle.team_model.specs.ShowText.{state_lines}
use Rattle.team_model.specs.State.{State}
use Rattle.team_report.specs.declared.show.Counts.{Counts}
use Rattle.team_report.specs.Lines.{team_line, title_line, links_line}

abbrev pub shown : Name → Counts → State → List ℕ
shown t counts s =
    team_line t ++ title_line s.title ++ links_line counts ++ state_lines s ++ line_of (codes "end" ∷ [])
