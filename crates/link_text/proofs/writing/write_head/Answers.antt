use Rattle.std.proofs.Common.{flat_map}
use Rattle.std.proofs.lemmas.Result.{on_ok_weaker}
use Rattle.tg_text.specs.Spelling.{line_of}
use Rattle.link_text.specs.LinkText.{first_line, team_line, prev_line}
use Rattle.link_text.proofs.Written.{head_lines}
use Rattle.link_text.proofs.writing.write_head.Goals as goal

pub returns : goal.returns
returns c = on_ok_weaker c.write_parents.result
    (head_lines c.args.out.now (line_of first_line) (team_line c.args.team.now) (flat_map prev_line c.args.prev.now) c.append.new.self c.write_team.new.out c.write_parents.new.out
    c.in_ok-append.ensures.ok c.in_ok-write_team.ensures) c.write_parents.ensures
