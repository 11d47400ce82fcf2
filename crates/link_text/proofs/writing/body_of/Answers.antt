use Rattle.std.proofs.Common.{flat_map}
use Rattle.tg_text.specs.Spelling.{line_of}
use Rattle.link_text.specs.LinkText.{first_line, team_line, user_line, key_line, time_line, act_line, new_line, box_line}
use Rattle.link_text.proofs.Written.{body_lines}
use Rattle.link_text.proofs.writing.body_of.Goals as goal

pub returns : goal.returns
returns c =
    let d = c.args.draft.now in
    body_lines (line_of first_line) (team_line d.team) (user_line d.entry.user) (key_line d.key) (time_line d.entry.time) (act_line d.entry.act) (flat_map new_line d.entry.lines.news)
    (flat_map box_line d.entry.lines.boxes) c.new-out.result c.write_head.new.out c.write_entry.new.out c.as_slice.result.now d.prev c.new-out.ensures c.as_slice.ensures c.in_ok-write_head.ensures
    c.in_ok-write_entry.ensures
