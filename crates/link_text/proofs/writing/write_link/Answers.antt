use Rattle.std.proofs.Common.{◌≡◌, flat_map, refl, ◌∙◌}
use Rattle.tg_text.specs.Spelling.{line_of}
use Rattle.link_text.specs.LinkText.{first_line, team_line, user_line, key_line, time_line, act_line, new_line, box_line, body}
use Rattle.link_text.proofs.Written.{body_lines}
use Rattle.link_text.proofs.writing.write_link.Goals as goal

pub returns : goal.returns
returns c =
    let l = c.args.link.now in
    let whole : c.write_entry.new.out ≡ body l = body_lines (line_of first_line) (team_line l.team) (user_line l.entry.user) (key_line l.key) (time_line l.entry.time) (act_line l.entry.act)
    (flat_map new_line l.entry.lines.news) (flat_map box_line l.entry.lines.boxes) c.new-out.result c.write_head.new.out c.write_entry.new.out c.as_slice.result.now l.prev c.new-out.ensures
    c.as_slice.ensures c.in_ok-write_head.ensures c.in_ok-write_entry.ensures in
    c.in_ok-write_base64_line.ensures.ok ∙ rw (whole, c.as_slice-2.ensures) refl
