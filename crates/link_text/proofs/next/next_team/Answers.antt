use Rattle.std.proofs.Common.{codes}
use Rattle.link_text.specs.LinkText.{IsTeam, team_field}
use Rattle.link_text.proofs.Texts.{team_lacks}
use Rattle.link_text.proofs.Lines.{takes}
use Rattle.link_text.proofs.next.next_team.Goals as goal

pub returns : goal.returns
returns c = rw c.ok_or.ensures.value (takes IsTeam team_field (codes "team") c.in_ok-field.field.now c.args.lines.now c.next_field.new.lines c.read_team.result
    (team_lacks) c.in_ok-field.ensures.ok c.read_team.ensures)
