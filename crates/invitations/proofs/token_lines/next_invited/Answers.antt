use Rattle.tg_text.specs.Spelling.{IsHash}
use Rattle.acts.specs.Fields.{AreTwo}
use Rattle.invitations.specs.FileLines.{team_line, kind_line}
use Rattle.invitations.specs.Parts.{IsKind, IsUserIfAny, both_lines, user_if_any_line}
use Rattle.invitations.proofs.PartLaws.{takes_both}
use Rattle.invitations.proofs.token_lines.next_invited.Goals as goal

pub returns : goal.returns
returns c = rw (c.zip-2.ensures, c.zip.ensures) (takes_both IsHash (AreTwo IsKind IsUserIfAny) team_line (both_lines kind_line user_if_any_line) _ _ _ _ _ c.next_team.ensures
    (takes_both IsKind IsUserIfAny kind_line user_if_any_line _ _ _ _ _ c.next_kind.ensures c.next_user_if_any.ensures))
