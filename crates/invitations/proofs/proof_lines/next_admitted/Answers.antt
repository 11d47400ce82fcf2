use Rattle.std.proofs.Common.{ℕ, List, IsTrue}
use Rattle.tg_text.specs.Spelling.{IsHash, is_user_name}
use Rattle.acts.specs.Fields.{AreTwo}
use Rattle.invitations.specs.FileLines.{team_line, kind_line, user_line}
use Rattle.invitations.specs.Parts.{IsKind, both_lines}
use Rattle.invitations.proofs.PartLaws.{takes_both}
use Rattle.invitations.proofs.proof_lines.next_admitted.Goals as goal

pub returns : goal.returns
returns c = rw (c.zip-2.ensures, c.zip.ensures) (takes_both IsHash (AreTwo IsKind (λ (user : List ℕ). IsTrue (is_user_name user))) team_line (both_lines kind_line user_line) _ _ _ _ _ c.next_team.ensures
    (takes_both IsKind (λ (user : List ℕ). IsTrue (is_user_name user)) kind_line user_line _ _ _ _ _ c.next_kind.ensures c.next_user.ensures))
