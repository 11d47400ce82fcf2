use Rattle.tg_text.specs.Spelling.{IsHash}
use Rattle.acts.specs.Fields.{AreTwo}
use Rattle.invitations.specs.FileLines.{key_line, leaf_line, random_line}
use Rattle.invitations.specs.Parts.{IsLeaf, both_lines}
use Rattle.invitations.specs.TokenText.{IsInvitation}
use Rattle.invitations.proofs.PartLaws.{takes_both}
use Rattle.invitations.proofs.token_lines.next_of_leaf.Goals as goal

pub returns : goal.returns
returns c = rw (c.zip-2.ensures, c.zip.ensures) (takes_both IsInvitation (AreTwo IsLeaf IsHash) key_line (both_lines leaf_line random_line) _ _ _ _ _ c.next_invitation.ensures
    (takes_both IsLeaf IsHash leaf_line random_line _ _ _ _ _ c.next_leaf.ensures c.next_hash.ensures))
