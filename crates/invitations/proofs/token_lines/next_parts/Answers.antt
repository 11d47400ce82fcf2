use Rattle.acts.specs.Fields.{AreTwo}
use Rattle.invitations.specs.Parts.{AreInvited, AreOfLeaf, AreNodes, both_lines, invited_lines, of_leaf_lines, nodes_lines}
use Rattle.invitations.proofs.PartLaws.{takes_both}
use Rattle.invitations.proofs.token_lines.next_parts.Goals as goal

pub returns : goal.returns
returns c = rw (c.zip-2.ensures, c.zip.ensures) (takes_both AreInvited (AreTwo AreOfLeaf AreNodes) invited_lines (both_lines of_leaf_lines nodes_lines) _ _ _ _ _ c.next_invited-invited.ensures
    (takes_both AreOfLeaf AreNodes of_leaf_lines nodes_lines _ _ _ _ _ c.next_of_leaf-of_leaf.ensures c.in_ok-nodes.ensures))
