use Rattle.std.proofs.Common.{codes}
use Rattle.lms_ots.specs.Kinds.{ots_row}
use Rattle.lms_ots.specs.declared.kind.OtsKind.TheVariants.{W4}
use Rattle.lms_tree.specs.LmsKinds.{lms_row}
use Rattle.lms_tree.specs.declared.lms_kind.LmsKind.TheVariants.{H5}
use Rattle.invitations.specs.FileLines.{hash_lines}
use Rattle.invitations.specs.TokenText.{AreHashes}
use Rattle.invitations.proofs.PartLaws.{takes_both}
use Rattle.invitations.proofs.token_lines.next_nodes.Goals as goal

pub returns : goal.returns
returns c = rw c.zip.ensures (takes_both (AreHashes (ots_row W4).p) (AreHashes (lms_row H5).h) (hash_lines (codes "x")) (hash_lines (codes "path")) _ _ _ _ _ c.in_ok-secrets.ensures c.in_ok-path.ensures)
