use Rattle.tg_text.specs.Spelling.{AreBytes, IsPublicKey}
use Rattle.invitations.specs.FileLines.{by_line, sign_line}
use Rattle.invitations.proofs.PartLaws.{takes_both}
use Rattle.invitations.proofs.proof_lines.next_signed.Goals as goal

pub returns : goal.returns
returns c = rw c.zip.ensures (takes_both IsPublicKey AreBytes by_line sign_line _ _ _ _ _ c.next_key-by.ensures c.in_ok-signature.ensures)
