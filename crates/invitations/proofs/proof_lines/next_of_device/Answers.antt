use Rattle.tg_text.specs.Spelling.{IsHash, IsPublicKey}
use Rattle.invitations.specs.FileLines.{key_line, seal_line}
use Rattle.invitations.proofs.PartLaws.{takes_both}
use Rattle.invitations.proofs.proof_lines.next_of_device.Goals as goal

pub returns : goal.returns
returns c = rw c.zip.ensures (takes_both IsPublicKey IsHash key_line seal_line _ _ _ _ _ c.next_key.ensures c.next_hash.ensures)
