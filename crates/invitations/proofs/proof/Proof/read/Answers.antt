use Rattle.invitations.specs.Parts.{AreOfProof, made_proof, of_proof_text, proof_parts}
use Rattle.invitations.specs.ProofFile.{IsProof, proof_text}
use Rattle.invitations.proofs.PartLaws.{in_range, reads_chosen}
use Rattle.invitations.proofs.ProofLaws.{proof_made}
use Rattle.invitations.proofs.proof.Proof.read.Goals as goal

pub proof_in-requires : goal.proof_in-requires
proof_in-requires c = in_range AreOfProof of_proof_text c.args.bytes.now c.in_ok-found.found c.in_ok-found.ensures

pub returns : goal.returns
returns c = reads_chosen AreOfProof of_proof_text IsProof proof_text made_proof proof_parts c.args.bytes.now c.in_ok-found.found c.in_ok-proof.proof proof_made c.in_ok-found.ensures c.in_ok-proof.ensures
