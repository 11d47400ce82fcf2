-- A proof and what its text is read into.
use Rattle.std.proofs.Common.{◌≡◌, ℕ, List, [], ◌∷◌, ◌++◌, codes, refl, append_assoc}
use Rattle.tg_text.specs.Spelling.{line_of}
use Rattle.invitations.specs.declared.proof.Proof.{Proof}
use Rattle.invitations.specs.FileLines.{team_line, kind_line, user_line, key_line, seal_line, by_line, sign_line}
use Rattle.invitations.specs.Parts.{ProofParts, AreOfProof, made_proof, of_proof_text, proof_parts}
use Rattle.invitations.specs.ProofFile.{IsProof, IsSigned, proof_text}
use Rattle.invitations.proofs.PartLaws.{IsMadeOf}

same_text : (a b c d e f g h : List ℕ) → a ++ ((b ++ (c ++ d)) ++ ((e ++ f) ++ (g ++ h))) ≡ a ++ b ++ c ++ d ++ e ++ f ++ g ++ h
same_text a b c d e f g h = simp append_assoc

text_parts : (p : Proof) → of_proof_text (proof_parts p) ≡ proof_text p
text_parts p =
    same_text (line_of (codes "team-proof-file" ∷ codes "1" ∷ [])) (team_line p.team) (kind_line p.kind) (user_line p.user) (key_line p.key) (seal_line p.seal) (by_line p.by)
    (sign_line p.signature)

pub proof_made : IsMadeOf AreOfProof of_proof_text IsProof proof_text made_proof proof_parts
proof_made = record {
  again = λ p. refl;
  range = λ p is. ((is.admission.team, (tt, is.admission.user)), ((is.admission.key, is.admission.seal), (is.by, is.signature)));
  text = text_parts;
  made_text = λ p. text_parts (made_proof p);
}

pub proof_of : (p : ProofParts) → AreOfProof p → IsSigned (made_proof p) → IsProof (made_proof p)
proof_of p are signed = record {
  admission = record { team = are.0.0; user = are.0.1.1; key = are.1.0.0; seal = are.1.0.1 };
  by = are.1.1.0;
  signature = are.1.1.1;
  signed = signed;
}
