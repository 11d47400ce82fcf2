-- The text of a proof file, and what a proof is: it signs who comes in, by a leaf of an invitation's key.
use Rattle.std.specs.Prelude.{ℕ, List, [], ◌∷◌, ◌++◌, codes, IsTrue}
use Rattle.tg_text.specs.Spelling.{line_of, AreBytes, IsPublicKey}
use Rattle.acts.specs.ProofText.{Admission, IsAdmission, proof_body}
use Rattle.lms_tree.specs.Verifying.{verifies}
use Rattle.invitations.specs.declared.proof.Proof.{Proof}
use Rattle.invitations.specs.declared.token.Token.{Token}
use Rattle.invitations.specs.FileLines.{team_line, kind_line, user_line, key_line, seal_line, by_line, sign_line}
use Rattle.invitations.specs.TokenText.{signature_by}

-- Who comes in, and where.
abbrev pub admission_of : Proof → Admission
admission_of p = record { team = p.team; kind = p.kind; user = p.user; key = p.key; seal = p.seal }

-- The lines of the proof body after its first stand here too.
abbrev pub proof_text : Proof → List ℕ
proof_text p =
    line_of (codes "team-proof-file" ∷ codes "1" ∷ []) ++ team_line p.team ++ kind_line p.kind ++ user_line p.user ++ key_line p.key
    ++ seal_line p.seal ++ by_line p.by ++ sign_line p.signature

-- The signature verifies over the proof body under the invitation's key.
abbrev pub IsSigned : Proof → Type 0
IsSigned p = IsTrue (verifies p.by (proof_body (admission_of p)) p.signature)

-- A proof: its fields are in their ranges, and its signature verifies.
pub record IsProof (p : Proof) : Type 0 where
  pub admission : IsAdmission (admission_of p)
  pub by : IsPublicKey p.by
  pub signature : AreBytes p.signature
  pub signed : IsSigned p

-- The proof by a token, of a user with this key and seal.
abbrev pub proof_by : Token → List ℕ → List ℕ → List ℕ → Proof
proof_by t user key seal = record {
  team = t.team;
  kind = t.kind;
  user = user;
  key = key;
  seal = seal;
  by = t.public;
  signature = signature_by t (proof_body (record { team = t.team; kind = t.kind; user = user; key = key; seal = seal }));
}
