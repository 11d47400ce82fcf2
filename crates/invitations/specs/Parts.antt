-- The lines of a file, one part after another. Only private contracts cite it.
use Rattle.std.specs.Prelude.{◌≡◌, ◌≢◌, ℕ, ◌<◌, List, [], ◌∷◌, ◌++◌, Option, None, Some, codes, IfNone, IfSome, IsTrue}
use Rattle.tg_text.specs.Spelling.{line_of, is_user_name, AreBytes, IsHash, IsPublicKey}
use Rattle.acts.specs.Fields.{AreTwo}
use Rattle.acts.specs.declared.entry.InviteKind.{InviteKind}
use Rattle.lms_ots.specs.Kinds.{ots_row}
use Rattle.lms_ots.specs.declared.kind.OtsKind.TheVariants.{W4}
use Rattle.lms_tree.specs.LmsKinds.{lms_row, leaves_of}
use Rattle.lms_tree.specs.declared.lms_kind.LmsKind.TheVariants.{H5}
use Rattle.invitations.specs.declared.proof.Proof.{Proof}
use Rattle.invitations.specs.declared.token.Token.{Token}
use Rattle.invitations.specs.declared.token_file.TokenFile.{TokenFile}
use Rattle.invitations.specs.declared.token_file.TokenFile.TheVariants.{Fresh}
use Rattle.invitations.specs.FileLines.{team_line, kind_line, user_field, user_line, key_line, leaf_line, random_line, seal_line, by_line, sign_line, hash_lines}
use Rattle.invitations.specs.TokenText.{AreHashes, IsInvitation}

-- Two parts, one after the other.
abbrev pub both_lines : {X Y : Type 0} → (X → List ℕ) → (Y → List ℕ) → X × Y → List ℕ
both_lines spell spell_next p = spell p.0 ++ spell_next p.1

-- What is made of the parts that were found, where they are those of such a value.
pub record Chooses {X Y : Type 0} (IsY : Y → Type 0) (parts : Y → X) (found : Option X) (chosen : Option Y) : Type 0 where
  pub some : IfSome chosen (λ y. IsY y × (found ≡ Some (parts y)))
  pub none : IfNone chosen ((y : Y) → IsY y → found ≢ Some (parts y))

-- The kind of an invitation has no range of its own.
abbrev pub IsKind : InviteKind → Type 0
IsKind kind = Unit {0}

-- A user's name, where one is named.
abbrev pub IsUserIfAny : Option (List ℕ) → Type 0
IsUserIfAny user = IfSome user (λ name. IsTrue (is_user_name name))

abbrev pub user_if_any_line : Option (List ℕ) → List ℕ
user_if_any_line user = user_line (user_field user)

-- The leaf of a token.
abbrev pub IsLeaf : ℕ → Type 0
IsLeaf leaf = leaf < leaves_of H5

-- The team of an invitation, its kind, and whose device it is for.
abbrev pub AreInvited : List ℕ × (InviteKind × Option (List ℕ)) → Type 0
AreInvited p = AreTwo IsHash (AreTwo IsKind IsUserIfAny) p

abbrev pub invited_lines : List ℕ × (InviteKind × Option (List ℕ)) → List ℕ
invited_lines p = both_lines team_line (both_lines kind_line user_if_any_line) p

-- The key of an invitation, a leaf of it, and the leaf's randomizer.
abbrev pub AreOfLeaf : List ℕ × (ℕ × List ℕ) → Type 0
AreOfLeaf p = AreTwo IsInvitation (AreTwo IsLeaf IsHash) p

abbrev pub of_leaf_lines : List ℕ × (ℕ × List ℕ) → List ℕ
of_leaf_lines p = both_lines key_line (both_lines leaf_line random_line) p

-- The private elements of a leaf, and its path.
abbrev pub AreNodes : List (List ℕ) × List (List ℕ) → Type 0
AreNodes p = AreTwo (AreHashes (ots_row W4).p) (AreHashes (lms_row H5).h) p

abbrev pub nodes_lines : List (List ℕ) × List (List ℕ) → List ℕ
nodes_lines p = both_lines (hash_lines (codes "x")) (hash_lines (codes "path")) p

-- The parts of a token, in the order of its text.
abbrev pub TokenParts : Type 0
TokenParts = (List ℕ × (InviteKind × Option (List ℕ))) × ((List ℕ × (ℕ × List ℕ)) × (List (List ℕ) × List (List ℕ)))

abbrev pub token_parts : Token → TokenParts
token_parts t = ((t.team, (t.kind, t.user)), ((t.public, (t.leaf, t.random)), (t.secrets, t.path)))

abbrev pub made_token : TokenParts → Token
made_token p = record {
  team = p.0.0;
  kind = p.0.1.0;
  user = p.0.1.1;
  public = p.1.0.0;
  leaf = p.1.0.1.0;
  random = p.1.0.1.1;
  secrets = p.1.1.0;
  path = p.1.1.1;
}

-- All of a token.
abbrev pub AreOfToken : TokenParts → Type 0
AreOfToken p = AreTwo AreInvited (AreTwo AreOfLeaf AreNodes) p

abbrev pub of_token_lines : TokenParts → List ℕ
of_token_lines p = both_lines invited_lines (both_lines of_leaf_lines nodes_lines) p

abbrev pub of_token_text : TokenParts → List ℕ
of_token_text p = line_of (codes "team-token" ∷ codes "1" ∷ []) ++ of_token_lines p

-- The team of a proof, the kind of its invitation, and who comes in.
abbrev pub AreAdmitted : List ℕ × (InviteKind × List ℕ) → Type 0
AreAdmitted p = AreTwo IsHash (AreTwo IsKind (λ user. IsTrue (is_user_name user))) p

abbrev pub admitted_lines : List ℕ × (InviteKind × List ℕ) → List ℕ
admitted_lines p = both_lines team_line (both_lines kind_line user_line) p

-- The key and the seal of who comes in.
abbrev pub AreOfDevice : List ℕ × List ℕ → Type 0
AreOfDevice p = AreTwo IsPublicKey IsHash p

abbrev pub of_device_lines : List ℕ × List ℕ → List ℕ
of_device_lines p = both_lines key_line seal_line p

-- The key of an invitation, and a signature.
abbrev pub AreSigned : List ℕ × List ℕ → Type 0
AreSigned p = AreTwo IsPublicKey AreBytes p

abbrev pub signed_lines : List ℕ × List ℕ → List ℕ
signed_lines p = both_lines by_line sign_line p

-- The parts of a proof, in the order of its text.
abbrev pub ProofParts : Type 0
ProofParts = (List ℕ × (InviteKind × List ℕ)) × ((List ℕ × List ℕ) × (List ℕ × List ℕ))

abbrev pub proof_parts : Proof → ProofParts
proof_parts p = ((p.team, (p.kind, p.user)), ((p.key, p.seal), (p.by, p.signature)))

abbrev pub made_proof : ProofParts → Proof
made_proof p = record {
  team = p.0.0;
  kind = p.0.1.0;
  user = p.0.1.1;
  key = p.1.0.0;
  seal = p.1.0.1;
  by = p.1.1.0;
  signature = p.1.1.1;
}

-- All of a proof but that its signature verifies.
abbrev pub AreOfProof : ProofParts → Type 0
AreOfProof p = AreTwo AreAdmitted (AreTwo AreOfDevice AreSigned) p

abbrev pub of_proof_lines : ProofParts → List ℕ
of_proof_lines p = both_lines admitted_lines (both_lines of_device_lines signed_lines) p

abbrev pub of_proof_text : ProofParts → List ℕ
of_proof_text p = line_of (codes "team-proof-file" ∷ codes "1" ∷ []) ++ of_proof_lines p

-- A token that was found is the content of its file.
abbrev pub file_of : Option Token → Option TokenFile
file_of None = None
file_of (Some t) = Some (Fresh t)
