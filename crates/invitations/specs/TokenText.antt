-- The text of a token file, and what a token is: it signs with one leaf of an invitation's key, and with no other.
use Rattle.std.specs.Prelude.{◌≡◌, ◌<◌, ℕ, List, [], ◌∷◌, ◌++◌, Option, None, Some, length, codes, IfSome, IsTrue}
use Rattle.std.specs.List.{AllByRecursion}
use Rattle.tg_text.specs.Spelling.{line_of, is_user_name, AreBytes, IsHash}
use Rattle.acts.specs.declared.entry.InviteKind.{InviteKind}
use Rattle.acts.specs.declared.entry.InviteKind.TheVariants.{Member, Device}
use Rattle.lms_ots.specs.declared.kind.OtsKind.TheVariants.{W4}
use Rattle.lms_ots.specs.Kinds.{ots_row}
use Rattle.lms_ots.specs.Ots.{ots_key, ots_signature}
use Rattle.lms_tree.specs.declared.lms_kind.LmsKind.TheVariants.{H5}
use Rattle.lms_tree.specs.LmsKinds.{lms_row, leaves_of}
use Rattle.lms_tree.specs.Laws.{IsKeyOf}
use Rattle.lms_tree.specs.Signatures.{joined}
use Rattle.lms_tree.specs.Verifying.{id_in, root_in, root_over}
use Rattle.invitations.specs.declared.token.Token.{Token}
use Rattle.invitations.specs.declared.token_file.TokenFile.{TokenFile}
use Rattle.invitations.specs.declared.token_file.TokenFile.TheVariants.{Fresh, Used}
use Rattle.invitations.specs.FileLines.{team_line, kind_line, user_field, user_line, key_line, leaf_line, random_line, hash_lines}

abbrev pub token_text : Token → List ℕ
token_text t =
    line_of (codes "team-token" ∷ codes "1" ∷ []) ++ team_line t.team ++ kind_line t.kind ++ user_line (user_field t.user) ++ key_line t.public
    ++ leaf_line t.leaf ++ random_line t.random ++ hash_lines (codes "x") t.secrets ++ hash_lines (codes "path") t.path

-- This many lists of 32 bytes.
pub record AreHashes (many : ℕ) (hashes : List (List ℕ)) : Type 0 where
  pub count : length hashes ≡ many
  pub each : AllByRecursion IsHash hashes

-- The public key of an invitation, of the types LMS_SHA256_M32_H5 and LMOTS_SHA256_N32_W4.
pub record IsInvitation (key : List ℕ) : Type 0 where
  pub form : IsKeyOf H5 W4 key
  pub bytes : AreBytes key

-- The fields are in their ranges.
pub record HasFields (t : Token) : Type 0 where
  pub team : IsHash t.team
  pub user : IfSome t.user (λ user. IsTrue (is_user_name user))
  pub public : IsInvitation t.public
  pub leaf : t.leaf < leaves_of H5
  pub random : IsHash t.random
  pub secrets : AreHashes (ots_row W4).p t.secrets
  pub path : AreHashes (lms_row H5).h t.path

-- An invitation for a device names the user whose device it is; one for a member names nobody.
abbrev pub IsFor : {X : Type 0} → InviteKind → Option X → Type 0
IsFor Member None = Unit {0}
IsFor Member (Some user) = ⊥
IsFor Device None = ⊥
IsFor Device (Some user) = Unit {0}

-- The root to which the leaf leads: over the one-time key of the private elements, along the path.
abbrev pub root_from : Token → List ℕ
root_from t = let id = id_in t.public in root_over H5 id t.leaf (ots_key W4 id t.leaf t.secrets) t.path

-- A token: its private elements and its path lead to the root of the invitation's key.
pub record IsToken (t : Token) : Type 0 where
  pub fields : HasFields t
  pub invited : IsFor t.kind t.user
  pub leads : root_from t ≡ root_in t.public

-- The signature of a message by the token's leaf.
unfoldable pub signature_by : Token → List ℕ → List ℕ
signature_by t message = joined H5 t.leaf (ots_signature W4 (id_in t.public) t.leaf t.secrets t.random message) t.path

-- What stands in a token file once the token has signed.
abbrev pub used_text : List ℕ
used_text = line_of (codes "team-token-used" ∷ codes "1" ∷ [])

-- A token file holds a token, or says that it has signed.
abbrev pub token_file_text : TokenFile → List ℕ
token_file_text (Fresh t) = token_text t
token_file_text Used = used_text

abbrev pub IsTokenFile : TokenFile → Type 0
IsTokenFile (Fresh t) = IsToken t
IsTokenFile Used = Unit {0}
