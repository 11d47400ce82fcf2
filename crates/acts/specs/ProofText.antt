-- What the proof of an admission signs.
use Rattle.std.specs.Prelude.{ℕ, List, [], ◌∷◌, ◌++◌, codes}
use Rattle.tg_text.specs.Spelling.{spell_base64, spell_hex, line_of, IsHash, IsPublicKey}
use Rattle.acts.specs.ActText.{spell_kind, IsName}
use Rattle.acts.specs.declared.entry.InviteKind.{InviteKind}

-- the team, the kind of the invitation, and the user, key and seal of the device that comes in
pub record Admission : Type 0 where
  pub team : List ℕ
  pub kind : InviteKind
  pub user : List ℕ
  pub key : List ℕ
  pub seal : List ℕ

-- six lines
abbrev pub proof_body : Admission → List ℕ
proof_body a =
    line_of (codes "team-proof" ∷ codes "1" ∷ []) ++ line_of (codes "team" ∷ spell_hex a.team ∷ []) ++ line_of (codes "kind" ∷ spell_kind a.kind ∷ [])
    ++ line_of (codes "user" ∷ a.user ∷ []) ++ line_of (codes "key" ∷ spell_base64 a.key ∷ []) ++ line_of (codes "seal" ∷ spell_hex a.seal ∷ [])

pub record IsAdmission (a : Admission) : Type 0 where
  pub team : IsHash a.team
  pub user : IsName a.user
  pub key : IsPublicKey a.key
  pub seal : IsHash a.seal
