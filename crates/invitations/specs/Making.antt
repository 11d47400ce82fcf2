-- How an invitation is made of words that are drawn.
use Rattle.std.specs.Prelude.{◌≡◌, ◌<◌, ◌≤◌, ◌+◌, ℕ, zero, suc, List, [], ◌∷◌, Option, Result, Ok, Err, length, take, IfSome, IsTrue}
use Rattle.tg_outside.specs.Causes.{Rose}
use Rattle.tg_outside.specs.Contents.{DrawsAll}
use Rattle.tg_outside.specs.declared.fault.MakeFault.{MakeFault}
use Rattle.tg_outside.specs.declared.fault.MakeFault.TheVariants.{EntropyFault, Memory}
use Rattle.tg_text.specs.Spelling.{is_user_name, AreBytes, IsHash}
use Rattle.acts.specs.declared.entry.InviteKind.{InviteKind}
use Rattle.lms_ots.specs.declared.kind.OtsKind.TheVariants.{W4}
use Rattle.lms_ots.specs.Chains.{ots_secrets, randomizer}
use Rattle.lms_tree.specs.declared.lms_kind.LmsKind.TheVariants.{H5}
use Rattle.lms_tree.specs.declared.tree_key.TreeKey.{TreeKey}
use Rattle.lms_tree.specs.LmsKinds.{leaves_of}
use Rattle.lms_tree.specs.Nodes.{path_of}
use Rattle.lms_tree.specs.Signatures.{public_key}
use Rattle.invitations.specs.declared.token.Token.{Token}
use Rattle.invitations.specs.declared.inviting.Invite.{Invite}
use Rattle.invitations.specs.TokenText.{IsFor, IsToken}

-- The key of two words, LMS_SHA256_M32_H5 and LMOTS_SHA256_N32_W4: the id is the first 16 bytes of the first, and the seed the second.
abbrev pub invite_key : List ℕ → List ℕ → TreeKey
invite_key first second = record { lms = H5; ots = W4; id = take 16 first; seed = second }

-- A key of these types, with an id of 16 bytes.
pub record IsInviteKey (key : TreeKey) : Type 0 where
  pub lms : key.lms ≡ H5
  pub ots : key.ots ≡ W4
  pub id : length key.id ≡ 16
  pub bytes : AreBytes key.id

-- The token of a leaf: what is needed to sign with it, and with no other.
abbrev pub token_of : List ℕ → InviteKind → Option (List ℕ) → TreeKey → ℕ → Token
token_of team kind user key leaf = record {
  team = team;
  kind = kind;
  user = user;
  public = public_key key;
  leaf = leaf;
  random = randomizer key.id leaf key.seed;
  secrets = ots_secrets key.ots key.id leaf key.seed;
  path = path_of key leaf;
}

-- The tokens of a number of leaves, from one on.
unfoldable pub tokens_from : List ℕ → InviteKind → Option (List ℕ) → TreeKey → ℕ → ℕ → List Token
tokens_from team kind user key leaf zero = []
tokens_from team kind user key leaf (suc n) = token_of team kind user key leaf ∷ tokens_from team kind user key (leaf + 1) n

-- The invitation of a key: its public key, and a token for each use, of the leaves from 0 on.
abbrev pub invite_of : List ℕ → InviteKind → Option (List ℕ) → TreeKey → ℕ → Invite
invite_of team kind user key uses = record { public = public_key key; tokens = tokens_from team kind user key 0 uses }

-- Two words were drawn, and the invitation is that of their key; or fewer were, and a draw failed; or two were, and memory is short.
abbrev pub MakesInvite : Option (List (List ℕ)) → Option (List (List ℕ)) → List ℕ → InviteKind → Option (List ℕ) → ℕ → Result Invite MakeFault → Type 0
MakesInvite old new team kind user uses (Ok invite) =
    (first : List ℕ) × (second : List ℕ) × DrawsAll old new (first ∷ second ∷ []) × (invite ≡ invite_of team kind user (invite_key first second) uses)
MakesInvite old new team kind user uses (Err EntropyFault) = (words : List (List ℕ)) × (length words < 2) × DrawsAll old new words
MakesInvite old new team kind user uses (Err Memory) = (first : List ℕ) × (second : List ℕ) × DrawsAll old new (first ∷ second ∷ [])

-- The count of faults doesn't fall, and rose where a draw failed.
pub record HasDrawCause {T : Type 0} (before now : ℕ) (result : Result T MakeFault) : Type 0 where
  pub later : before ≤ now
  pub failed : result ≡ Err EntropyFault → Rose before now

-- A token that is made of a key, for a team and for nobody or a user, is one.
abbrev pub MadeTokensAreTokens : Type 0
MadeTokensAreTokens = (team : List ℕ) (kind : InviteKind) (user : Option (List ℕ)) (key : TreeKey) (leaf : ℕ)
    → IsInviteKey key → IsHash team → IfSome user (λ name. IsTrue (is_user_name name)) → IsFor kind user → leaf < leaves_of H5 → IsToken (token_of team kind user key leaf)
