-- The messages of a greeting, and the text that a device signs in one.
use Rattle.std.specs.Prelude.{◌≡◌, ℕ, List, [], ◌∷◌, ◌++◌, codes, IsTrue}
use Rattle.sha2.specs.Sha256.{sha256}
use Rattle.team_sets.specs.Names.{Name}
use Rattle.tg_text.specs.Spelling.{spell_base64, spell_hex, line_of, is_user_name, AreBytes, IsHash, IsPublicKey}
use Rattle.handshake.specs.declared.fault.GreetFault.{GreetFault}
use Rattle.handshake.specs.declared.fault.GreetFault.TheVariants.{BadMessage, OtherTeam, OutOfTurn, UnknownDevice, BadProof, Memory}
use Rattle.handshake.specs.declared.message.Claim.{Claim}
use Rattle.handshake.specs.declared.message.Content.{Content}
use Rattle.handshake.specs.declared.message.Content.TheVariants.{Claims, Proves, Welcomes, Refuses}
use Rattle.handshake.specs.declared.message.Head.{Head}
use Rattle.handshake.specs.declared.message.Kind.{Kind}
use Rattle.handshake.specs.declared.message.Kind.TheVariants as kind
use Rattle.handshake.specs.declared.message.Message.{Message}

-- The word of a fault.
abbrev pub spell_fault : GreetFault → List ℕ
spell_fault BadMessage = codes "BadMessage"
spell_fault OtherTeam = codes "OtherTeam"
spell_fault OutOfTurn = codes "OutOfTurn"
spell_fault UnknownDevice = codes "UnknownDevice"
spell_fault BadProof = codes "BadProof"
spell_fault Memory = codes "Memory"

-- The fault is one that a message names: all but want of memory are.
abbrev pub IsNamed : GreetFault → Type 0
IsNamed Memory = ⊥
IsNamed _ = Unit {0}

-- The word of a kind of message.
abbrev pub kind_word : Kind → List ℕ
kind_word kind.Claim = codes "claim"
kind_word kind.Proof = codes "proof"
kind_word kind.Welcome = codes "welcome"
kind_word kind.Refuse = codes "refuse"

abbrev pub kind_of : Content → Kind
kind_of (Claims claim) = kind.Claim
kind_of (Proves signature) = kind.Proof
kind_of Welcomes = kind.Welcome
kind_of (Refuses fault) = kind.Refuse

-- The lines of messages.
abbrev pub kind_line : Kind → List ℕ
kind_line k = line_of (codes "team-greet 1" ∷ kind_word k ∷ [])

abbrev pub team_line : Name → List ℕ
team_line team = line_of (codes "team" ∷ spell_hex team ∷ [])

abbrev pub user_line : Name → List ℕ
user_line user = line_of (codes "user" ∷ user ∷ [])

abbrev pub key_line : List ℕ → List ℕ
key_line key = line_of (codes "key" ∷ spell_base64 key ∷ [])

abbrev pub nonce_line : List ℕ → List ℕ
nonce_line nonce = line_of (codes "nonce" ∷ spell_hex nonce ∷ [])

abbrev pub sign_line : List ℕ → List ℕ
sign_line signature = line_of (codes "sign" ∷ spell_base64 signature ∷ [])

abbrev pub fault_line : GreetFault → List ℕ
fault_line fault = line_of (codes "fault" ∷ spell_fault fault ∷ [])

abbrev pub claim_lines : Claim → List ℕ
claim_lines claim = user_line claim.user ++ (key_line claim.key ++ nonce_line claim.nonce)

-- What stands after the first two lines of a message.
abbrev pub content_lines : Content → List ℕ
content_lines (Claims claim) = claim_lines claim
content_lines (Proves signature) = sign_line signature
content_lines Welcomes = []
content_lines (Refuses fault) = fault_line fault

-- A message is spelled by its kind, its team, and what it says.
abbrev pub message_text : Message → List ℕ
message_text m = kind_line (kind_of m.content) ++ (team_line m.team ++ content_lines m.content)

-- Each field of a claim is in its range.
pub record IsClaim (claim : Claim) : Type 0 where
  pub user : IsTrue (is_user_name claim.user)
  pub key : IsPublicKey claim.key
  pub nonce : IsHash claim.nonce

-- The first two lines of a message.
abbrev pub head_lines : Head → List ℕ
head_lines head = kind_line head.kind ++ team_line head.team

abbrev pub IsHead : Head → Type 0
IsHead head = IsHash head.team

-- What a message says is in its range.
abbrev pub IsContent : Content → Type 0
IsContent (Claims claim) = IsClaim claim
IsContent (Proves signature) = AreBytes signature
IsContent Welcomes = Unit {0}
IsContent (Refuses fault) = IsNamed fault

-- A message of this kind says it.
abbrev pub IsContentOf : Kind → Content → Type 0
IsContentOf k content = (kind_of content ≡ k) × IsContent content

-- The fields of a message are in their ranges.
pub record IsMessage (m : Message) : Type 0 where
  pub team : IsHash m.team
  pub content : IsContent m.content

-- No two messages have one text.
abbrev pub MessageIsSpelledOnce : Type 0
MessageIsSpelledOnce = (m n : Message) → IsMessage m → IsMessage n → message_text m ≡ message_text n → m ≡ n

-- The device of a claim is the SHA-256 of its key.
abbrev pub device_of : Claim → Name
device_of claim = sha256 claim.key

-- The text that the device `from` signs for the device `to`, over the nonce that `to` has claimed with.
pub record Signed : Type 0 where
  pub team : Name
  pub nonce : List ℕ
  pub from : Name
  pub to : Name

abbrev pub signed_text : Signed → List ℕ
signed_text s =
    line_of (codes "team-greeting" ∷ codes "1" ∷ []) ++ (team_line s.team ++ (nonce_line s.nonce
    ++ (line_of (codes "from" ∷ spell_hex s.from ∷ []) ++ line_of (codes "to" ∷ spell_hex s.to ∷ []))))

-- Its fields are in their ranges.
pub record IsSigned (s : Signed) : Type 0 where
  pub team : IsHash s.team
  pub nonce : IsHash s.nonce
  pub from : IsHash s.from
  pub to : IsHash s.to

-- A text is signed for one team, one nonce and two devices: no text is signed for two of these.
abbrev pub SignedTextsDiffer : Type 0
SignedTextsDiffer = (s t : Signed) → IsSigned s → IsSigned t → signed_text s ≡ signed_text t → s ≡ t
