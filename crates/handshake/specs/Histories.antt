-- What is so of a greeting after any list of calls.
use Rattle.std.specs.Prelude.{◌≡◌, ◌⊎◌, ℕ, true, List, [], ◌∷◌, ◌++◌, Result, Ok}
use Rattle.lms_tree.specs.Verifying.{verifies}
use Rattle.team_sets.specs.Names.{Name}
use Rattle.team_model.specs.State.{State}
use Rattle.tg_text.specs.declared.memory.Memory.{Memory as NoMemory}
use Rattle.handshake.specs.Greetings.{End, Signs, Takes, is_listed, own_text, peer_text, proof_text, started, welcome_text}
use Rattle.handshake.specs.Messages.{IsMessage, device_of, message_text}
use Rattle.handshake.specs.declared.fault.GreetFault.{GreetFault}
use Rattle.handshake.specs.declared.message.Claim.{Claim}
use Rattle.handshake.specs.declared.message.Content.{Content}
use Rattle.handshake.specs.declared.message.Content.TheVariants.{Claims, Proves, Welcomes}
use Rattle.handshake.specs.declared.message.Message.{Message}
use Rattle.handshake.specs.declared.stage.Next.{Next}
use Rattle.handshake.specs.declared.stage.Next.TheVariants.{Over, Send, Sign}
use Rattle.handshake.specs.declared.stage.Stage.TheVariants.{Accepted, Ended}

-- One call on a greeting and what it answered: bytes were taken, where the team was in a state, or a signature was handed in.
pub data Call : Type 0 where
  takes : State → List ℕ → Result Next GreetFault → Call
  signs : List ℕ → Result (List ℕ) NoMemory → Call

-- What a call makes of an end.
abbrev pub IsCalled : Call → End → End → Type 0
IsCalled (takes s bytes result) old new = Takes s bytes old new result
IsCalled (signs signature result) old new = Signs signature old new result

-- What a list of calls makes of it, one after another.
abbrev pub AreCalled : List Call → End → End → Type 0
AreCalled [] old new = new ≡ old
AreCalled (call ∷ calls) old new = (mid : End) × IsCalled call old mid × AreCalled calls mid new

-- The first calls stand among the second ones, in their order.
abbrev pub AreInOrder : List Call → List Call → Type 0
AreInOrder [] calls = Unit {0}
AreInOrder (x ∷ xs) [] = ⊥
AreInOrder (x ∷ xs) (call ∷ calls) = ((call ≡ x) × AreInOrder xs calls) ⊎ AreInOrder (x ∷ xs) calls

-- A message was taken, where the team was in this state, and this was answered.
abbrev pub took : State → Message → Next → Call
took s m next = takes s (message_text m) (Ok next)

-- The messages of an end's own team that one end takes of the other.
abbrev pub claim_to : End → Claim → Message
claim_to e claim = record { team = e.team; content = Claims claim }

abbrev pub proof_to : End → List ℕ → Message
proof_to e signature = record { team = e.team; content = Proves signature }

abbrev pub welcome_to : End → Message
welcome_to e = record { team = e.team; content = Welcomes }

-- A claim was taken in its turn: the end was asked to sign for the device that claims.
abbrev pub took_claim : End → State → Claim → Call
took_claim e s claim = took s (claim_to e claim) (Sign (own_text e claim))

-- The end's own signature was handed in, and gave the proof to send.
abbrev pub took_own : End → List ℕ → Call
took_own e signature = signs signature (Ok (proof_text e.team signature))

-- A proof was taken in its turn, and answered by a welcome.
abbrev pub took_proof : End → State → List ℕ → Call
took_proof e s signature = took s (proof_to e signature) (Send (welcome_text e.team))

-- A welcome was taken in its turn: nothing is left to do.
abbrev pub took_welcome : End → State → Call
took_welcome e s = took s (welcome_to e) Over

-- The device has proved itself to an end. First a claim of its key was taken, then the end's own signature was handed in, and then a proof
-- was taken. At the claim and at the proof the device was listed for the claimed user, and the signature of the proof verifies under the
-- claimed key over the end's own nonce, the device and the end's own device.
pub record HasProved (calls : List Call) (e : End) (device : Name) : Type 0 where
  pub claim : Claim
  pub device_is : device ≡ device_of claim
  pub before : State
  pub own : List ℕ
  pub signature : List ℕ
  pub at : State
  pub in_order : AreInOrder (took_claim e before claim ∷ took_own e own ∷ took_proof e at signature ∷ []) calls
  pub is_claim : IsMessage (claim_to e claim)
  pub is_proof : IsMessage (proof_to e signature)
  pub listed_before : is_listed before claim ≡ true
  pub listed : is_listed at claim ≡ true
  pub verified : verifies claim.key (peer_text e claim) signature ≡ true

-- Whatever calls come after the start, an end that is accepted, or has ended so, has had a proof over its own nonce.
abbrev pub NoneIsAcceptedUnproved : Type 0
NoneIsAcceptedUnproved = (team : Name) (own : Claim) (calls : List Call) (e : End) (device : Name) → AreCalled calls (started team own) e
    → (e.stage ≡ Accepted device) ⊎ (e.stage ≡ Ended device) → HasProved calls (started team own) device

-- On the way from one end to another by these calls the device was accepted, and a welcome was taken right then.
pub record WasAccepted (calls : List Call) (begin e : End) (device : Name) : Type 0 where
  pub first : List Call
  pub mid : End
  pub accepted : mid.stage ≡ Accepted device
  pub at : State
  pub rest : List Call
  pub calls_are : calls ≡ first ++ took_welcome mid at ∷ rest
  pub to_mid : AreCalled first begin mid
  pub from_mid : AreCalled (took_welcome mid at ∷ rest) mid e

-- Whatever calls come after the start, an end that has ended with a device had accepted it before, and took a welcome then.
abbrev pub NoneEndsUnaccepted : Type 0
NoneEndsUnaccepted = (team : Name) (own : Claim) (calls : List Call) (e : End) (device : Name) → AreCalled calls (started team own) e
    → e.stage ≡ Ended device → WasAccepted calls (started team own) e device
