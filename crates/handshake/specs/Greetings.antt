-- What an end of a greeting answers to a message, and how far it is then.
use Rattle.std.specs.Prelude.{◌≡◌, ℕ, Bool, List, cond, Option, Some, None, Result, Ok, Err}
use Rattle.sha2.specs.Sha256.{sha256}
use Rattle.lms_tree.specs.Verifying.{verifies}
use Rattle.team_sets.specs.Names.{Name, same_name}
use Rattle.team_model.specs.State.{State, lists_device}
use Rattle.tg_text.specs.Reading.{Reads}
use Rattle.tg_text.specs.declared.memory.Memory.{Memory as NoMemory}
use Rattle.handshake.specs.Messages.{IsMessage, device_of, message_text, signed_text}
use Rattle.handshake.specs.declared.fault.GreetFault.{GreetFault}
use Rattle.handshake.specs.declared.fault.GreetFault.TheVariants.{BadMessage, OtherTeam, OutOfTurn, UnknownDevice, BadProof, Memory}
use Rattle.handshake.specs.declared.message.Claim.{Claim}
use Rattle.handshake.specs.declared.message.Content.{Content}
use Rattle.handshake.specs.declared.message.Content.TheVariants.{Claims, Proves, Welcomes, Refuses}
use Rattle.handshake.specs.declared.message.Message.{Message}
use Rattle.handshake.specs.declared.stage.GreetState.{GreetState}
use Rattle.handshake.specs.declared.stage.GreetState.TheVariants as state
use Rattle.handshake.specs.declared.stage.Next.{Next}
use Rattle.handshake.specs.declared.stage.Next.TheVariants.{Sign, Send, Over}
use Rattle.handshake.specs.declared.stage.Reaction.{Reaction}
use Rattle.handshake.specs.declared.stage.Stage.{Stage}
use Rattle.handshake.specs.declared.stage.Stage.TheVariants.{Claimed, Asked, Proved, Accepted, Ended, Refused}

-- One end of a greeting: its team, who it claims to be, and how far it is.
pub record End : Type 0 where
  pub team : Name
  pub own : Claim
  pub stage : Stage

-- What is shown of how far an end is.
abbrev pub shown : Stage → GreetState
shown Claimed = state.Claimed
shown (Asked claim) = state.Proving (device_of claim)
shown (Proved claim) = state.Proving (device_of claim)
shown (Accepted device) = state.Accepted device
shown (Ended device) = state.Ended device
shown Refused = state.Refused

-- An end begins with its claim, which it sends.
abbrev pub started : Name → Claim → End
started team own = record { team = team; own = own; stage = Claimed }

abbrev pub claim_text : End → List ℕ
claim_text e = message_text (record { team = e.team; content = Claims e.own })

abbrev pub proof_text : Name → List ℕ → List ℕ
proof_text team signature = message_text (record { team = team; content = Proves signature })

abbrev pub welcome_text : Name → List ℕ
welcome_text team = message_text (record { team = team; content = Welcomes })

abbrev pub refuse_text : Name → GreetFault → List ℕ
refuse_text team fault = message_text (record { team = team; content = Refuses fault })

-- What this end signs for the device that claims: the nonce of that claim.
abbrev pub own_text : End → Claim → List ℕ
own_text e claim = signed_text (record { team = e.team; nonce = claim.nonce; from = device_of e.own; to = device_of claim })

-- What the device that claims signs for this end: this end's own nonce.
abbrev pub peer_text : End → Claim → List ℕ
peer_text e claim = signed_text (record { team = e.team; nonce = e.own.nonce; from = device_of claim; to = device_of e.own })

-- The message is refused, and the greeting with it.
abbrev pub refusing : GreetFault → Reaction
refusing fault = record { answer = Err fault; stage = Refused }

-- Whether the device of a claim is listed for its user.
abbrev pub is_listed : State → Claim → Bool
is_listed s claim = lists_device s claim.user (device_of claim)

-- This end is asked to sign for the device of a claim.
abbrev pub asking : End → Claim → Reaction
asking e claim = record { answer = Ok (Sign (own_text e claim)); stage = Asked claim }

-- The device of a claim is accepted, and hears so, where the signature verifies under its key over this end's nonce.
abbrev pub checking : End → Claim → List ℕ → Reaction
checking e claim signature =
    cond (verifies claim.key (peer_text e claim) signature) (record { answer = Ok (Send (welcome_text e.team)); stage = Accepted (device_of claim) }) (refusing BadProof)

-- A claim is taken first. Its device has to be listed for its user, and then this end is asked to sign for it.
abbrev pub on_claim : State → End → Claim → Stage → Reaction
on_claim s e claim Claimed = cond (is_listed s claim) (asking e claim) (refusing UnknownDevice)
on_claim s e claim _ = refusing OutOfTurn

-- A proof is taken once this end has made its own. The device of the claim has to be listed for its user still, and the signature has to
-- be its own.
abbrev pub on_proof : State → End → List ℕ → Stage → Reaction
on_proof s e signature (Proved claim) = cond (is_listed s claim) (checking e claim signature) (refusing UnknownDevice)
on_proof s e signature _ = refusing OutOfTurn

-- A welcome is taken by an end that has accepted the other, and by no other end.
abbrev pub on_welcome : Stage → Reaction
on_welcome (Accepted device) = record { answer = Ok Over; stage = Ended device }
on_welcome _ = refusing OutOfTurn

-- A refusal is taken until the greeting is over.
abbrev pub on_refusal : Stage → Reaction
on_refusal (Ended device) = refusing OutOfTurn
on_refusal Refused = refusing OutOfTurn
on_refusal _ = record { answer = Ok Over; stage = Refused }

abbrev pub on_content : State → End → Content → Reaction
on_content s e (Claims claim) = on_claim s e claim e.stage
on_content s e (Proves signature) = on_proof s e signature e.stage
on_content s e Welcomes = on_welcome e.stage
on_content s e (Refuses fault) = on_refusal e.stage

-- What an end answers to a message, or to bytes that are none, where the team is in the state s.
abbrev pub reaction : State → End → Option Message → Reaction
reaction s e None = refusing BadMessage
reaction s e (Some m) = cond (same_name m.team e.team) (on_content s e m.content) (refusing OtherTeam)

-- An end has taken bytes: it answers to the message that they are, and is as far as that makes it. Where memory is short it is as before.
abbrev pub Takes : State → List ℕ → End → End → Result Next GreetFault → Type 0
Takes s bytes old new (Err Memory) = new ≡ old
Takes s bytes old new result =
    (found : Option Message) × Reads IsMessage message_text bytes found
    × (result ≡ (reaction s old found).answer) × (new ≡ record old { stage = (reaction s old found).stage })

-- What is sent for a message is a welcome of the team, and is read as one.
abbrev pub IsReadAgain : Name → Next → Type 0
IsReadAgain team (Send bytes) = (found : Option Message) → Reads IsMessage message_text bytes found → found ≡ Some (record { team = team; content = Welcomes })
IsReadAgain team _ = Unit {0}

-- An end is to sign a text.
abbrev pub IsSign : Next → Type 0
IsSign (Sign text) = Unit {0}
IsSign _ = ⊥

-- An end has been asked to sign, and hasn't handed in its signature.
abbrev pub IsAsked : Stage → Type 0
IsAsked (Asked claim) = Unit {0}
IsAsked _ = ⊥

-- What it is then, once it has.
abbrev pub proved : Stage → Stage
proved (Asked claim) = Proved claim
proved stage = stage

-- A signature was handed in: the proof is to be sent. Where memory is short the end is as before.
abbrev pub Signs : List ℕ → End → End → Result (List ℕ) NoMemory → Type 0
Signs signature old new (Ok text) = (text ≡ proof_text old.team signature) × (new ≡ record old { stage = proved old.stage })
Signs signature old new (Err none) = new ≡ old
