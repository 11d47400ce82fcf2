-- An end that answers never lacks memory, is asked to sign only where it says so, and sends what is read again.
use Rattle.std.proofs.Common.{◌≡◌, ℕ, Bool, true, false, cond, nat_eq, List, Option, None, Some, Result, Ok, Err, IfOk, refl, sym, subst}
use Rattle.std.specs.Cmp.Lexicographic.{bytes_decides}
use Rattle.lms_tree.specs.Verifying.{verifies}
use Rattle.team_sets.specs.Names.{Name, same_name}
use Rattle.team_model.specs.State.{State}
use Rattle.tg_text.specs.Reading.{Reads}
use Rattle.tg_text.specs.Spelling.{IsHash}
use Rattle.handshake.specs.Greetings.{End, IsAsked, IsReadAgain, IsSign, Takes, asking, checking, is_listed, on_claim, on_content, on_proof, on_refusal, on_welcome, peer_text, reaction, refusing, welcome_text}
use Rattle.handshake.specs.Messages.{IsMessage, IsNamed, device_of, message_text}
use Rattle.handshake.specs.declared.fault.GreetFault.{GreetFault}
use Rattle.handshake.specs.declared.fault.GreetFault.TheVariants.{BadMessage, OtherTeam, OutOfTurn, UnknownDevice, BadProof, Memory}
use Rattle.handshake.specs.declared.message.Claim.{Claim}
use Rattle.handshake.specs.declared.message.Content.{Content}
use Rattle.handshake.specs.declared.message.Content.TheVariants.{Claims, Proves, Welcomes, Refuses}
use Rattle.handshake.specs.declared.message.Message.{Message}
use Rattle.handshake.specs.declared.stage.Next.{Next}
use Rattle.handshake.specs.declared.stage.Next.TheVariants.{Send}
use Rattle.handshake.specs.declared.stage.Reaction.{Reaction}
use Rattle.handshake.specs.declared.stage.Stage.{Stage}
use Rattle.handshake.specs.declared.stage.Stage.TheVariants.{Claimed, Asked, Proved, Accepted, Ended, Refused}

-- The fault has a name, and who is to sign is asked to.
abbrev IsSound : Result Next GreetFault → Stage → Type 0
IsSound (Ok next) stage = IsSign next → IsAsked stage
IsSound (Err fault) stage = IsNamed fault

claim_sound : (s : State) (e : End) (claim : Claim) (stage : Stage) → IsSound (on_claim s e claim stage).answer (on_claim s e claim stage).stage
claim_sound s e claim Claimed = by_test (is_listed s claim) where
  by_test : (b : Bool) → IsSound (cond b (asking e claim) (refusing UnknownDevice)).answer (cond b (asking e claim) (refusing UnknownDevice)).stage
  by_test true = λ h. tt
  by_test false = tt
claim_sound s e claim (Asked other) = tt
claim_sound s e claim (Proved other) = tt
claim_sound s e claim (Accepted d) = tt
claim_sound s e claim (Ended d) = tt
claim_sound s e claim Refused = tt

abbrev accepting : End → Claim → Reaction
accepting e claim = record { answer = Ok (Send (welcome_text e.team)); stage = Accepted (device_of claim) }

proof_sound : (s : State) (e : End) (signature : List ℕ) (stage : Stage) → IsSound (on_proof s e signature stage).answer (on_proof s e signature stage).stage
proof_sound s e signature (Proved claim) = by_test (is_listed s claim) where
  by_check : (b : Bool) → IsSound (cond b (accepting e claim) (refusing BadProof)).answer (cond b (accepting e claim) (refusing BadProof)).stage
  by_check true = λ h. absurd h
  by_check false = tt

  by_test : (b : Bool) → IsSound (cond b (checking e claim signature) (refusing UnknownDevice)).answer (cond b (checking e claim signature) (refusing UnknownDevice)).stage
  by_test true = by_check (verifies claim.key (peer_text e claim) signature)
  by_test false = tt
proof_sound s e signature Claimed = tt
proof_sound s e signature (Asked other) = tt
proof_sound s e signature (Accepted d) = tt
proof_sound s e signature (Ended d) = tt
proof_sound s e signature Refused = tt

welcome_sound : (stage : Stage) → IsSound (on_welcome stage).answer (on_welcome stage).stage
welcome_sound Claimed = tt
welcome_sound (Asked other) = tt
welcome_sound (Proved other) = tt
welcome_sound (Accepted d) = λ h. absurd h
welcome_sound (Ended d) = tt
welcome_sound Refused = tt

refusal_sound : (stage : Stage) → IsSound (on_refusal stage).answer (on_refusal stage).stage
refusal_sound Claimed = λ h. absurd h
refusal_sound (Asked other) = λ h. absurd h
refusal_sound (Proved other) = λ h. absurd h
refusal_sound (Accepted d) = λ h. absurd h
refusal_sound (Ended d) = tt
refusal_sound Refused = tt

content_sound : (s : State) (e : End) (c : Content) → IsSound (on_content s e c).answer (on_content s e c).stage
content_sound s e (Claims claim) = claim_sound s e claim e.stage
content_sound s e (Proves signature) = proof_sound s e signature e.stage
content_sound s e Welcomes = welcome_sound e.stage
content_sound s e (Refuses fault) = refusal_sound e.stage

sound : (s : State) (e : End) (found : Option Message) → IsSound (reaction s e found).answer (reaction s e found).stage
sound s e None = tt
sound s e (Some m) = by_test (same_name m.team e.team) where
  by_test : (b : Bool) → IsSound (cond b (on_content s e m.content) (refusing OtherTeam)).answer (cond b (on_content s e m.content) (refusing OtherTeam)).stage
  by_test true = content_sound s e m.content
  by_test false = tt

is_taken : (s : State) (bytes : List ℕ) (old : End) (found : Option Message) (answer : Result Next GreetFault) (stage : Stage) → Reads IsMessage message_text bytes found → answer ≡ (reaction s old found).answer
    → stage ≡ (reaction s old found).stage → IsSound answer stage → Takes s bytes old (record old { stage = stage }) answer
is_taken s bytes old found (Ok next) stage reads is at h = (found, reads, is, λ i. record old { stage = at i })
is_taken s bytes old found (Err BadMessage) stage reads is at h = (found, reads, is, λ i. record old { stage = at i })
is_taken s bytes old found (Err OtherTeam) stage reads is at h = (found, reads, is, λ i. record old { stage = at i })
is_taken s bytes old found (Err OutOfTurn) stage reads is at h = (found, reads, is, λ i. record old { stage = at i })
is_taken s bytes old found (Err UnknownDevice) stage reads is at h = (found, reads, is, λ i. record old { stage = at i })
is_taken s bytes old found (Err BadProof) stage reads is at h = (found, reads, is, λ i. record old { stage = at i })
is_taken s bytes old found (Err Memory) stage reads is at h = absurd h

-- what `take` makes of a reaction
pub taken : (s : State) (bytes : List ℕ) (old new : End) (found : Option Message) (r : Reaction) → Reads IsMessage message_text bytes found → r ≡ reaction s old found
    → new ≡ record old { stage = r.stage } → Takes s bytes old new r.answer
taken s bytes old new found r reads is at = rw (at, is) (is_taken s bytes old found (reaction s old found).answer (reaction s old found).stage reads refl refl (sound s old found))

asked_of : (answer : Result Next GreetFault) (stage : Stage) → IsSound answer stage → IfOk answer (λ next. IsSign next → IsAsked stage)
asked_of (Ok next) stage h = h
asked_of (Err fault) stage h = tt

pub asked : (s : State) (old : End) (found : Option Message) (r : Reaction) → r ≡ reaction s old found → IfOk r.answer (λ next. IsSign next → IsAsked r.stage)
asked s old found r is = rw is (asked_of (reaction s old found).answer (reaction s old found).stage (sound s old found))

-- What is sent is a welcome of the end's own team, which the message taken names.
welcome_again : (team : Name) → IsHash team → IsReadAgain team (Send (welcome_text team))
welcome_again team is = λ found reads. reads.only (record { team = team; content = Welcomes }) (record { team = is; content = tt }) refl

abbrev IsAgain : Name → Result Next GreetFault → Type 0
IsAgain team answer = IfOk answer (λ next. IsReadAgain team next)

claim_again : (s : State) (e : End) (claim : Claim) (stage : Stage) → IsAgain e.team (on_claim s e claim stage).answer
claim_again s e claim Claimed = by_test (is_listed s claim) where
  by_test : (b : Bool) → IsAgain e.team (cond b (asking e claim) (refusing UnknownDevice)).answer
  by_test true = tt
  by_test false = tt
claim_again s e claim (Asked other) = tt
claim_again s e claim (Proved other) = tt
claim_again s e claim (Accepted d) = tt
claim_again s e claim (Ended d) = tt
claim_again s e claim Refused = tt

proof_again : (s : State) (e : End) (signature : List ℕ) (stage : Stage) → IsHash e.team → IsAgain e.team (on_proof s e signature stage).answer
proof_again s e signature (Proved claim) is = by_test (is_listed s claim) where
  by_check : (b : Bool) → IsAgain e.team (cond b (accepting e claim) (refusing BadProof)).answer
  by_check true = welcome_again e.team is
  by_check false = tt

  by_test : (b : Bool) → IsAgain e.team (cond b (checking e claim signature) (refusing UnknownDevice)).answer
  by_test true = by_check (verifies claim.key (peer_text e claim) signature)
  by_test false = tt
proof_again s e signature Claimed is = tt
proof_again s e signature (Asked other) is = tt
proof_again s e signature (Accepted d) is = tt
proof_again s e signature (Ended d) is = tt
proof_again s e signature Refused is = tt

welcome_silent : (team : Name) (stage : Stage) → IsAgain team (on_welcome stage).answer
welcome_silent team Claimed = tt
welcome_silent team (Asked other) = tt
welcome_silent team (Proved other) = tt
welcome_silent team (Accepted d) = tt
welcome_silent team (Ended d) = tt
welcome_silent team Refused = tt

refusal_silent : (team : Name) (stage : Stage) → IsAgain team (on_refusal stage).answer
refusal_silent team Claimed = tt
refusal_silent team (Asked other) = tt
refusal_silent team (Proved other) = tt
refusal_silent team (Accepted d) = tt
refusal_silent team (Ended d) = tt
refusal_silent team Refused = tt

content_again : (s : State) (e : End) (c : Content) → IsHash e.team → IsAgain e.team (on_content s e c).answer
content_again s e (Claims claim) is = claim_again s e claim e.stage
content_again s e (Proves signature) is = proof_again s e signature e.stage is
content_again s e Welcomes is = welcome_silent e.team e.stage
content_again s e (Refuses fault) is = refusal_silent e.team e.stage

again : (s : State) (bytes : List ℕ) (e : End) (found : Option Message) → Reads IsMessage message_text bytes found → IsAgain e.team (reaction s e found).answer
again s bytes e None reads = tt
again s bytes e (Some m) reads = by_test (same_name m.team e.team) refl where
  by_test : (b : Bool) → same_name m.team e.team ≡ b → IsAgain e.team (cond b (on_content s e m.content) (refusing OtherTeam)).answer
  by_test true is = content_again s e m.content (subst (λ (t : Name). IsHash t) ((bytes_decides m.team e.team).0 is) reads.found.0.team)
  by_test false is = tt

pub read_again : (s : State) (bytes : List ℕ) (old : End) (found : Option Message) (r : Reaction) → Reads IsMessage message_text bytes found → r ≡ reaction s old found → IfOk r.answer (λ next. IsReadAgain old.team next)
read_again s bytes old found r reads is = rw is (again s bytes old found reads)
