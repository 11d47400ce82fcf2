-- An end that has ended was accepted before.
use Rattle.std.proofs.Common.{◌≡◌, ◌⊎◌, inl, inr, ℕ, Bool, true, false, cond, nat_eq, List, [], ◌∷◌, ◌++◌, Option, None, Some, Result, Ok, Err, refl, sym, ap, ◌∙◌, subst}
use Rattle.std.specs.Cmp.Lexicographic.{bytes_decides}
use Rattle.lms_tree.specs.Verifying.{verifies}
use Rattle.team_sets.specs.Names.{Name, same_name}
use Rattle.team_model.specs.State.{State}
use Rattle.tg_text.specs.Reading.{Reads}
use Rattle.tg_text.specs.declared.memory.Memory.{Memory as NoMemory}
use Rattle.handshake.specs.Greetings.{End, Signs, Takes, asking, checking, is_listed, on_claim, on_content, on_proof, on_refusal, on_welcome, peer_text, proved, reaction, refusing, started, welcome_text}
use Rattle.handshake.specs.Histories.{AreCalled, Call, IsCalled, NoneEndsUnaccepted, WasAccepted, signs, takes, took_welcome, welcome_to}
use Rattle.handshake.specs.Messages.{IsMessage, device_of, message_text}
use Rattle.handshake.specs.declared.fault.GreetFault.{GreetFault}
use Rattle.handshake.specs.declared.fault.GreetFault.TheVariants.{BadMessage, OtherTeam, OutOfTurn, UnknownDevice, BadProof, Memory}
use Rattle.handshake.specs.declared.message.Claim.{Claim}
use Rattle.handshake.specs.declared.message.Content.{Content}
use Rattle.handshake.specs.declared.message.Content.TheVariants.{Claims, Proves, Welcomes, Refuses}
use Rattle.handshake.specs.declared.message.Message.{Message}
use Rattle.handshake.specs.declared.stage.Next.{Next}
use Rattle.handshake.specs.declared.stage.Next.TheVariants.{Over, Send}
use Rattle.handshake.specs.declared.stage.Stage.{Stage}
use Rattle.handshake.specs.declared.stage.Stage.TheVariants.{Claimed, Asked, Proved, Accepted, Ended, Refused}
use Rattle.handshake.proofs.Accepted.{took_is}

-- No claim ends a greeting well,
claim_ends : (s : State) (e : End) (claim : Claim) (stage : Stage) (d : Name) → (on_claim s e claim stage).stage ≡ Ended d → ⊥
claim_ends s e claim Claimed d is = by_test (is_listed s claim) is where
  by_test : (b : Bool) → (cond b (asking e claim) (refusing UnknownDevice)).stage ≡ Ended d → ⊥
  by_test true ended = let h : Asked claim ≡ Ended d = ended in cc
  by_test false ended = let h : Refused ≡ Ended d = ended in cc
claim_ends s e claim (Asked other) d is = let h : Refused ≡ Ended d = is in cc
claim_ends s e claim (Proved other) d is = let h : Refused ≡ Ended d = is in cc
claim_ends s e claim (Accepted other) d is = let h : Refused ≡ Ended d = is in cc
claim_ends s e claim (Ended other) d is = let h : Refused ≡ Ended d = is in cc
claim_ends s e claim Refused d is = let h : Refused ≡ Ended d = is in cc

-- nor does a proof,
proof_ends : (s : State) (e : End) (signature : List ℕ) (stage : Stage) (d : Name) → (on_proof s e signature stage).stage ≡ Ended d → ⊥
proof_ends s e signature (Proved claim) d is = by_test (is_listed s claim) is where
  by_check : (b : Bool) → (cond b (record { answer = Ok (Send (welcome_text e.team)); stage = Accepted (device_of claim) }) (refusing BadProof)).stage ≡ Ended d → ⊥
  by_check true ended = let h : Accepted (device_of claim) ≡ Ended d = ended in cc
  by_check false ended = let h : Refused ≡ Ended d = ended in cc

  by_test : (b : Bool) → (cond b (checking e claim signature) (refusing UnknownDevice)).stage ≡ Ended d → ⊥
  by_test true ended = by_check (verifies claim.key (peer_text e claim) signature) ended
  by_test false ended = let h : Refused ≡ Ended d = ended in cc
proof_ends s e signature Claimed d is = let h : Refused ≡ Ended d = is in cc
proof_ends s e signature (Asked other) d is = let h : Refused ≡ Ended d = is in cc
proof_ends s e signature (Accepted other) d is = let h : Refused ≡ Ended d = is in cc
proof_ends s e signature (Ended other) d is = let h : Refused ≡ Ended d = is in cc
proof_ends s e signature Refused d is = let h : Refused ≡ Ended d = is in cc

-- nor a refusal.
refusal_ends : (stage : Stage) (d : Name) → (on_refusal stage).stage ≡ Ended d → ⊥
refusal_ends Claimed d is = let h : Refused ≡ Ended d = is in cc
refusal_ends (Asked other) d is = let h : Refused ≡ Ended d = is in cc
refusal_ends (Proved other) d is = let h : Refused ≡ Ended d = is in cc
refusal_ends (Accepted other) d is = let h : Refused ≡ Ended d = is in cc
refusal_ends (Ended other) d is = let h : Refused ≡ Ended d = is in cc
refusal_ends Refused d is = let h : Refused ≡ Ended d = is in cc

-- A welcome does, of an end that was accepted.
welcome_ends : (stage : Stage) (d : Name) → (on_welcome stage).stage ≡ Ended d → (stage ≡ Accepted d) × ((on_welcome stage).answer ≡ Ok Over)
welcome_ends (Accepted other) d is = (let h : Ended other ≡ Ended d = is in cc, refl)
welcome_ends Claimed d is = absurd (let h : Refused ≡ Ended d = is in cc)
welcome_ends (Asked other) d is = absurd (let h : Refused ≡ Ended d = is in cc)
welcome_ends (Proved other) d is = absurd (let h : Refused ≡ Ended d = is in cc)
welcome_ends (Ended other) d is = absurd (let h : Refused ≡ Ended d = is in cc)
welcome_ends Refused d is = absurd (let h : Refused ≡ Ended d = is in cc)

-- A call took a welcome at an end that was accepted.
record IsWelcomed (call : Call) (e : End) (d : Name) : Type 0 where
  accepted : e.stage ≡ Accepted d
  at : State
  call_is : call ≡ took_welcome e at

module _ (s : State) (bytes : List ℕ) (e : End) (result : Result Next GreetFault) (d : Name) where
  ended_content : (c : Content) → bytes ≡ message_text (record { team = e.team; content = c }) → result ≡ (on_content s e c).answer → (on_content s e c).stage ≡ Ended d → IsWelcomed (takes s bytes result) e d
  ended_content (Claims claim) text answer ended = absurd (claim_ends s e claim e.stage d ended)
  ended_content (Proves signature) text answer ended = absurd (proof_ends s e signature e.stage d ended)
  ended_content (Refuses fault) text answer ended = absurd (refusal_ends e.stage d ended)
  ended_content Welcomes text answer ended =
      let known = welcome_ends e.stage d ended in
      record { accepted = known.0; at = s; call_is = took_is s bytes result (welcome_to e) Over text (answer ∙ known.1) }

  ended_found : (found : Option Message) → Reads IsMessage message_text bytes found → result ≡ (reaction s e found).answer → (reaction s e found).stage ≡ Ended d → IsWelcomed (takes s bytes result) e d
  ended_found None reads answer ended = absurd (let h : Refused ≡ Ended d = ended in cc)
  ended_found (Some m) reads answer ended = by_test (same_name m.team e.team) refl answer ended where
    by_test : (b : Bool) → same_name m.team e.team ≡ b → result ≡ (cond b (on_content s e m.content) (refusing OtherTeam)).answer
        → (cond b (on_content s e m.content) (refusing OtherTeam)).stage ≡ Ended d → IsWelcomed (takes s bytes result) e d
    by_test true same is at_end =
        let team : m.team ≡ e.team = (bytes_decides m.team e.team).0 same in
        let whole : ◌≡◌ {A = Message} m (record { team = e.team; content = m.content }) = λ i. record { team = team i; content = m.content } in
        ended_content m.content (reads.found.1 ∙ ap (λ (n : Message). message_text n) whole) is at_end
    by_test false same is at_end = absurd (let h : Refused ≡ Ended d = at_end in cc)

ended_take : (s : State) (bytes : List ℕ) (e new : End) (result : Result Next GreetFault) (d : Name) (found : Option Message) → Reads IsMessage message_text bytes found → result ≡ (reaction s e found).answer
    → new ≡ record e { stage = (reaction s e found).stage } → new.stage ≡ Ended d → (e.stage ≡ Ended d) ⊎ IsWelcomed (takes s bytes result) e d
ended_take s bytes e new result d found reads answer is ended = inr (ended_found s bytes e result d found reads answer (sym (ap (λ (x : End). x.stage) is) ∙ ended))

ended_same : (call : Call) (e new : End) (d : Name) → new ≡ e → new.stage ≡ Ended d → (e.stage ≡ Ended d) ⊎ IsWelcomed call e d
ended_same call e new d is ended = inl (sym (ap (λ (x : End). x.stage) is) ∙ ended)

ended_proving : (stage : Stage) (d : Name) → proved stage ≡ Ended d → stage ≡ Ended d
ended_proving (Asked claim) d is = absurd (let h : Proved claim ≡ Ended d = is in cc)
ended_proving Claimed d is = is
ended_proving (Proved claim) d is = is
ended_proving (Accepted other) d is = is
ended_proving (Ended other) d is = is
ended_proving Refused d is = is

-- An end that has ended after a call had before it, or was welcomed by it.
ended_call : (call : Call) (e new : End) (d : Name) → IsCalled call e new → new.stage ≡ Ended d → (e.stage ≡ Ended d) ⊎ IsWelcomed call e d
ended_call (takes s bytes (Ok next)) e new d h ended = ended_take s bytes e new (Ok next) d h.0 h.1 h.2 h.3 ended
ended_call (takes s bytes (Err BadMessage)) e new d h ended = ended_take s bytes e new (Err BadMessage) d h.0 h.1 h.2 h.3 ended
ended_call (takes s bytes (Err OtherTeam)) e new d h ended = ended_take s bytes e new (Err OtherTeam) d h.0 h.1 h.2 h.3 ended
ended_call (takes s bytes (Err OutOfTurn)) e new d h ended = ended_take s bytes e new (Err OutOfTurn) d h.0 h.1 h.2 h.3 ended
ended_call (takes s bytes (Err UnknownDevice)) e new d h ended = ended_take s bytes e new (Err UnknownDevice) d h.0 h.1 h.2 h.3 ended
ended_call (takes s bytes (Err BadProof)) e new d h ended = ended_take s bytes e new (Err BadProof) d h.0 h.1 h.2 h.3 ended
ended_call (takes s bytes (Err Memory)) e new d h ended = ended_same (takes s bytes (Err Memory)) e new d h ended
ended_call (signs signature (Err none)) e new d h ended = ended_same (signs signature (Err none)) e new d h ended
ended_call (signs signature (Ok text)) e new d h ended = inl (ended_proving e.stage d (sym (ap (λ (x : End). x.stage) h.1) ∙ ended))

-- The first call of a list, and the rest of it.
by_first : (call : Call) (calls : List Call) (e mid new : End) (d : Name) → IsCalled call e mid → AreCalled calls mid new → (e.stage ≡ Ended d) ⊎ IsWelcomed call e d
    → (e.stage ≡ Ended d) ⊎ WasAccepted (call ∷ calls) e new d
by_first call calls e mid new d first rest (inl is) = inl is
by_first call calls e mid new d first rest (inr h) = inr (record {
  first = [];
  mid = e;
  accepted = h.accepted;
  at = h.at;
  rest = calls;
  calls_are = ap (λ (c : Call). c ∷ calls) h.call_is;
  to_mid = refl;
  from_mid = (mid, subst (λ (c : Call). IsCalled c e mid) h.call_is first, rest);
})

by_rest : (call : Call) (calls : List Call) (e mid new : End) (d : Name) → IsCalled call e mid → AreCalled calls mid new → (mid.stage ≡ Ended d) ⊎ WasAccepted calls mid new d
    → (e.stage ≡ Ended d) ⊎ WasAccepted (call ∷ calls) e new d
by_rest call calls e mid new d first rest (inl ended) = by_first call calls e mid new d first rest (ended_call call e mid d first ended)
by_rest call calls e mid new d first rest (inr h) = inr (record {
  first = call ∷ h.first;
  mid = h.mid;
  accepted = h.accepted;
  at = h.at;
  rest = h.rest;
  calls_are = ap (λ (l : List Call). call ∷ l) h.calls_are;
  to_mid = (mid, first, h.to_mid);
  from_mid = h.from_mid;
})

ended_calls : (calls : List Call) (e new : End) (d : Name) → AreCalled calls e new → new.stage ≡ Ended d → (e.stage ≡ Ended d) ⊎ WasAccepted calls e new d
ended_calls [] e new d h ended = inl (sym (ap (λ (x : End). x.stage) h) ∙ ended)
ended_calls (call ∷ calls) e new d h ended = by_rest call calls e h.0 new d h.1 h.2 (ended_calls calls h.0 new d h.2 ended)

pub unaccepted_none : NoneEndsUnaccepted
unaccepted_none team own calls e d h ended = by_start (ended_calls calls (started team own) e d h ended) where
  by_start : (Claimed ≡ Ended d) ⊎ WasAccepted calls (started team own) e d → WasAccepted calls (started team own) e d
  by_start (inl is) = absurd (let start : Claimed ≡ Ended d = is in cc)
  by_start (inr was) = was
