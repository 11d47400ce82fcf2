-- An end that is accepted has had a claim and a proof.
use Rattle.std.proofs.Common.{◌≡◌, ◌⊎◌, inl, inr, ℕ, Bool, true, false, cond, nat_eq, List, [], ◌∷◌, ◌++◌, Option, None, Some, Result, Ok, Err, refl, sym, ap, ◌∙◌, subst, append-nil, append_assoc}
use Rattle.std.specs.Cmp.Lexicographic.{bytes_decides}
use Rattle.lms_tree.specs.Verifying.{verifies}
use Rattle.team_sets.specs.Names.{Name, same_name}
use Rattle.team_model.specs.State.{State}
use Rattle.tg_text.specs.Reading.{Reads}
use Rattle.tg_text.specs.declared.memory.Memory.{Memory as NoMemory}
use Rattle.handshake.specs.Greetings.{End, Signs, Takes, asking, checking, is_listed, on_claim, on_content, on_proof, on_refusal, on_welcome, own_text, peer_text, proof_text, proved, reaction, refusing, started, welcome_text}
use Rattle.handshake.specs.Histories.{AreCalled, AreInOrder, Call, HasProved, IsCalled, NoneIsAcceptedUnproved, claim_to, proof_to, signs, takes, took, took_claim, took_own, took_proof}
use Rattle.handshake.specs.Messages.{IsMessage, device_of, message_text, signed_text}
use Rattle.handshake.specs.declared.fault.GreetFault.{GreetFault}
use Rattle.handshake.specs.declared.fault.GreetFault.TheVariants.{BadMessage, OtherTeam, OutOfTurn, UnknownDevice, BadProof, Memory}
use Rattle.handshake.specs.declared.message.Claim.{Claim}
use Rattle.handshake.specs.declared.message.Content.{Content}
use Rattle.handshake.specs.declared.message.Content.TheVariants.{Claims, Proves, Welcomes, Refuses}
use Rattle.handshake.specs.declared.message.Message.{Message}
use Rattle.handshake.specs.declared.stage.Next.{Next}
use Rattle.handshake.specs.declared.stage.Next.TheVariants.{Send, Sign}
use Rattle.handshake.specs.declared.stage.Stage.{Stage}
use Rattle.handshake.specs.declared.stage.Stage.TheVariants.{Claimed, Asked, Proved, Accepted, Ended, Refused}

-- What stands among the first calls stands among all,
order_more : (xs calls more : List Call) → AreInOrder xs calls → AreInOrder xs (calls ++ more)
order_more [] calls more h = tt
order_more (x ∷ xs) [] more h = absurd h
order_more (x ∷ xs) (call ∷ calls) more (inl h) = inl (h.0, order_more xs calls more h.1)
order_more (x ∷ xs) (call ∷ calls) more (inr h) = inr (order_more (x ∷ xs) calls more h)

-- and the last call after it.
order_last : (xs : List Call) (x last : Call) (calls : List Call) → last ≡ x → AreInOrder xs calls → AreInOrder (xs ++ x ∷ []) (calls ++ last ∷ [])
order_last [] x last [] e h = inl (e, tt)
order_last [] x last (call ∷ calls) e h = inr (order_last [] x last calls e tt)
order_last (y ∷ xs) x last [] e h = absurd h
order_last (y ∷ xs) x last (call ∷ calls) e (inl h) = inl (h.0, order_last xs x last calls e h.1)
order_last (y ∷ xs) x last (call ∷ calls) e (inr h) = inr (order_last (y ∷ xs) x last calls e h)

-- A claim was taken where it was listed, and then these calls were made.
record HasClaimed (calls : List Call) (e : End) (claim : Claim) (s : State) (more : List Call) : Type 0 where
  range : IsMessage (claim_to e claim)
  listed : is_listed s claim ≡ true
  in_order : AreInOrder (took_claim e s claim ∷ more) calls

claimed_more : (calls more : List Call) (e : End) (claim : Claim) (s : State) (later : List Call) → HasClaimed calls e claim s later → HasClaimed (calls ++ more) e claim s later
claimed_more calls more e claim s later h = record {
  range = h.range;
  listed = h.listed;
  in_order = order_more (took_claim e s claim ∷ later) calls more h.in_order;
}

proved_more : (calls more : List Call) (e : End) (d : Name) → HasProved calls e d → HasProved (calls ++ more) e d
proved_more calls more e d h = record {
  claim = h.claim;
  device_is = h.device_is;
  before = h.before;
  own = h.own;
  signature = h.signature;
  at = h.at;
  in_order = order_more (took_claim e h.before h.claim ∷ took_own e h.own ∷ took_proof e h.at h.signature ∷ []) calls more h.in_order;
  is_claim = h.is_claim;
  is_proof = h.is_proof;
  listed_before = h.listed_before;
  listed = h.listed;
  verified = h.verified;
}

-- What is known at each stage of an end that began as e.
abbrev Known : End → List Call → Stage → Type 0
Known e calls Claimed = Unit {0}
Known e calls (Asked claim) = (s : State) × HasClaimed calls e claim s []
Known e calls (Proved claim) = (s : State) × (own : List ℕ) × HasClaimed calls e claim s (took_own e own ∷ [])
Known e calls (Accepted d) = HasProved calls e d
Known e calls (Ended d) = HasProved calls e d
Known e calls Refused = Unit {0}

known_more : (e : End) (calls more : List Call) (stage : Stage) → Known e calls stage → Known e (calls ++ more) stage
known_more e calls more Claimed h = tt
known_more e calls more (Asked claim) h = (h.0, claimed_more calls more e claim h.0 [] h.1)
known_more e calls more (Proved claim) h = (h.0, h.1, claimed_more calls more e claim h.0 (took_own e h.1 ∷ []) h.2)
known_more e calls more (Accepted d) h = proved_more calls more e d h
known_more e calls more (Ended d) h = proved_more calls more e d h
known_more e calls more Refused h = tt

-- The end is of the team and the claim that it began with, and what is known of its stage is so.
record IsKnown (begin : End) (calls : List Call) (e : End) : Type 0 where
  team : e.team ≡ begin.team
  own : e.own ≡ begin.own
  known : Known begin calls e.stage

peer_same : (begin e : End) (claim : Claim) → e.team ≡ begin.team → e.own ≡ begin.own → peer_text e claim ≡ peer_text begin claim
peer_same begin e claim team own = λ i. signed_text (record { team = team i; nonce = (own i).nonce; from = device_of claim; to = device_of (own i) })

own_same : (begin e : End) (claim : Claim) → e.team ≡ begin.team → e.own ≡ begin.own → own_text e claim ≡ own_text begin claim
own_same begin e claim team own = λ i. signed_text (record { team = team i; nonce = claim.nonce; from = device_of (own i); to = device_of claim })

-- A call that took the text of a message, and answered so.
pub took_is : (s : State) (bytes : List ℕ) (result : Result Next GreetFault) (m : Message) (next : Next) → bytes ≡ message_text m → result ≡ Ok next → takes s bytes result ≡ took s m next
took_is s bytes result m next text is = λ i. takes s (text i) (is i)

module _ (begin e : End) (calls : List Call) (s : State) (bytes : List ℕ) (result : Result Next GreetFault) where
  abbrev all : List Call
  all = calls ++ takes s bytes result ∷ []

  after_claim : (claim : Claim) (stage : Stage) → e.team ≡ begin.team → e.own ≡ begin.own → IsMessage (claim_to begin claim) → bytes ≡ message_text (claim_to begin claim)
      → result ≡ (on_claim s e claim stage).answer → Known begin all (on_claim s e claim stage).stage
  after_claim claim Claimed team own range text answer = by_test (is_listed s claim) refl answer where
    by_test : (b : Bool) → is_listed s claim ≡ b → result ≡ (cond b (asking e claim) (refusing UnknownDevice)).answer → Known begin all (cond b (asking e claim) (refusing UnknownDevice)).stage
    by_test true listed is =
        let asked : result ≡ Ok (Sign (own_text begin claim)) = subst (λ (t : List ℕ). result ≡ Ok (Sign t)) (own_same begin e claim team own) is in (
          s,
          record {
            range = range;
            listed = listed;
            in_order = order_last [] (took_claim begin s claim) (takes s bytes result) calls (took_is s bytes result (claim_to begin claim) (Sign (own_text begin claim)) text asked) tt;
          },
        )
    by_test false listed is = tt
  after_claim claim (Asked other) team own range text answer = tt
  after_claim claim (Proved other) team own range text answer = tt
  after_claim claim (Accepted d) team own range text answer = tt
  after_claim claim (Ended d) team own range text answer = tt
  after_claim claim Refused team own range text answer = tt

  after_proof : (signature : List ℕ) (stage : Stage) → e.team ≡ begin.team → e.own ≡ begin.own → Known begin calls stage → IsMessage (proof_to begin signature)
      → bytes ≡ message_text (proof_to begin signature) → result ≡ (on_proof s e signature stage).answer → Known begin all (on_proof s e signature stage).stage
  after_proof signature (Proved claim) team own known range text answer = by_test (is_listed s claim) refl answer where
    by_check : is_listed s claim ≡ true → (b : Bool) → verifies claim.key (peer_text e claim) signature ≡ b
        → result ≡ (cond b (record { answer = Ok (Send (welcome_text e.team)); stage = Accepted (device_of claim) }) (refusing BadProof)).answer
        → Known begin all (cond b (record { answer = Ok (Send (welcome_text e.team)); stage = Accepted (device_of claim) }) (refusing BadProof)).stage
    by_check listed true verified is =
        let sent : result ≡ Ok (Send (welcome_text begin.team)) = subst (λ (t : Name). result ≡ Ok (Send (welcome_text t))) team is in
        record {
          claim = claim;
          device_is = refl;
          before = known.0;
          own = known.1;
          signature = signature;
          at = s;
          in_order = order_last (took_claim begin known.0 claim ∷ took_own begin known.1 ∷ []) (took_proof begin s signature) (takes s bytes result) calls
              (took_is s bytes result (proof_to begin signature) (Send (welcome_text begin.team)) text sent) known.2.in_order;
          is_claim = known.2.range;
          is_proof = range;
          listed_before = known.2.listed;
          listed = listed;
          verified = ap (λ (t : List ℕ). verifies claim.key t signature) (sym (peer_same begin e claim team own)) ∙ verified;
        }
    by_check listed false verified is = tt

    by_test : (b : Bool) → is_listed s claim ≡ b → result ≡ (cond b (checking e claim signature) (refusing UnknownDevice)).answer → Known begin all (cond b (checking e claim signature) (refusing UnknownDevice)).stage
    by_test true listed is = by_check listed (verifies claim.key (peer_text e claim) signature) refl is
    by_test false listed is = tt
  after_proof signature Claimed team own known range text answer = tt
  after_proof signature (Asked other) team own known range text answer = tt
  after_proof signature (Accepted d) team own known range text answer = tt
  after_proof signature (Ended d) team own known range text answer = tt
  after_proof signature Refused team own known range text answer = tt

  after_welcome : (stage : Stage) → Known begin calls stage → Known begin all (on_welcome stage).stage
  after_welcome (Accepted d) known = proved_more calls (takes s bytes result ∷ []) begin d known
  after_welcome Claimed known = tt
  after_welcome (Asked other) known = tt
  after_welcome (Proved other) known = tt
  after_welcome (Ended d) known = tt
  after_welcome Refused known = tt

  after_refusal : (stage : Stage) → Known begin all (on_refusal stage).stage
  after_refusal Claimed = tt
  after_refusal (Asked other) = tt
  after_refusal (Proved other) = tt
  after_refusal (Accepted d) = tt
  after_refusal (Ended d) = tt
  after_refusal Refused = tt

  after_content : (c : Content) → IsKnown begin calls e → IsMessage (record { team = begin.team; content = c }) → bytes ≡ message_text (record { team = begin.team; content = c })
      → result ≡ (on_content s e c).answer → Known begin all (on_content s e c).stage
  after_content (Claims claim) h range text answer = after_claim claim e.stage h.team h.own range text answer
  after_content (Proves signature) h range text answer = after_proof signature e.stage h.team h.own h.known range text answer
  after_content Welcomes h range text answer = after_welcome e.stage h.known
  after_content (Refuses fault) h range text answer = after_refusal e.stage

  after_found : (found : Option Message) → Reads IsMessage message_text bytes found → result ≡ (reaction s e found).answer → IsKnown begin calls e → Known begin all (reaction s e found).stage
  after_found None reads answer h = tt
  after_found (Some m) reads answer h = by_test (same_name m.team e.team) refl answer where
    by_test : (b : Bool) → same_name m.team e.team ≡ b → result ≡ (cond b (on_content s e m.content) (refusing OtherTeam)).answer → Known begin all (cond b (on_content s e m.content) (refusing OtherTeam)).stage
    by_test true same is =
        let team : m.team ≡ begin.team = (bytes_decides m.team e.team).0 same ∙ h.team in
        let whole : ◌≡◌ {A = Message} m (record { team = begin.team; content = m.content }) = λ i. record { team = team i; content = m.content } in
        after_content m.content h (subst (λ (n : Message). IsMessage n) whole reads.found.0) (reads.found.1 ∙ ap (λ (n : Message). message_text n) whole) is
    by_test false same is = tt

-- what a call that took bytes left
after_take : (begin e new : End) (calls : List Call) (s : State) (bytes : List ℕ) (result : Result Next GreetFault) (found : Option Message) → Reads IsMessage message_text bytes found
    → result ≡ (reaction s e found).answer → new ≡ record e { stage = (reaction s e found).stage } → IsKnown begin calls e → IsKnown begin (calls ++ takes s bytes result ∷ []) new
after_take begin e new calls s bytes result found reads answer is h =
    subst (λ (x : End). IsKnown begin (calls ++ takes s bytes result ∷ []) x) (sym is)
    (record { team = h.team; own = h.own; known = after_found begin e calls s bytes result found reads answer h })

nothing_new : (begin e new : End) (calls : List Call) (call : Call) → new ≡ e → IsKnown begin calls e → IsKnown begin (calls ++ call ∷ []) new
nothing_new begin e new calls call is h =
    subst (λ (x : End). IsKnown begin (calls ++ call ∷ []) x) (sym is) (record { team = h.team; own = h.own; known = known_more begin calls (call ∷ []) e.stage h.known })

after_proving : (begin : End) (calls : List Call) (own text : List ℕ) (stage : Stage) → text ≡ proof_text begin.team own → Known begin calls stage
    → Known begin (calls ++ signs own (Ok text) ∷ []) (proved stage)
after_proving begin calls own text (Asked claim) is h = (
  h.0,
  own,
  record {
    range = h.1.range;
    listed = h.1.listed;
    in_order = order_last (took_claim begin h.0 claim ∷ []) (took_own begin own) (signs own (Ok text)) calls (λ i. signs own (Ok (is i))) h.1.in_order;
  },
)
after_proving begin calls own text Claimed is h = tt
after_proving begin calls own text (Proved claim) is h = known_more begin calls (signs own (Ok text) ∷ []) (Proved claim) h
after_proving begin calls own text (Accepted d) is h = known_more begin calls (signs own (Ok text) ∷ []) (Accepted d) h
after_proving begin calls own text (Ended d) is h = known_more begin calls (signs own (Ok text) ∷ []) (Ended d) h
after_proving begin calls own text Refused is h = tt

after_call : (begin e new : End) (calls : List Call) (call : Call) → IsCalled call e new → IsKnown begin calls e → IsKnown begin (calls ++ call ∷ []) new
after_call begin e new calls (takes s bytes (Ok next)) h known = after_take begin e new calls s bytes (Ok next) h.0 h.1 h.2 h.3 known
after_call begin e new calls (takes s bytes (Err BadMessage)) h known = after_take begin e new calls s bytes (Err BadMessage) h.0 h.1 h.2 h.3 known
after_call begin e new calls (takes s bytes (Err OtherTeam)) h known = after_take begin e new calls s bytes (Err OtherTeam) h.0 h.1 h.2 h.3 known
after_call begin e new calls (takes s bytes (Err OutOfTurn)) h known = after_take begin e new calls s bytes (Err OutOfTurn) h.0 h.1 h.2 h.3 known
after_call begin e new calls (takes s bytes (Err UnknownDevice)) h known = after_take begin e new calls s bytes (Err UnknownDevice) h.0 h.1 h.2 h.3 known
after_call begin e new calls (takes s bytes (Err BadProof)) h known = after_take begin e new calls s bytes (Err BadProof) h.0 h.1 h.2 h.3 known
after_call begin e new calls (takes s bytes (Err Memory)) h known = nothing_new begin e new calls (takes s bytes (Err Memory)) h known
after_call begin e new calls (signs signature (Err none)) h known = nothing_new begin e new calls (signs signature (Err none)) h known
after_call begin e new calls (signs signature (Ok text)) h known =
    subst (λ (x : End). IsKnown begin (calls ++ signs signature (Ok text) ∷ []) x) (sym h.1)
    (record { team = known.team; own = known.own; known = after_proving begin calls signature text e.stage (h.0 ∙ ap (λ (t : Name). proof_text t signature) known.team) known.known })

after_calls : (begin e new : End) (before calls : List Call) → AreCalled calls e new → IsKnown begin before e → IsKnown begin (before ++ calls) new
after_calls begin e new before [] h known =
    subst (λ (x : End). IsKnown begin (before ++ []) x) (sym h) (subst (λ (l : List Call). IsKnown begin l e) (sym (append-nil before)) known)
after_calls begin e new before (call ∷ calls) h known =
    subst (λ (l : List Call). IsKnown begin l new) (append_assoc before (call ∷ []) calls)
    (after_calls begin h.0 new (before ++ call ∷ []) calls h.2 (after_call begin e h.0 before call h.1 known))

pub unproved_none : NoneIsAcceptedUnproved
unproved_none team own calls e d h ends =
    let known = after_calls (started team own) (started team own) e [] calls h (record { team = refl; own = refl; known = tt }) in
    by_end e.stage known.known ends
  where
    by_end : (stage : Stage) → Known (started team own) calls stage → (stage ≡ Accepted d) ⊎ (stage ≡ Ended d) → HasProved calls (started team own) d
    by_end stage known (inl is) = subst (λ (x : Stage). Known (started team own) calls x) is known
    by_end stage known (inr is) = subst (λ (x : Stage). Known (started team own) calls x) is known
