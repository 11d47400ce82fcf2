-- The text of a message, line by line, and that it is the text of one message.
use Rattle.std.proofs.Common.{◌≡◌, ℕ, ◌==◌, option_map, true, false, List, [], ◌∷◌, ◌++◌, Option, None, Some, Result, Ok, Err, IfOk, IsTrue, length, codes, refl, sym, ap, ◌∙◌, subst, true≢false, append-nil, append_assoc, arith}
use Rattle.std.proofs.lemmas.Bool.{eqb-true}
use Rattle.tg_text.specs.Reading.{Reads, Takes}
use Rattle.tg_text.specs.Spelling.{AreBytes, IsHash, IsPublicKey, has_newline, is_user_name, line_of, spell_base64, spell_hex}
use Rattle.tg_text.proofs.FieldLaws.{base64_lacks, base64_once, hex_lacks, hex_once, name_lacks}
use Rattle.tg_text.proofs.FieldLines.{spelled_once, takes}
use Rattle.handshake.specs.Messages.{IsClaim, IsContent, IsContentOf, IsHead, IsMessage, IsNamed, MessageIsSpelledOnce, claim_lines, content_lines, fault_line, head_lines, key_line, kind_line, kind_of, kind_word, message_text, nonce_line, sign_line, spell_fault, team_line, user_line}
use Rattle.handshake.specs.declared.fault.GreetFault.{GreetFault}
use Rattle.handshake.specs.declared.fault.GreetFault.TheVariants.{BadMessage, OtherTeam, OutOfTurn, UnknownDevice, BadProof, Memory}
use Rattle.handshake.specs.declared.message.Claim.{Claim}
use Rattle.handshake.specs.declared.message.Content.{Content}
use Rattle.handshake.specs.declared.message.Content.TheVariants.{Claims, Proves, Welcomes, Refuses}
use Rattle.handshake.specs.declared.message.Head.{Head}
use Rattle.handshake.specs.declared.message.Kind.{Kind}
use Rattle.handshake.specs.declared.message.Kind.TheVariants as kind
use Rattle.handshake.specs.declared.message.Message.{Message}

pub kind_lacks : (k : Kind) → has_newline (kind_word k) ≡ false
kind_lacks kind.Claim = refl
kind_lacks kind.Proof = refl
kind_lacks kind.Welcome = refl
kind_lacks kind.Refuse = refl

pub fault_lacks : (fault : GreetFault) → has_newline (spell_fault fault) ≡ false
fault_lacks BadMessage = refl
fault_lacks OtherTeam = refl
fault_lacks OutOfTurn = refl
fault_lacks UnknownDevice = refl
fault_lacks BadProof = refl
fault_lacks Memory = refl

pub is_nil : (bytes : List ℕ) → (length bytes == 0) ≡ true → bytes ≡ []
is_nil [] e = refl
is_nil (b ∷ bytes) e = absurd (let h : length (b ∷ bytes) ≡ 0 = eqb-true (length (b ∷ bytes)) 0 e in omega (arith, h))

-- What is no line is no text of one line.
pub reads_none : {X : Type 0} (IsX : X → Type 0) (spell : X → List ℕ) (text new : List ℕ) (read : Option X) → Takes IsX spell text new read → read ≡ None → Reads IsX spell text None
reads_none IsX spell text new read takes none = record {
  found = tt;
  only = λ x is e. sym none ∙ (takes.only x [] is (e ∙ sym (append-nil (spell x)))).0;
}

-- What is taken off a text of which nothing is left is all that it spells,
pub reads_whole : {X : Type 0} (IsX : X → Type 0) (spell : X → List ℕ) (text new : List ℕ) (read : Option X) → Takes IsX spell text new read → new ≡ [] → Reads IsX spell text read
reads_whole IsX spell text new None takes nil = reads_none IsX spell text new None takes refl
reads_whole IsX spell text new (Some x) takes nil = record {
  found = (takes.found.0, takes.found.1 ∙ ap (λ (t : List ℕ). spell x ++ t) nil ∙ append-nil (spell x));
  only = λ y is e. (takes.only y [] is (e ∙ sym (append-nil (spell y)))).0;
}

-- and where something is left, it spells nothing.
pub reads_more : {X : Type 0} (IsX : X → Type 0) (spell : X → List ℕ) (text new : List ℕ) (read : Option X) → Takes IsX spell text new read → (length new == 0) ≡ false → Reads IsX spell text None
reads_more IsX spell text new read takes more = record {
  found = tt;
  only = λ x is e. absurd (true≢false (sym (ap (λ (t : List ℕ). length t == 0) (takes.only x [] is (e ∙ sym (append-nil (spell x)))).1) ∙ more));
}

some_once : {X : Type 0} (x y : X) → Some x ≡ Some y → x ≡ y
some_once x y e = cc

none_some : {X : Type 0} (x : X) → None ≡ Some x → ⊥
none_some x e = cc

pub no_some : {X : Type 0} (read : Option X) (x : X) → read ≡ None → read ≡ Some x → ⊥
no_some read x none some = none_some x (sym none ∙ some)

-- A claim is read of its three lines, where nothing else stands there.
pub no_user : (text l0 l1 : List ℕ) (user : Option (List ℕ)) → l0 ≡ text → Takes (λ (u : List ℕ). IsTrue (is_user_name u)) user_line l0 l1 user → user ≡ None → Reads IsClaim claim_lines text None
no_user text l0 l1 user begin first none = record {
  found = tt;
  only = λ claim is e. absurd (no_some user claim.user none (first.only claim.user (key_line claim.key ++ nonce_line claim.nonce) is.user (begin ∙ e)).0);
}

pub no_key : (text l0 l1 l2 user : List ℕ) (key : Option (List ℕ)) → l0 ≡ text → Takes (λ (u : List ℕ). IsTrue (is_user_name u)) user_line l0 l1 (Some user) → Takes IsPublicKey key_line l1 l2 key → key ≡ None
    → Reads IsClaim claim_lines text None
no_key text l0 l1 l2 user key begin first second none = record {
  found = tt;
  only = λ claim is e.
      let e1 = (first.only claim.user (key_line claim.key ++ nonce_line claim.nonce) is.user (begin ∙ e)).1 in
      absurd (no_some key claim.key none (second.only claim.key (nonce_line claim.nonce) is.key e1).0);
}

-- what is left after two lines of a claim
rest_after : (text l0 l1 l2 user key : List ℕ) → l0 ≡ text → Takes (λ (u : List ℕ). IsTrue (is_user_name u)) user_line l0 l1 (Some user) → Takes IsPublicKey key_line l1 l2 (Some key)
    → (claim : Claim) → IsClaim claim → text ≡ claim_lines claim → (user ≡ claim.user) × (key ≡ claim.key) × (l2 ≡ nonce_line claim.nonce ++ [])
rest_after text l0 l1 l2 user key begin first second claim is e =
    let one = first.only claim.user (key_line claim.key ++ nonce_line claim.nonce) is.user (begin ∙ e) in
    let two = second.only claim.key (nonce_line claim.nonce) is.key one.1 in
    (some_once user claim.user one.0, some_once key claim.key two.0, two.1 ∙ sym (append-nil (nonce_line claim.nonce)))

pub no_nonce : (text l0 l1 l2 l3 user key : List ℕ) (nonce : Option (List ℕ)) → l0 ≡ text → Takes (λ (u : List ℕ). IsTrue (is_user_name u)) user_line l0 l1 (Some user) → Takes IsPublicKey key_line l1 l2 (Some key)
    → Takes IsHash nonce_line l2 l3 nonce → nonce ≡ None → Reads IsClaim claim_lines text None
no_nonce text l0 l1 l2 l3 user key nonce begin first second third none = record {
  found = tt;
  only = λ claim is e. absurd (no_some nonce claim.nonce none (third.only claim.nonce [] is.nonce (rest_after text l0 l1 l2 user key begin first second claim is e).2).0);
}

pub no_end : (text l0 l1 l2 l3 user key nonce : List ℕ) → l0 ≡ text → Takes (λ (u : List ℕ). IsTrue (is_user_name u)) user_line l0 l1 (Some user) → Takes IsPublicKey key_line l1 l2 (Some key)
    → Takes IsHash nonce_line l2 l3 (Some nonce) → (length l3 == 0) ≡ false → Reads IsClaim claim_lines text None
no_end text l0 l1 l2 l3 user key nonce begin first second third more = record {
  found = tt;
  only = λ claim is e.
      absurd (true≢false (sym (ap (λ (t : List ℕ). length t == 0) (third.only claim.nonce [] is.nonce (rest_after text l0 l1 l2 user key begin first second claim is e).2).1) ∙ more));
}

pub claim_is : (text l0 l1 l2 l3 user key nonce : List ℕ) → l0 ≡ text → Takes (λ (u : List ℕ). IsTrue (is_user_name u)) user_line l0 l1 (Some user) → Takes IsPublicKey key_line l1 l2 (Some key)
    → Takes IsHash nonce_line l2 l3 (Some nonce) → l3 ≡ [] → Reads IsClaim claim_lines text (Some (record { user = user; key = key; nonce = nonce }))
claim_is text l0 l1 l2 l3 user key nonce begin first second third nil = record {
  found = (
    record { user = first.found.0; key = second.found.0; nonce = third.found.0 },
    sym begin ∙ first.found.1 ∙ ap (λ (t : List ℕ). user_line user ++ t) (second.found.1 ∙ ap (λ (t : List ℕ). key_line key ++ t) (third.found.1 ∙ ap (λ (t : List ℕ). nonce_line nonce ++ t) nil ∙ append-nil (nonce_line nonce))),
  );
  only = λ claim is e.
      let rest = rest_after text l0 l1 l2 user key begin first second claim is e in
      let same_user : user ≡ claim.user = rest.0 in
      let same_key : key ≡ claim.key = rest.1 in
      let same_nonce : nonce ≡ claim.nonce = some_once nonce claim.nonce (third.only claim.nonce [] is.nonce rest.2).0 in
      λ i. Some (record { user = same_user i; key = same_key i; nonce = same_nonce i });
}

-- What is read after the first two lines makes what the message says.
pub claims : (text : List ℕ) (read : Option Claim) → Reads IsClaim claim_lines text read → Reads (IsContentOf kind.Claim) content_lines text (option_map (λ (x : Claim). Claims x) read)
claims text None reads = record { found = tt; only = no } where
  no : (c : Content) → IsContentOf kind.Claim c → text ≡ content_lines c → None ≡ Some c
  no (Claims claim) is e = absurd (none_some claim (reads.only claim is.1 e))
  no (Proves signature) is e = absurd (let h : kind.Proof ≡ kind.Claim = is.0 in cc)
  no Welcomes is e = absurd (let h : kind.Welcome ≡ kind.Claim = is.0 in cc)
  no (Refuses fault) is e = absurd (let h : kind.Refuse ≡ kind.Claim = is.0 in cc)
claims text (Some found) reads = record { found = ((refl, reads.found.0), reads.found.1); only = same } where
  same : (c : Content) → IsContentOf kind.Claim c → text ≡ content_lines c → Some (Claims found) ≡ Some c
  same (Claims claim) is e = ap (λ (x : Claim). Some (Claims x)) (some_once found claim (reads.only claim is.1 e))
  same (Proves signature) is e = absurd (let h : kind.Proof ≡ kind.Claim = is.0 in cc)
  same Welcomes is e = absurd (let h : kind.Welcome ≡ kind.Claim = is.0 in cc)
  same (Refuses fault) is e = absurd (let h : kind.Refuse ≡ kind.Claim = is.0 in cc)

pub proofs : (text : List ℕ) (read : Option (List ℕ)) → Reads AreBytes sign_line text read → Reads (IsContentOf kind.Proof) content_lines text (option_map (λ (x : List ℕ). Proves x) read)
proofs text None reads = record { found = tt; only = no } where
  no : (c : Content) → IsContentOf kind.Proof c → text ≡ content_lines c → None ≡ Some c
  no (Proves signature) is e = absurd (none_some signature (reads.only signature is.1 e))
  no (Claims claim) is e = absurd (let h : kind.Claim ≡ kind.Proof = is.0 in cc)
  no Welcomes is e = absurd (let h : kind.Welcome ≡ kind.Proof = is.0 in cc)
  no (Refuses fault) is e = absurd (let h : kind.Refuse ≡ kind.Proof = is.0 in cc)
proofs text (Some found) reads = record { found = ((refl, reads.found.0), reads.found.1); only = same } where
  same : (c : Content) → IsContentOf kind.Proof c → text ≡ content_lines c → Some (Proves found) ≡ Some c
  same (Proves signature) is e = ap (λ (x : List ℕ). Some (Proves x)) (some_once found signature (reads.only signature is.1 e))
  same (Claims claim) is e = absurd (let h : kind.Claim ≡ kind.Proof = is.0 in cc)
  same Welcomes is e = absurd (let h : kind.Welcome ≡ kind.Proof = is.0 in cc)
  same (Refuses fault) is e = absurd (let h : kind.Refuse ≡ kind.Proof = is.0 in cc)

pub refusals : (text : List ℕ) (read : Option GreetFault) → Reads IsNamed fault_line text read → Reads (IsContentOf kind.Refuse) content_lines text (option_map (λ (x : GreetFault). Refuses x) read)
refusals text None reads = record { found = tt; only = no } where
  no : (c : Content) → IsContentOf kind.Refuse c → text ≡ content_lines c → None ≡ Some c
  no (Refuses fault) is e = absurd (none_some fault (reads.only fault is.1 e))
  no (Claims claim) is e = absurd (let h : kind.Claim ≡ kind.Refuse = is.0 in cc)
  no Welcomes is e = absurd (let h : kind.Welcome ≡ kind.Refuse = is.0 in cc)
  no (Proves signature) is e = absurd (let h : kind.Proof ≡ kind.Refuse = is.0 in cc)
refusals text (Some found) reads = record { found = ((refl, reads.found.0), reads.found.1); only = same } where
  same : (c : Content) → IsContentOf kind.Refuse c → text ≡ content_lines c → Some (Refuses found) ≡ Some c
  same (Refuses fault) is e = ap (λ (x : GreetFault). Some (Refuses x)) (some_once found fault (reads.only fault is.1 e))
  same (Claims claim) is e = absurd (let h : kind.Claim ≡ kind.Refuse = is.0 in cc)
  same Welcomes is e = absurd (let h : kind.Welcome ≡ kind.Refuse = is.0 in cc)
  same (Proves signature) is e = absurd (let h : kind.Proof ≡ kind.Refuse = is.0 in cc)

pub welcome : (text : List ℕ) → text ≡ [] → Reads (IsContentOf kind.Welcome) content_lines text (Some Welcomes)
welcome text nil = record { found = ((refl, tt), nil); only = same } where
  same : (c : Content) → IsContentOf kind.Welcome c → text ≡ content_lines c → Some Welcomes ≡ Some c
  same Welcomes is e = refl
  same (Claims claim) is e = absurd (let h : kind.Claim ≡ kind.Welcome = is.0 in cc)
  same (Refuses fault) is e = absurd (let h : kind.Refuse ≡ kind.Welcome = is.0 in cc)
  same (Proves signature) is e = absurd (let h : kind.Proof ≡ kind.Welcome = is.0 in cc)

pub no_welcome : (text : List ℕ) → (length text == 0) ≡ false → Reads (IsContentOf kind.Welcome) content_lines text None
no_welcome text more = record { found = tt; only = no } where
  no : (c : Content) → IsContentOf kind.Welcome c → text ≡ content_lines c → None ≡ Some c
  no Welcomes is e = absurd (true≢false (sym (ap (λ (t : List ℕ). length t == 0) e) ∙ more))
  no (Claims claim) is e = absurd (let h : kind.Claim ≡ kind.Welcome = is.0 in cc)
  no (Refuses fault) is e = absurd (let h : kind.Refuse ≡ kind.Welcome = is.0 in cc)
  no (Proves signature) is e = absurd (let h : kind.Proof ≡ kind.Welcome = is.0 in cc)

pub claims_none : (text : List ℕ) (read : Option Claim) → read ≡ None → Reads IsClaim claim_lines text read → Reads (IsContentOf kind.Claim) content_lines text None
claims_none text read none reads = claims text None (subst (λ (r : Option Claim). Reads IsClaim claim_lines text r) none reads)

pub refusals_none : (text : List ℕ) (read : Option GreetFault) → read ≡ None → Reads IsNamed fault_line text read → Reads (IsContentOf kind.Refuse) content_lines text None
refusals_none text read none reads = refusals text None (subst (λ (r : Option GreetFault). Reads IsNamed fault_line text r) none reads)

pub proofs_none : (text : List ℕ) (read : Option (List ℕ)) → read ≡ None → Reads AreBytes sign_line text read → Reads (IsContentOf kind.Proof) content_lines text None
proofs_none text read none reads = proofs text None (subst (λ (r : Option (List ℕ)). Reads AreBytes sign_line text r) none reads)

pub proofs_some : (text : List ℕ) (read : Option (List ℕ)) (signature : List ℕ) → read ≡ Some signature → Reads AreBytes sign_line text read → Reads (IsContentOf kind.Proof) content_lines text (Some (Proves signature))
proofs_some text read signature some reads = proofs text (Some signature) (subst (λ (r : Option (List ℕ)). Reads AreBytes sign_line text r) some reads)

-- The first two lines of a message are taken one after the other.
pub no_kind : (old mid : List ℕ) (new : List ℕ) (k : Option Kind) → Takes (λ (x : Kind). Unit {0}) kind_line old mid k → k ≡ None → Takes IsHead head_lines old new None
no_kind old mid new k first none = record {
  found = tt;
  only = λ head rest is e. absurd (no_some k head.kind none (first.only head.kind (team_line head.team ++ rest) tt (e ∙ append_assoc (kind_line head.kind) (team_line head.team) rest)).0);
}

pub no_team : (old mid new : List ℕ) (k : Kind) (team : Option (List ℕ)) → Takes (λ (x : Kind). Unit {0}) kind_line old mid (Some k) → Takes IsHash team_line mid new team → team ≡ None
    → Takes IsHead head_lines old new None
no_team old mid new k team first second none = record {
  found = tt;
  only = λ head rest is e.
      let e1 = (first.only head.kind (team_line head.team ++ rest) tt (e ∙ append_assoc (kind_line head.kind) (team_line head.team) rest)).1 in
      absurd (no_some team head.team none (second.only head.team rest is e1).0);
}

pub head_is : (old mid new : List ℕ) (k : Kind) (team : List ℕ) → Takes (λ (x : Kind). Unit {0}) kind_line old mid (Some k) → Takes IsHash team_line mid new (Some team)
    → Takes IsHead head_lines old new (Some (record { kind = k; team = team }))
head_is old mid new k team first second = record {
  found = (second.found.0, first.found.1 ∙ ap (λ (t : List ℕ). kind_line k ++ t) second.found.1 ∙ sym (append_assoc (kind_line k) (team_line team) new));
  only = λ head rest is e.
      let one = first.only head.kind (team_line head.team ++ rest) tt (e ∙ append_assoc (kind_line head.kind) (team_line head.team) rest) in
      let two = second.only head.team rest is one.1 in
      let same_kind : k ≡ head.kind = some_once k head.kind one.0 in
      let same_team : team ≡ head.team = some_once team head.team two.0 in
      (λ i. Some (record { kind = same_kind i; team = same_team i }), two.1);
}

-- A message is read of its first two lines, and of what it says.
pub no_head : (text begin new : List ℕ) (head : Option Head) → begin ≡ text → Takes IsHead head_lines begin new head → head ≡ None → Reads IsMessage message_text text None
no_head text begin new head is takes none = record {
  found = tt;
  only = λ m range e.
      let top : Head = record { kind = kind_of m.content; team = m.team } in
      absurd (no_some head top none (takes.only top (content_lines m.content) range.team (is ∙ e ∙ sym (append_assoc (kind_line top.kind) (team_line top.team) (content_lines m.content)))).0);
}

rest_of : (text begin new : List ℕ) (head : Head) → begin ≡ text → Takes IsHead head_lines begin new (Some head)
    → (m : Message) → IsMessage m → text ≡ message_text m → (kind_of m.content ≡ head.kind) × (head.team ≡ m.team) × (new ≡ content_lines m.content)
rest_of text begin new head is takes m range e =
    let top : Head = record { kind = kind_of m.content; team = m.team } in
    let one = takes.only top (content_lines m.content) range.team (is ∙ e ∙ sym (append_assoc (kind_line top.kind) (team_line top.team) (content_lines m.content))) in
    let same : head ≡ top = some_once head top one.0 in
    (sym (ap (λ (h : Head). h.kind) same), ap (λ (h : Head). h.team) same, one.1)

pub no_content : (text begin new rest : List ℕ) (head : Head) (content : Option Content) → begin ≡ text → Takes IsHead head_lines begin new (Some head) → rest ≡ new
    → Reads (IsContentOf head.kind) content_lines rest content → content ≡ None → Reads IsMessage message_text text None
no_content text begin new rest head content is takes left reads none = record {
  found = tt;
  only = λ m range e.
      let known = rest_of text begin new head is takes m range e in
      absurd (no_some content m.content none (reads.only m.content (known.0, range.content) (left ∙ known.2)));
}

pub message_is : (text begin new rest : List ℕ) (head : Head) (read : Option Content) (content : Content) → begin ≡ text → Takes IsHead head_lines begin new (Some head) → rest ≡ new
    → Reads (IsContentOf head.kind) content_lines rest read → read ≡ Some content → Reads IsMessage message_text text (Some (record { team = head.team; content = content }))
message_is text begin new rest head None content is takes left reads some = absurd (none_some content some)
message_is text begin new rest head (Some found) content is takes left reads some =
    let same : found ≡ content = some_once found content some in
    subst (λ (c : Content). Reads IsMessage message_text text (Some (record { team = head.team; content = c }))) same (record {
      found = (
        record { team = takes.found.0; content = reads.found.0.1 },
        sym is ∙ takes.found.1 ∙ append_assoc (kind_line head.kind) (team_line head.team) new
            ∙ ap (λ (t : List ℕ). kind_line head.kind ++ (team_line head.team ++ t)) (sym left ∙ reads.found.1)
            ∙ ap (λ (k : Kind). kind_line k ++ (team_line head.team ++ content_lines found)) (sym reads.found.0.0),
      );
      only = λ m range e.
          let known = rest_of text begin new head is takes m range e in
          let same_team : head.team ≡ m.team = known.1 in
          let same_content : found ≡ m.content = some_once found m.content (reads.only m.content (known.0, range.content) (left ∙ known.2)) in
          λ i. Some (record { team = same_team i; content = same_content i });
    })

-- The reader of a signature makes the reader of its line, unless memory is short.
pub signs_taken : {E : Type 0} (field old new : List ℕ) (read : Result (Option (List ℕ)) E) → (has_newline field ≡ false) × (old ≡ codes "sign" ++ 32 ∷ (field ++ 10 ∷ new))
    → IfOk read (λ found. Reads AreBytes spell_base64 field found) → IfOk read (λ found. Takes AreBytes sign_line old new found)
signs_taken field old new (Ok found) line reads = takes AreBytes spell_base64 (codes "sign") field old new found (λ x is. base64_lacks 10 x refl refl) line reads
signs_taken field old new (Err fault) line reads = tt
