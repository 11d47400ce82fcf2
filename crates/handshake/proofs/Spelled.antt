-- A text is that of one message, and what is signed is signed for one team, nonce and pair of devices.
use Rattle.std.proofs.Common.{◌≡◌, ℕ, List, [], ◌∷◌, ◌++◌, true, codes, refl, sym, ap, ◌∙◌, true≢false, append-nil}
use Rattle.std.proofs.lemmas.List.{append_cancel_left}
use Rattle.tg_text.specs.Spelling.{has_newline, line_of, spell_base64, spell_hex}
use Rattle.tg_text.proofs.FieldLaws.{base64_lacks, base64_once, hex_lacks, hex_once, name_lacks}
use Rattle.tg_text.proofs.FieldLines.{spelled_once}
use Rattle.tg_text.proofs.Splits.{begins}
use Rattle.handshake.specs.Messages.{IsClaim, IsContent, IsMessage, IsNamed, IsSigned, MessageIsSpelledOnce, Signed, SignedTextsDiffer, claim_lines, content_lines, fault_line, key_line, kind_line, kind_of, kind_word, message_text, nonce_line, sign_line, signed_text, spell_fault, team_line, user_line}
use Rattle.handshake.specs.declared.fault.GreetFault.{GreetFault}
use Rattle.handshake.specs.declared.fault.GreetFault.TheVariants.{BadMessage, OtherTeam, OutOfTurn, UnknownDevice, BadProof, Memory}
use Rattle.handshake.specs.declared.message.Claim.{Claim}
use Rattle.handshake.specs.declared.message.Content.{Content}
use Rattle.handshake.specs.declared.message.Content.TheVariants.{Claims, Proves, Welcomes, Refuses}
use Rattle.handshake.specs.declared.message.Kind.{Kind}
use Rattle.handshake.specs.declared.message.Kind.TheVariants as kind
use Rattle.handshake.specs.declared.message.Message.{Message}
use Rattle.handshake.proofs.Texts.{fault_lacks, kind_lacks}

-- The words of faults differ,
fault_once : (a b : GreetFault) → IsNamed a → IsNamed b → spell_fault a ≡ spell_fault b → a ≡ b
unfolding begins
fault_once BadMessage BadMessage ha hb e = refl
fault_once BadMessage OtherTeam ha hb e = absurd (true≢false (ap (begins (codes "BadM")) e))
fault_once BadMessage OutOfTurn ha hb e = absurd (true≢false (ap (begins (codes "BadM")) e))
fault_once BadMessage UnknownDevice ha hb e = absurd (true≢false (ap (begins (codes "BadM")) e))
fault_once BadMessage BadProof ha hb e = absurd (true≢false (ap (begins (codes "BadM")) e))
fault_once OtherTeam OtherTeam ha hb e = refl
fault_once OtherTeam BadMessage ha hb e = absurd (true≢false (ap (begins (codes "Ot")) e))
fault_once OtherTeam OutOfTurn ha hb e = absurd (true≢false (ap (begins (codes "Ot")) e))
fault_once OtherTeam UnknownDevice ha hb e = absurd (true≢false (ap (begins (codes "Ot")) e))
fault_once OtherTeam BadProof ha hb e = absurd (true≢false (ap (begins (codes "Ot")) e))
fault_once OutOfTurn OutOfTurn ha hb e = refl
fault_once OutOfTurn BadMessage ha hb e = absurd (true≢false (ap (begins (codes "Ou")) e))
fault_once OutOfTurn OtherTeam ha hb e = absurd (true≢false (ap (begins (codes "Ou")) e))
fault_once OutOfTurn UnknownDevice ha hb e = absurd (true≢false (ap (begins (codes "Ou")) e))
fault_once OutOfTurn BadProof ha hb e = absurd (true≢false (ap (begins (codes "Ou")) e))
fault_once UnknownDevice UnknownDevice ha hb e = refl
fault_once UnknownDevice BadMessage ha hb e = absurd (true≢false (ap (begins (codes "U")) e))
fault_once UnknownDevice OtherTeam ha hb e = absurd (true≢false (ap (begins (codes "U")) e))
fault_once UnknownDevice OutOfTurn ha hb e = absurd (true≢false (ap (begins (codes "U")) e))
fault_once UnknownDevice BadProof ha hb e = absurd (true≢false (ap (begins (codes "U")) e))
fault_once BadProof BadProof ha hb e = refl
fault_once BadProof BadMessage ha hb e = absurd (true≢false (ap (begins (codes "BadP")) e))
fault_once BadProof OtherTeam ha hb e = absurd (true≢false (ap (begins (codes "BadP")) e))
fault_once BadProof OutOfTurn ha hb e = absurd (true≢false (ap (begins (codes "BadP")) e))
fault_once BadProof UnknownDevice ha hb e = absurd (true≢false (ap (begins (codes "BadP")) e))
fault_once Memory b ha hb e = absurd ha
fault_once a Memory ha hb e = absurd hb

-- and so do those of kinds.
kind_once : (a b : Kind) → kind_word a ≡ kind_word b → a ≡ b
unfolding begins
kind_once kind.Claim kind.Claim e = refl
kind_once kind.Claim kind.Proof e = absurd (true≢false (ap (begins (codes "c")) e))
kind_once kind.Claim kind.Welcome e = absurd (true≢false (ap (begins (codes "c")) e))
kind_once kind.Claim kind.Refuse e = absurd (true≢false (ap (begins (codes "c")) e))
kind_once kind.Proof kind.Proof e = refl
kind_once kind.Proof kind.Claim e = absurd (true≢false (ap (begins (codes "p")) e))
kind_once kind.Proof kind.Welcome e = absurd (true≢false (ap (begins (codes "p")) e))
kind_once kind.Proof kind.Refuse e = absurd (true≢false (ap (begins (codes "p")) e))
kind_once kind.Welcome kind.Welcome e = refl
kind_once kind.Welcome kind.Claim e = absurd (true≢false (ap (begins (codes "w")) e))
kind_once kind.Welcome kind.Proof e = absurd (true≢false (ap (begins (codes "w")) e))
kind_once kind.Welcome kind.Refuse e = absurd (true≢false (ap (begins (codes "w")) e))
kind_once kind.Refuse kind.Refuse e = refl
kind_once kind.Refuse kind.Claim e = absurd (true≢false (ap (begins (codes "r")) e))
kind_once kind.Refuse kind.Proof e = absurd (true≢false (ap (begins (codes "r")) e))
kind_once kind.Refuse kind.Welcome e = absurd (true≢false (ap (begins (codes "r")) e))

-- A claim has one spelling.
claim_once : (a b : Claim) → IsClaim a → IsClaim b → claim_lines a ≡ claim_lines b → a ≡ b
claim_once a b is it e =
    let user = spelled_once (codes "user") a.user b.user (key_line a.key ++ nonce_line a.nonce) (key_line b.key ++ nonce_line b.nonce) (name_lacks 10 a.user refl is.user) (name_lacks 10 b.user refl it.user) e in
    let key = spelled_once (codes "key") (spell_base64 a.key) (spell_base64 b.key) (nonce_line a.nonce) (nonce_line b.nonce) (base64_lacks 10 a.key refl refl) (base64_lacks 10 b.key refl refl) user.1 in
    let nonce = spelled_once (codes "nonce") (spell_hex a.nonce) (spell_hex b.nonce) [] [] (hex_lacks 10 a.nonce refl) (hex_lacks 10 b.nonce refl) (append-nil (nonce_line a.nonce) ∙ key.1 ∙ sym (append-nil (nonce_line b.nonce))) in
    let same_user : a.user ≡ b.user = user.0 in
    let same_key : a.key ≡ b.key = base64_once a.key b.key is.key.bytes it.key.bytes key.0 in
    let same_nonce : a.nonce ≡ b.nonce = hex_once a.nonce b.nonce is.nonce.bytes it.nonce.bytes nonce.0 in
    λ i. record { user = same_user i; key = same_key i; nonce = same_nonce i }

-- What messages of one kind say has one spelling.
content_once : (a b : Content) → kind_of a ≡ kind_of b → IsContent a → IsContent b → content_lines a ≡ content_lines b → a ≡ b
content_once (Claims a) (Claims b) k is it e = ap (λ (x : Claim). Claims x) (claim_once a b is it e)
content_once (Proves a) (Proves b) k is it e =
    let sign = spelled_once (codes "sign") (spell_base64 a) (spell_base64 b) [] [] (base64_lacks 10 a refl refl) (base64_lacks 10 b refl refl) (append-nil (sign_line a) ∙ e ∙ sym (append-nil (sign_line b))) in
    ap (λ (x : List ℕ). Proves x) (base64_once a b is it sign.0)
content_once Welcomes Welcomes k is it e = refl
content_once (Refuses a) (Refuses b) k is it e =
    let fault = spelled_once (codes "fault") (spell_fault a) (spell_fault b) [] [] (fault_lacks a) (fault_lacks b) (append-nil (fault_line a) ∙ e ∙ sym (append-nil (fault_line b))) in
    ap (λ (x : GreetFault). Refuses x) (fault_once a b is it fault.0)
content_once (Claims a) (Proves b) k is it e = absurd (let h : kind.Claim ≡ kind.Proof = k in cc)
content_once (Claims a) Welcomes k is it e = absurd (let h : kind.Claim ≡ kind.Welcome = k in cc)
content_once (Claims a) (Refuses b) k is it e = absurd (let h : kind.Claim ≡ kind.Refuse = k in cc)
content_once (Proves a) (Claims b) k is it e = absurd (let h : kind.Proof ≡ kind.Claim = k in cc)
content_once (Proves a) Welcomes k is it e = absurd (let h : kind.Proof ≡ kind.Welcome = k in cc)
content_once (Proves a) (Refuses b) k is it e = absurd (let h : kind.Proof ≡ kind.Refuse = k in cc)
content_once Welcomes (Claims b) k is it e = absurd (let h : kind.Welcome ≡ kind.Claim = k in cc)
content_once Welcomes (Proves b) k is it e = absurd (let h : kind.Welcome ≡ kind.Proof = k in cc)
content_once Welcomes (Refuses b) k is it e = absurd (let h : kind.Welcome ≡ kind.Refuse = k in cc)
content_once (Refuses a) (Claims b) k is it e = absurd (let h : kind.Refuse ≡ kind.Claim = k in cc)
content_once (Refuses a) (Proves b) k is it e = absurd (let h : kind.Refuse ≡ kind.Proof = k in cc)
content_once (Refuses a) Welcomes k is it e = absurd (let h : kind.Refuse ≡ kind.Welcome = k in cc)

pub message_once : MessageIsSpelledOnce
message_once m n is it e =
    let kinds = spelled_once (codes "team-greet 1") (kind_word (kind_of m.content)) (kind_word (kind_of n.content)) (team_line m.team ++ content_lines m.content) (team_line n.team ++ content_lines n.content)
    (kind_lacks (kind_of m.content)) (kind_lacks (kind_of n.content)) e in
    let team = spelled_once (codes "team") (spell_hex m.team) (spell_hex n.team) (content_lines m.content) (content_lines n.content) (hex_lacks 10 m.team refl) (hex_lacks 10 n.team refl) kinds.1 in
    let same_team : m.team ≡ n.team = hex_once m.team n.team is.team.bytes it.team.bytes team.0 in
    let same_content : m.content ≡ n.content = content_once m.content n.content (kind_once (kind_of m.content) (kind_of n.content) kinds.0) is.content it.content team.1 in
    λ i. record { team = same_team i; content = same_content i }

abbrev from_line : List ℕ → List ℕ
from_line from = line_of (codes "from" ∷ spell_hex from ∷ [])

abbrev to_line : List ℕ → List ℕ
to_line to = line_of (codes "to" ∷ spell_hex to ∷ [])

pub signed_once : SignedTextsDiffer
signed_once s t is it e =
    let first = append_cancel_left (line_of (codes "team-greeting" ∷ codes "1" ∷ [])) (team_line s.team ++ (nonce_line s.nonce ++ (from_line s.from ++ to_line s.to))) (team_line t.team ++ (nonce_line t.nonce ++ (from_line t.from ++ to_line t.to))) e in
    let team = spelled_once (codes "team") (spell_hex s.team) (spell_hex t.team) (nonce_line s.nonce ++ (from_line s.from ++ to_line s.to)) (nonce_line t.nonce ++ (from_line t.from ++ to_line t.to)) (hex_lacks 10 s.team refl) (hex_lacks 10 t.team refl) first in
    let nonce = spelled_once (codes "nonce") (spell_hex s.nonce) (spell_hex t.nonce) (from_line s.from ++ to_line s.to) (from_line t.from ++ to_line t.to) (hex_lacks 10 s.nonce refl) (hex_lacks 10 t.nonce refl) team.1 in
    let from = spelled_once (codes "from") (spell_hex s.from) (spell_hex t.from) (to_line s.to) (to_line t.to) (hex_lacks 10 s.from refl) (hex_lacks 10 t.from refl) nonce.1 in
    let to = spelled_once (codes "to") (spell_hex s.to) (spell_hex t.to) [] [] (hex_lacks 10 s.to refl) (hex_lacks 10 t.to refl) (append-nil (to_line s.to) ∙ from.1 ∙ sym (append-nil (to_line t.to))) in
    let same_team : s.team ≡ t.team = hex_once s.team t.team is.team.bytes it.team.bytes team.0 in
    let same_nonce : s.nonce ≡ t.nonce = hex_once s.nonce t.nonce is.nonce.bytes it.nonce.bytes nonce.0 in
    let same_from : s.from ≡ t.from = hex_once s.from t.from is.from.bytes it.from.bytes from.0 in
    let same_to : s.to ≡ t.to = hex_once s.to t.to is.to.bytes it.to.bytes to.0 in
    λ i. record { team = same_team i; nonce = same_nonce i; from = same_from i; to = same_to i }
