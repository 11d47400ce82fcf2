use Rattle.std.proofs.Common.{◌≡◌, ◌==◌, ℕ, List, [], ◌∷◌, ◌++◌, length, codes, sym, ap, ◌∙◌, true≢false}
use Rattle.tg_text.specs.Spelling.{line_of}
use Rattle.tg_text.proofs.Lists.{is_nil}
use Rattle.invitations.specs.Parts.{AreOfProof, of_proof_lines}
use Rattle.invitations.proofs.PartLaws.{reads_all, reads_more, reads_other}
use Rattle.invitations.proofs.proof_lines.read_proof_parts.Goals as goal

pub returns-in_default : goal.returns-in_default
returns-in_default c = reads_other AreOfProof of_proof_lines (line_of (codes "team-proof-file" ∷ codes "1" ∷ [])) c.args.text.now c.in_default.ensures

pub returns-then-not-is_empty : goal.returns-then-not-is_empty
returns-then-not-is_empty c =
    let head : List ℕ = line_of (codes "team-proof-file" ∷ codes "1" ∷ []) in
    reads_more AreOfProof of_proof_lines head c.args.text.now c.new-lines.result c.next_parts.new.lines c.in_ok-parts.parts
    (c.in-Some.ensures ∙ ap (λ (t : List ℕ). head ++ t) (sym c.new-lines.ensures)) c.in_ok-parts.ensures
    (λ nil. true≢false (ap (λ (t : List ℕ). length t == 0) (sym (c.rest.ensures ∙ nil)) ∙ sym c.is_empty.ensures ∙ c.if-not-is_empty.true))

pub returns : goal.returns
returns c =
    let head : List ℕ = line_of (codes "team-proof-file" ∷ codes "1" ∷ []) in
    reads_all AreOfProof of_proof_lines head c.args.text.now c.new-lines.result c.next_parts.new.lines c.in_ok-parts.parts
    (c.in-Some.ensures ∙ ap (λ (t : List ℕ). head ++ t) (sym c.new-lines.ensures)) c.in_ok-parts.ensures
    (sym c.rest.ensures ∙ is_nil c.rest.result.now (sym c.is_empty.ensures ∙ c.if-not-is_empty.false))
