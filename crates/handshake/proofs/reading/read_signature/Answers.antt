use Rattle.std.proofs.Common.{◌≡◌, ℕ, List, [], sym, ◌∙◌, subst}
use Rattle.tg_text.specs.Reading.{Reads}
use Rattle.tg_text.specs.Spelling.{AreBytes}
use Rattle.handshake.specs.Messages.{sign_line}
use Rattle.handshake.proofs.Texts.{is_nil, reads_more, reads_whole}
use Rattle.handshake.proofs.reading.read_signature.Goals as goal

pub returns-then-not-is_empty : goal.returns-then-not-is_empty
returns-then-not-is_empty c = subst (λ (t : List ℕ). Reads AreBytes sign_line t _) c.new-lines.ensures
    (reads_more AreBytes sign_line c.new-lines.result c.next_signature.new.lines c.in_ok-signature.signature c.in_ok-signature.ensures (rw c.rest.ensures at (sym c.is_empty.ensures ∙ c.if-not-is_empty.true)))

pub returns : goal.returns
returns c =
    let nil : c.next_signature.new.lines ≡ [] = sym c.rest.ensures ∙ is_nil c.rest.result.now (sym c.is_empty.ensures ∙ c.if-not-is_empty.false) in
    subst (λ (t : List ℕ). Reads AreBytes sign_line t c.in_ok-signature.signature) c.new-lines.ensures (reads_whole AreBytes sign_line c.new-lines.result c.next_signature.new.lines c.in_ok-signature.signature c.in_ok-signature.ensures nil)
