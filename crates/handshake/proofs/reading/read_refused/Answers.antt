use Rattle.std.proofs.Common.{◌≡◌, ℕ, List, [], Some, sym, ◌∙◌, subst}
use Rattle.tg_text.specs.Reading.{Reads}
use Rattle.handshake.specs.Messages.{IsNamed, fault_line}
use Rattle.handshake.proofs.Texts.{is_nil, reads_more, reads_none, reads_whole}
use Rattle.handshake.proofs.reading.read_refused.Goals as goal

pub returns-in_err-fault : goal.returns-in_err-fault
returns-in_err-fault c = rw (c.from_residual.ensures, ← c.new-lines.ensures) (reads_none IsNamed fault_line c.new-lines.result c.next_fault.new.lines c.next_fault.result c.next_fault.ensures c.in_err-fault.was)

pub returns-then-not-is_empty : goal.returns-then-not-is_empty
returns-then-not-is_empty c = subst (λ (t : List ℕ). Reads IsNamed fault_line t _) c.new-lines.ensures
    (reads_more IsNamed fault_line c.new-lines.result c.next_fault.new.lines c.next_fault.result c.next_fault.ensures (rw c.rest.ensures at (sym c.is_empty.ensures ∙ c.if-not-is_empty.true)))

pub returns : goal.returns
returns c =
    let nil : c.next_fault.new.lines ≡ [] = sym c.rest.ensures ∙ is_nil c.rest.result.now (sym c.is_empty.ensures ∙ c.if-not-is_empty.false) in
    subst (λ (t : List ℕ). Reads IsNamed fault_line t (Some c.in_ok-fault.fault)) c.new-lines.ensures (reads_whole IsNamed fault_line c.new-lines.result c.next_fault.new.lines (Some c.in_ok-fault.fault) c.in_ok-fault.ensures nil)
