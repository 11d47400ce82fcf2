use Rattle.std.proofs.Common.{◌≡◌, ℕ, List, [], sym, ◌∙◌}
use Rattle.handshake.proofs.Texts.{claim_is, is_nil, no_end, no_key, no_nonce, no_user}
use Rattle.handshake.proofs.reading.read_claim.Goals as goal

pub returns-in_err-user : goal.returns-in_err-user
returns-in_err-user c = rw c.from_residual.ensures (no_user c.args.text.now c.new-lines.result c.next_user.new.lines c.next_user.result c.new-lines.ensures c.next_user.ensures c.in_err-user.was)

pub returns-in_err-key : goal.returns-in_err-key
returns-in_err-key c = rw c.from_residual-in_err-key.ensures
    (no_key c.args.text.now c.new-lines.result c.next_user.new.lines c.next_key.new.lines c.in_ok-user.user c.next_key.result c.new-lines.ensures c.in_ok-user.ensures c.next_key.ensures c.in_err-key.was)

pub returns-in_err-nonce : goal.returns-in_err-nonce
returns-in_err-nonce c = rw c.from_residual-in_err-nonce.ensures
    (no_nonce c.args.text.now c.new-lines.result c.next_user.new.lines c.next_key.new.lines c.next_hash.new.lines c.in_ok-user.user c.in_ok-key.key c.next_hash.result c.new-lines.ensures c.in_ok-user.ensures c.in_ok-key.ensures
    c.next_hash.ensures c.in_err-nonce.was)

pub returns-then-not-is_empty : goal.returns-then-not-is_empty
returns-then-not-is_empty c =
    no_end c.args.text.now c.new-lines.result c.next_user.new.lines c.next_key.new.lines c.next_hash.new.lines c.in_ok-user.user c.in_ok-key.key c.in_ok-nonce.nonce c.new-lines.ensures c.in_ok-user.ensures c.in_ok-key.ensures
    c.in_ok-nonce.ensures (rw c.rest.ensures at (sym c.is_empty.ensures ∙ c.if-not-is_empty.true))

pub returns : goal.returns
returns c =
    let nil : c.next_hash.new.lines ≡ [] = sym c.rest.ensures ∙ is_nil c.rest.result.now (sym c.is_empty.ensures ∙ c.if-not-is_empty.false) in
    claim_is c.args.text.now c.new-lines.result c.next_user.new.lines c.next_key.new.lines c.next_hash.new.lines c.in_ok-user.user c.in_ok-key.key c.in_ok-nonce.nonce c.new-lines.ensures c.in_ok-user.ensures c.in_ok-key.ensures
    c.in_ok-nonce.ensures nil
