use Rattle.handshake.proofs.Texts.{head_is, no_kind, no_team}
use Rattle.handshake.proofs.reading.next_head.Goals as goal

pub returns-in_err-kind : goal.returns-in_err-kind
returns-in_err-kind c = rw c.from_residual.ensures (no_kind c.args.lines.now c.next_kind.new.lines c.next_kind.new.lines c.next_kind.result c.next_kind.ensures c.in_err-kind.was)

pub returns-in_err-team : goal.returns-in_err-team
returns-in_err-team c = rw c.from_residual-in_err-team.ensures (no_team c.args.lines.now c.next_kind.new.lines c.next_hash.new.lines c.in_ok-kind.kind c.next_hash.result c.in_ok-kind.ensures c.next_hash.ensures c.in_err-team.was)

pub returns : goal.returns
returns c = head_is c.args.lines.now c.next_kind.new.lines c.next_hash.new.lines c.in_ok-kind.kind c.in_ok-team.team c.in_ok-kind.ensures c.in_ok-team.ensures
