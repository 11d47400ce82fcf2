use Rattle.std.proofs.Common.{◌∙◌, ◌<◌, ◌+◌, length, refl, rules, arith}
use Rattle.head_sync.proofs.Rounds.{begun, meets, none_waits, round, some_waits}
use Rattle.head_sync.proofs.meeting.meet.Goals as goal
use Rattle.head_sync.proofs.meeting.meet.Goals.{then-has_message, else-has_message+then-has_message-2}

pub loop-second-init : goal.loop-second-init
loop-second-init g c =
    let k = g.A.LinkKeeper.held c.args.one.now in
    let m = g.B.LinkKeeper.held c.args.two.now in
    let first = c.in_ok-first.first in
    let second = c.in_ok-second.second in
    begun k m first.session second.session first.inbox.items second.inbox.items (record { count = 0; hasher = c.new-3.result }) (c.in_ok-first.ensures.session ∙ c.in_ok-first_session.ensures.0)
    (c.in_ok-second.ensures.session ∙ c.in_ok-second_session.ensures.0) (search (rules, c.in_ok-first.ensures, c.in_ok-second_session.ensures))
    (search (rules, c.in_ok-second.ensures, c.in_ok-first_session.ensures)) refl c.new-3.ensures

pub loop-second-preserved : goal.loop-second-preserved
loop-second-preserved g c =
    let k = g.A.LinkKeeper.held c.args.one.now in
    let m = g.B.LinkKeeper.held c.args.two.now in
    let first = c.loop-second.first in
    let second = c.loop-second.second in
    let box = first.inbox.items in
    let other = second.inbox.items in
    let one = c.take_turn.new in
    let two = c.take_turn-in-loop-second.new in
    let mine = c.in_ok-take_turn.ensures.turn in
    let theirs = c.in_ok-take_turn-2.ensures.turn in
    let some : 0 < length box + length other = elim c.if-has_message.branch [
      | then-has_message w ↦ let least = some_waits box c.has_message.result c.has_message.ensures w.if-has_message.true in omega (arith, least)
      | else-has_message+then-has_message-2 w ↦ let least = some_waits other w.has_message-else-has_message.result w.has_message-else-has_message.ensures w.if-has_message-2.true in omega (arith, least)
    ] in
    round k m first.session one.end.session second.session two.end.session (g.A.LinkKeeper.held c.loop-second.one) (g.A.LinkKeeper.held one.keeper) (g.B.LinkKeeper.held c.loop-second.two)
    (g.B.LinkKeeper.held two.keeper) box one.end.inbox.items two.other.items other one.other.items two.end.inbox.items mine.0 theirs.0 c.loop-second.passed one.passed two.passed c.loop-second.invariant some
    mine.2 theirs.2 mine.1 theirs.1 mine.3 theirs.3

pub returns : goal.returns
returns g c =
    let k = g.A.LinkKeeper.held c.args.one.now in
    let m = g.B.LinkKeeper.held c.args.two.now in
    let first = c.loop-second.first in
    let second = c.loop-second.second in
    meets k m first.session second.session (g.A.LinkKeeper.held c.loop-second.one) (g.B.LinkKeeper.held c.loop-second.two) first.inbox.items second.inbox.items c.loop-second.passed c.loop-second.invariant
    (none_waits first.inbox.items c.has_message.result c.has_message.ensures c.if-has_message.false)
    (none_waits second.inbox.items c.has_message-else-has_message.result c.has_message-else-has_message.ensures c.if-has_message-2.false) _ refl c.finalize.ensures c.refused.ensures c.refused-2.ensures
