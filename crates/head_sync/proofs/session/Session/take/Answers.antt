use Rattle.std.proofs.Common.{sym, ◌∙◌, refl}
use Rattle.head_sync.proofs.Answered.{by_residual, other_answer, other_team, same_team, taken_answer, unawaited_answer, unread_answer}
use Rattle.head_sync.proofs.session.Session.take.Goals as goal

pub returns-in_err-message : goal.returns-in_err-message
returns-in_err-message g c =
    let s = c.args.self.now in
    let k = g.H.LinkKeeper.held c.args.keeper.now in
    let bytes = c.args.message.now in
    let f = c.in_err-message.field-0.0 in
    by_residual s s k k bytes c.from_residual.result f c.from_residual.ensures.1 (unread_answer s s k k bytes refl refl f c.in_err-message.ensures)

pub returns-then-ne : goal.returns-then-ne
returns-then-ne g c =
    let s = c.args.self.now in
    let k = g.H.LinkKeeper.held c.args.keeper.now in
    let m = c.in_ok-message.message in
    other_answer s s k k c.args.message.now refl refl m c.in_ok-message.ensures (other_team m.team c.team.result k.team c.ne.result c.ne.ensures c.team.ensures c.if-ne.true)

pub returns-then-not-awaits : goal.returns-then-not-awaits
returns-then-not-awaits g c =
    let s = c.args.self.now in
    let k = g.H.LinkKeeper.held c.args.keeper.now in
    let m = c.in_ok-message.message in
    unawaited_answer s s k k c.args.message.now refl refl m c.in_ok-message.ensures (same_team m.team c.team.result k.team c.ne.result c.ne.ensures c.team.ensures c.if-ne.false)
    (sym c.awaits.ensures ∙ c.if-not-awaits.true)

pub returns : goal.returns
returns g c =
    let s = c.args.self.now in
    let k = g.H.LinkKeeper.held c.args.keeper.now in
    let m = c.in_ok-message.message in
    taken_answer s c.take_body.new.self k (g.H.LinkKeeper.held c.take_body.new.keeper) c.args.message.now m c.in_ok-message.ensures
    (same_team m.team c.team.result k.team c.ne.result c.ne.ensures c.team.ensures c.if-ne.false) (sym c.awaits.ensures ∙ c.if-not-awaits.false) c.in_ok-sent.sent c.in_ok-sent.ensures.made
