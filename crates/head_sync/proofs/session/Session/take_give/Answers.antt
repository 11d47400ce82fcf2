use Rattle.std.proofs.Common.{map, append-nil, sym, ◌≡◌}
use Rattle.team_files.specs.declared.item.Item.TheVariants.{Text}
use Rattle.link_intake.specs.Giving.{IsPartGiven}
use Rattle.head_sync.specs.Bodies.{lent}
use Rattle.head_sync.proofs.Offered.{on_err, whole_part}
use Rattle.head_sync.proofs.session.Session.take_give.Goals as goal

pub returns-in_err-sent-clause-part : goal.returns-in_err-sent-clause-part
returns-in_err-sent-clause-part g c =
    let old = g.H.LinkKeeper.held c.args.keeper.now in
    let new = g.H.LinkKeeper.held c.offer_texts.new.keeper in
    on_err c.from_residual-in_err-sent.result (IsPartGiven old (map Text (lent c.args.texts.now)) new) (whole_part old new (lent c.args.texts.now) c.in_ok-refused.refused c.in_ok-refused.ensures.given)
