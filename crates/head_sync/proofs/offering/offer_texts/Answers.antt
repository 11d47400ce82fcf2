use Rattle.std.proofs.Common.{rules, map, refl}
use Rattle.team_files.specs.declared.item.Item.TheVariants.{Text}
use Rattle.link_intake.specs.Giving.{IsPartGiven}
use Rattle.head_sync.specs.Bodies.{lent}
use Rattle.head_sync.proofs.Offered.{offered_more, offered_part, on_err}
use Rattle.head_sync.proofs.offering.offer_texts.Goals as goal
use Rattle.head_sync.proofs.offering.offer_texts.Goals.{in-Refused, in_default}

pub returns-in_err-became-clause-part : goal.returns-in_err-became-clause-part
returns-in_err-became-clause-part g c =
    let old = g.H.LinkKeeper.held c.args.keeper.now in
    let new = g.H.LinkKeeper.held c.offer_text.new.keeper in
    on_err c.from_residual.result (IsPartGiven old (map Text (lent c.args.texts.now)) new)
    (offered_part old (g.H.LinkKeeper.held c.loop-i.keeper) new c.args.texts.now c.loop-i.i c.loop-i.refused c.loop-i.invariant c.in_err-became.ensures.same)

pub loop-i-preserved : goal.loop-i-preserved
loop-i-preserved g c =
    let old = g.H.LinkKeeper.held c.args.keeper.now in
    let mid = g.H.LinkKeeper.held c.loop-i.keeper in
    let new = g.H.LinkKeeper.held c.offer_text.new.keeper in
    let became = c.in_ok-became.became in
    offered_more old mid new c.args.texts.now _ c.loop-i.i c.loop-i.refused c.match-became.refused became c.loop-i-test.true c.loop-i.invariant c.in_ok-became.ensures.becomes (
    elim c.match-became.branch [ in-Refused w ↦ search rules | in_default w ↦ search rules ]
    )
