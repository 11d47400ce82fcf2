use Rattle.std.proofs.Common.{◌≡◌, ◌&&◌, ◌∙◌, sym, ap, true, false}
use Rattle.tg_text.specs.declared.keys.Scope.TheVariants.{Device}
use Rattle.key_reach.specs.Keys.{is_live}
use Rattle.key_reach.specs.Steps.{met}
use Rattle.key_reach.proofs.Meeting.{entitled-met}
use Rattle.key_reach.proofs.entitling.entitled.Goals as goal

pub returns-then-live : goal.returns-then-live
returns-then-live g c =
    let t = g.V.KeyTable.table c.args.view.now in
    let d = c.args.device.now in
    let s = c.args.scope.now in
    let live : is_live t (Device d) ≡ true = sym c.live.ensures ∙ c.if-live.true in
    c.meets.ensures ∙ ap (λ b. b && met t 4 (Device d) s) (sym live) ∙ entitled-met t (g.V.KeyTable.lawful c.args.view.now) d s

pub returns-else-live : goal.returns-else-live
returns-else-live g c =
    let t = g.V.KeyTable.table c.args.view.now in
    let d = c.args.device.now in
    let s = c.args.scope.now in
    let dead : is_live t (Device d) ≡ false = sym c.live.ensures ∙ c.if-live.false in
    c.if-live.false ∙ ap (λ b. b && met t 4 (Device d) s) (sym dead) ∙ entitled-met t (g.V.KeyTable.lawful c.args.view.now) d s
