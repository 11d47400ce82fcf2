use Rattle.std.proofs.Common.{◌≡◌, true, ◌∙◌, ap, subst, List, [], ◌++◌}
use Rattle.std.proofs.lemmas.List.Elements.{All-cons, All-nil}
use Rattle.std.proofs.lemmas.Result.{IfOk-weaker}
use Rattle.team_sets.specs.Closure.{has}
use Rattle.team_sets.specs.Members.{IsIn}
use Rattle.tg_text.specs.declared.keys.KeyId.{KeyId}
use Rattle.tg_text.specs.declared.keys.Scope.{Scope}
use Rattle.key_reach.specs.declared.debt.Debt.{Debt}
use Rattle.key_reach.specs.Graphs.{turned}
use Rattle.key_reach.specs.Keys.{box_arrows, same_scope}
use Rattle.key_reach.specs.Steps.{turned_arrows}
use Rattle.key_reach.proofs.Currents.{current-ascends, in-has-key, of-current}
use Rattle.key_reach.proofs.GoneBack.{unreached-are}
use Rattle.key_reach.proofs.unreached.push_unreached_of.Goals as goal

pub scopes_from-requires-clause-nodes : goal.scopes_from-requires-clause-nodes
scopes_from-requires-clause-nodes g c =
    let t = g.V.KeyTable.table c.args.view.now in
    let current = in-has-key c.args.keys.now c.args.key.now c.requires.key in
    let live = c.requires.graphs.live c.args.key.now.scope (of-current t c.requires.ordered c.args.key.now (subst (λ (l : List KeyId). IsIn c.args.key.now l) c.requires.keys current)).1 in
    let P = λ (s : Scope). has same_scope c.args.graphs.now.scopes.nodes.items s ≡ true in
    All-cons P c.args.key.now.scope [] live (All-nil P)

pub holding_scopes-requires : goal.holding_scopes-requires
holding_scopes-requires g c = rw c.requires.keys (current-ascends (g.V.KeyTable.table c.args.view.now) c.requires.ordered)

pub returns-clause-debts : goal.returns-clause-debts
returns-clause-debts g c =
    let t = g.V.KeyTable.table c.args.view.now in
    let law = c.requires.ordered in
    let key = c.args.key.now in
    let current = subst (λ (l : List KeyId). IsIn key l) c.requires.keys (in-has-key c.args.keys.now key c.requires.key) in
    let met = c.in_ok-meeting.ensures.reached (turned_arrows t) c.requires.graphs.scopes in
    let held = c.in_ok-holders.ensures.reached (turned (box_arrows t.boxes)) c.requires.graphs.boxes in
    let list = rw (c.requires.keys, c.as_slice.ensures.value) at c.in_ok-holding.ensures in
    let pushed = rw (c.as_slice-2.ensures.value, c.as_slice-3.ensures.value) at c.push_devices.ensures in
    IfOk-weaker c.push_devices.result _ _ (λ x h. h ∙ ap (λ (l : List Debt). c.args.debts.now.items ++ l)
    (unreached-are t law key current c.in_ok-holders.holders.items held c.in_ok-holding.holding.items list c.in_ok-meeting.meeting.items met)) pushed
