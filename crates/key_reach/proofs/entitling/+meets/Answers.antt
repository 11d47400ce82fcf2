use Rattle.std.proofs.Common.{◌≡◌, ◌&&◌, ◌||◌, ◌-◌, ◌∙◌, [], sym, ap, subst, true, false, drop, drop_of_length-le, arith}
use Rattle.std.specs.List.{list_any}
use Rattle.std.proofs.lemmas.Bool.{and_from, or_right}
use Rattle.std.proofs.lemmas.List.Folds.{list_any_at}
use Rattle.tg_text.specs.declared.keys.Scope.{Scope}
use Rattle.key_reach.specs.Keys.{same_scope}
use Rattle.key_reach.specs.Steps.{met}
use Rattle.key_reach.proofs.Meeting.{met-step}
use Rattle.key_reach.proofs.entitling.+meets.Goals as goal

pub returns-then-meets : goal.returns-then-meets
returns-then-meets g h c =
    let t = g.V.KeyTable.table c.args.view.now in
    let from = c.args.from.now in
    let to = c.args.to.now in
    let middle = c.middle-item.result in
    let test = λ (m : Scope). t.allowed from m && met t (c.args.steps - 1) m to in
    let passes : test middle ≡ true = and_from (t.allowed from middle) (met t (c.args.steps - 1) middle to) (sym c.leads.ensures ∙ c.if-leads.true) (sym c.meets.ensures ∙ c.if-meets.true) in
    let found = list_any_at test c.scopes-middle-items.result.now c.loop-middle.middle-index middle c.loop-middle-test.true (subst (λ m. test m ≡ true) c.middle-item.is passes) in
    let any : list_any test t.scopes ≡ true = ap (λ l. list_any test l) (sym c.scopes-middle-items.ensures.scopes) ∙ found in
    sym (met-step t c.args.steps from to c.if-steps-eq0.false ∙ or_right (same_scope from to) (list_any test t.scopes) any)

pub returns : goal.returns
returns g h c =
    let t = g.V.KeyTable.table c.args.view.now in
    let from = c.args.from.now in
    let to = c.args.to.now in
    let test = λ (m : Scope). t.allowed from m && met t (c.args.steps - 1) m to in
    let items = c.scopes-middle-items.result.now in
    let none : drop c.loop-middle.middle-index items ≡ [] = drop_of_length-le items (omega (arith, c.loop-middle-test.false)) in
    let any : list_any test t.scopes ≡ false = sym c.loop-middle.invariant ∙ ap (λ l. list_any test l) none in
    let other : same_scope from to ≡ false = sym c.is_same_scope.ensures ∙ c.if-is_same_scope.false in
    sym (met-step t c.args.steps from to c.if-steps-eq0.false ∙ ap (λ b. b || list_any test t.scopes) other ∙ any)
