use Rattle.std.proofs.Common.{◌≡◌, true, false, true≢false, refl, sym, ap, ◌∙◌, arith}
use Rattle.std.specs.Ordering.{is_lt}
use Rattle.team_sets.specs.Names.{name_lt}
use Rattle.link_text.proofs.Ascending.{ascends_all, more, stops}
use Rattle.head_sync.proofs.reading.ascends.Goals as goal

pub returns-then-not-ascends : goal.returns-then-not-ascends
returns-then-not-ascends c =
    let less : name_lt c.index-names-i.result c.index-names-i-in-loop-i.result ≡ false = ap is_lt (sym c.cmp.ensures) ∙ sym c.is_lt-ascends.ensures ∙ c.if-not-ascends.true in
    (λ h. absurd (true≢false (sym h)), λ h. absurd (stops c.args.names.now c.loop-i.i c.index-names-i.result c.index-names-i-in-loop-i.result c.loop-i.auto.i c.loop-i-test.true c.index-names-i.is c.index-names-i-in-loop-i.is less h))

pub loop-i-preserved : goal.loop-i-preserved
loop-i-preserved c =
    let less : name_lt c.index-names-i.result c.index-names-i-in-loop-i.result ≡ true = ap is_lt (sym c.cmp.ensures) ∙ sym c.is_lt-ascends.ensures ∙ c.if-not-ascends.false in
    more c.args.names.now c.loop-i.i c.index-names-i.result c.index-names-i-in-loop-i.result c.loop-i.invariant c.loop-i.auto.i c.loop-i-test.true c.index-names-i.is c.index-names-i-in-loop-i.is less

pub returns : goal.returns
returns c = (λ _. ascends_all c.args.names.now (λ k lt. c.loop-i.invariant k (omega (arith, lt, c.loop-i-test.false))), λ _. refl)
