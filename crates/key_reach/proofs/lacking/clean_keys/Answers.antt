use Rattle.std.proofs.Common.{◌∙◌}
use Rattle.std.proofs.lemmas.Result.{IfOk-weaker}
use Rattle.key_reach.specs.Keys as words
use Rattle.key_reach.proofs.Kept.{without-alike}
use Rattle.key_reach.proofs.lacking.clean_keys.Goals as goal

pub returns-clause-clean : goal.returns-clause-clean
returns-clause-clean g c =
    let t = g.V.KeyTable.table c.args.view.now in
    let without = rw (c.as_slice.ensures.value, c.as_slice-2.ensures.value, c.in_ok-keys.ensures.keys) at c.without.ensures in
    IfOk-weaker c.without.result _ _ (λ keys h. h ∙ without-alike words.same_key c.in_ok-tainted.tainted.items (words.tainted t) c.in_ok-tainted.ensures.exact (words.current_keys t)) without
