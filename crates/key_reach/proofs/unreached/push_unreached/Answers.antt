use Rattle.std.proofs.Common.{◌≡◌, true, sym, subst}
use Rattle.team_sets.specs.Closure.{has}
use Rattle.tg_text.specs.declared.keys.KeyId.{KeyId}
use Rattle.key_reach.specs.Keys.{same_key}
use Rattle.key_reach.proofs.GoneBack.{keys-there}
use Rattle.key_reach.proofs.unreached.push_unreached.Goals as goal

pub push_unreached_of-requires-clause-key : goal.push_unreached_of-requires-clause-key
push_unreached_of-requires-clause-key g c =
    subst (λ (k : KeyId). has same_key c.args.keys.now k ≡ true) (sym c.key-item.is) (keys-there c.args.keys.now c.loop-key.key-index c.key-item.result c.loop-key-test.true)
