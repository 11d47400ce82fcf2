use Rattle.std.proofs.Common.{◌≡◌, drop}
use Rattle.team_reducer.specs.News.{with_keys}
use Rattle.team_reducer.proofs.lining.put_keys.Given as goal

abbrev pub invariant-loop-key : goal.invariant-loop-key
invariant-loop-key l = with_keys l.state (drop l.key-index l.keys) ≡ with_keys l.fn.state l.keys
