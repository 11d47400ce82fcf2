use Rattle.std.proofs.Common.{◌≡◌, [], drop}
use Rattle.std.specs.Ordering.{eq_by_cmp}
use Rattle.team_report.specs.KeysText.{with_all}
use Rattle.team_report.proofs.keys.each_once.Given as goal

-- with what is left, all are there
abbrev pub invariant-loop-member : goal.invariant-loop-member
invariant-loop-member g l =
    with_all (eq_by_cmp g.T.Ord.cmp) l.list.keys (drop l.member-index l.members) ≡ with_all (eq_by_cmp g.T.Ord.cmp) [] l.members
