use Rattle.team_state.proofs.Written.{kept-empty}
use Rattle.team_state.proofs.state.TeamState.new.Goals as goal

pub invariant_of-result : goal.invariant_of-result
invariant_of-result c =
    rw (
      c.in_ok-make_table.ensures,
      c.in_ok-make_table-2.ensures,
      c.in_ok-make_table-3.ensures,
      c.in_ok-make_table-4.ensures,
      c.in_ok-make_table-5.ensures,
      c.in_ok-make_table-6.ensures,
      c.in_ok-make_table-7.ensures,
      c.new.ensures.items,
      c.new-2.ensures.items,
      c.new-3.ensures.items,
      c.new-4.ensures.items,
      c.new-5.ensures.items,
      c.new-6.ensures.items,
      c.new-7.ensures.items,
    ) kept-empty
