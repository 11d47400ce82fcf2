use Rattle.std.proofs.Common.{sym}
use Rattle.team_sets.specs.Names.{same_name}
use Rattle.team_sets.proofs.Decisions.{find_of}
use Rattle.team_state.proofs.state.TeamState.unlist_device.Goals as goal

pub unlist_row-requires : goal.unlist_row-requires
unlist_row-requires c = (find_of (λ x. same_name x.id c.args.device.now) c.args.self.now.devices c.in-Some.row.now (sym c.in-Some.ensures)).0
