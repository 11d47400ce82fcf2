use Rattle.team_model.specs.State.{lists_device}
use Rattle.team_state.proofs.Staying.{by_cases}
use Rattle.team_reducer.specs.Sound.{made_by}
use Rattle.team_reducer.proofs.Sounding.{states_sound}
use Rattle.team_reducer.proofs.Untouched.{untouched}
use Rattle.team_plans.specs.Plans.{effected}
use Rattle.team_plans.proofs.Alike.{listed_alike, unlisted_alike}
use Rattle.team_plans.proofs.Effects.{effected_sound, sound_ordered}
use Rattle.team_plans.proofs.StateTables.{keyed_effect}
use Rattle.team_plans.proofs.laws.plans_are_alike.Goals as goal

pub returns : goal.returns
returns c entries e ps qs permitted each_p each_q =
    let s = made_by entries in
    by_cases (lists_device (effected s e) e.user e.device)
    (λ listed. listed_alike s (effected s e) e (record {
      currents = (untouched s e e.act).currents;
      keyed = keyed_effect s e e.act (states_sound entries).keyed;
      ordered = sound_ordered (effected s e) (effected_sound entries e permitted);
      listed = listed;
    }) ps qs each_p each_q)
    (λ unlisted. unlisted_alike s (effected s e) e ps qs unlisted)
