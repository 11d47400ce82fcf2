use Rattle.std.proofs.Common.{◌∙◌, ap, subst, sym}
use Rattle.std.specs.Cmp.Lexicographic.{nat_list_eq_equiv}
use Rattle.team_sets.specs.Members.{IsIn}
use Rattle.team_sets.specs.Names.{same_name}
use Rattle.team_sets.proofs.Agree.{any_in}
use Rattle.team_model.specs.State.{State}
use Rattle.team_model.specs.Writes as after
use Rattle.team_model.specs.declared.terms.Device.{Device}
use Rattle.team_state.proofs.Written.{kept-read, kept-unlisted, live-ascend, state-read}
use Rattle.team_state.proofs.state.TeamState.unlist_row.Goals as goal

pub replace_and_drop-requires-clause-there : goal.replace_and_drop-requires-clause-there
replace_and_drop-requires-clause-there c =
    let its = c.args.device.now in
    rw c.without_listing-row.ensures
    (any_in (λ (d : Device). same_name d.id its.id) _ its (subst (λ (s : State). IsIn its s.devices) (sym c.self.view_is) c.requires) (nat_list_eq_equiv.refl its.id))

pub replace_and_drop-requires-clause-second : goal.replace_and_drop-requires-clause-second
replace_and_drop-requires-clause-second c = live-ascend _ _ _ c.self.invariant

pub invariant_of-self-2 : goal.invariant_of-self-2
invariant_of-self-2 c =
    let its = c.args.device.now in
    let put = c.in_ok-replace_and_drop.ensures in
    rw (put.first, put.second, c.without_listing-row.ensures)
    (kept-read _ _ _ (kept-unlisted _ _ _ c.self.invariant its (subst (λ (s : State). IsIn its s.devices) (sym c.self.view_is) c.requires)))

pub returns-clause-ok : goal.returns-clause-ok
returns-clause-ok c =
    let its = c.args.device.now in
    let put = c.in_ok-replace_and_drop.ensures in
    rw (put.first, c.without_listing-row.ensures)
    (state-read _ _ _ (kept-unlisted _ _ _ c.self.invariant its (subst (λ (s : State). IsIn its s.devices) (sym c.self.view_is) c.requires)))
    ∙ ap (λ s. after.with_device s (after.unlisted its)) c.self.view_is
