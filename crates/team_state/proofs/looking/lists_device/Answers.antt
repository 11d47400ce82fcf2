use Rattle.std.proofs.Common.{◌∙◌, ◌&&◌, ap, sym}
use Rattle.std.specs.Cmp.Lexicographic.{nat_list_cmp_total, texts_ties}
use Rattle.team_sets.specs.Names.{same_name}
use Rattle.team_state.specs.Kept.{device_key, name_cmp, row_lists}
use Rattle.team_state.proofs.Found.{listed_first}
use Rattle.team_state.proofs.Placed.{any-absent, any-found, any_agree}
use Rattle.team_model.specs.declared.terms.Device.{Device}
use Rattle.team_state.proofs.looking.lists_device.Goals as goal

pub returns-in-Ok : goal.returns-in-Ok
returns-in-Ok c =
    let is_for = λ (d : Device). d.listed && same_name d.user c.args.user.now in
    c.is_listed_for.ensures ∙ ap is_for c.index-devices-place.is
    ∙ sym (any-found name_cmp same_name device_key nat_list_cmp_total texts_ties is_for c.args.device.now c.args.devices.now _ _ _ (c.in-Ok.ensures.found c.index-devices-place.result))
    ∙ sym (any_agree (row_lists c.args.user.now c.args.device.now) (λ d. same_name (device_key d) c.args.device.now && is_for d) (λ d. listed_first d.listed (same_name d.id c.args.device.now) (same_name d.user c.args.user.now)) c.args.devices.now)

pub returns-in-Err : goal.returns-in-Err
returns-in-Err c =
    let is_for = λ (d : Device). d.listed && same_name d.user c.args.user.now in
    sym (any-absent name_cmp same_name device_key nat_list_cmp_total texts_ties is_for c.args.device.now c.args.devices.now _ _ c.in-Err.ensures.absent)
    ∙ sym (any_agree (row_lists c.args.user.now c.args.device.now) (λ d. same_name (device_key d) c.args.device.now && is_for d) (λ d. listed_first d.listed (same_name d.id c.args.device.now) (same_name d.user c.args.user.now)) c.args.devices.now)
