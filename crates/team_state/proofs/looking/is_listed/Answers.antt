use Rattle.std.proofs.Common.{◌∙◌, ◌&&◌, sym}
use Rattle.std.specs.Cmp.Lexicographic.{nat_list_cmp_total, texts_ties}
use Rattle.team_sets.specs.Names.{same_name}
use Rattle.team_model.specs.declared.terms.Device.{Device}
use Rattle.team_state.specs.Kept.{device_key, is_listed_row, name_cmp}
use Rattle.team_state.proofs.Found.{and_turned}
use Rattle.team_state.proofs.Placed.{any-absent, any-found, any_agree}
use Rattle.team_state.proofs.looking.is_listed.Goals as goal

pub returns-in-Ok : goal.returns-in-Ok
returns-in-Ok c =
    let listed = λ (d : Device). d.listed in
    sym (any-found name_cmp same_name device_key nat_list_cmp_total texts_ties listed c.args.device.now c.args.devices.now _ _ _ (c.in-Ok.ensures.found c.index-devices-place.result))
    ∙ sym (any_agree (is_listed_row c.args.device.now) (λ d. same_name (device_key d) c.args.device.now && listed d) (λ d. and_turned d.listed (same_name d.id c.args.device.now)) c.args.devices.now)

pub returns-in-Err : goal.returns-in-Err
returns-in-Err c =
    let listed = λ (d : Device). d.listed in
    sym (any-absent name_cmp same_name device_key nat_list_cmp_total texts_ties listed c.args.device.now c.args.devices.now _ _ c.in-Err.ensures.absent)
    ∙ sym (any_agree (is_listed_row c.args.device.now) (λ d. same_name (device_key d) c.args.device.now && listed d) (λ d. and_turned d.listed (same_name d.id c.args.device.now)) c.args.devices.now)
