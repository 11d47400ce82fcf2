use Rattle.std.proofs.Common.{◌∙◌, ap, sym}
use Rattle.std.specs.Cmp.Lexicographic.{nat_list_cmp_total, texts_ties}
use Rattle.team_sets.specs.Names.{has_name, same_name}
use Rattle.team_state.specs.Kept.{member_key, name_cmp}
use Rattle.team_state.proofs.Placed.{any-absent, any-found}
use Rattle.team_state.proofs.looking.member_has_role.Goals as goal

pub returns-in-Ok : goal.returns-in-Ok
returns-in-Ok c =
    c.has_name.ensures
    ∙ ap (λ roles. has_name roles c.args.role.now) c.as_slice.ensures
    ∙ sym (any-found name_cmp same_name member_key nat_list_cmp_total texts_ties (λ m. has_name m.roles c.args.role.now) c.args.user.now c.args.members.now _ _ _ (c.in-Ok.ensures.found c.index-members-place.result))

pub returns-in-Err : goal.returns-in-Err
returns-in-Err c = sym (any-absent name_cmp same_name member_key nat_list_cmp_total texts_ties (λ m. has_name m.roles c.args.role.now) c.args.user.now c.args.members.now _ _ c.in-Err.ensures.absent)
