-- The tables of every state that the writes make ascend by their keys, so no key stands twice.
use Rattle.std.specs.Prelude.{Bool}
use Rattle.std.specs.Ordering.{is_lt}
use Rattle.team_sets.specs.SortedLaws.{IsAscending, by_names}
use Rattle.tg_text.specs.Order.{scope_cmp}
use Rattle.tg_text.specs.declared.keys.KeyId.{KeyId}
use Rattle.team_model.specs.State.{State}

abbrev pub by_scopes : KeyId → KeyId → Bool
by_scopes a b = is_lt (scope_cmp a.scope b.scope)

-- members by user, roles by name, devices and invitations by id, current keys by scope
pub record TablesAscend (s : State) : Type 0 where
  pub members : IsAscending (by_names (λ m. m.user)) s.members
  pub roles : IsAscending (by_names (λ r. r)) s.roles
  pub devices : IsAscending (by_names (λ d. d.id)) s.devices
  pub invitations : IsAscending (by_names (λ i. i.id)) s.invitations
  pub currents : IsAscending by_scopes s.currents
