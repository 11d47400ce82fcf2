-- What a search finds of a key, and the order of tables in the words of sorted lists.
use Rattle.std.proofs.Common.{◌≡◌, Bool, true, cond, List, [], ◌∷◌, ◌++◌, Some, None, refl, ◌∙◌, ap}
use Rattle.std.specs.List.Sorted.{IsStrictlySortedBy}
use Rattle.std.specs.Ordering.{eq_by_cmp, is_eq, is_lt}
use Rattle.std.specs.declared.cmp.Ordering.{Ordering}
use Rattle.std.specs.declared.cmp.Ordering.TheVariants.{Less}
use Rattle.team_sets.specs.SortedLaws.{IsAscending}
use Rattle.team_state.specs.AscentLaws.{TablesAscend}
use Rattle.team_state.specs.Kept.{IsOrdered, name_cmp}
use Rattle.team_state.specs.Rows.{Ascend, AreAbove, AreBelow, IsSplit, is_before, row_with}
use Rattle.team_state.proofs.Placed.{all-unmap, all-weaker}
use Rattle.tg_text.specs.Order.{scope_cmp}
use Rattle.team_model.specs.State.{State}

module _ {A K : Type 0} (order : K → K → Ordering) (same : K → K → Bool) (key : A → K) (ties : (a b : K) → same a b ≡ eq_by_cmp order a b) where
  -- rows that haven't the key are passed over
  past_below : (k : K) (below rest : List A) → AreBelow order key k below → row_with same key k (below ++ rest) ≡ row_with same key k rest
  past_below k [] rest all = refl
  past_below k (x ∷ xs) rest all = rw (ties (key x) k, all.0) (past_below k xs rest all.1)

  none_above : (k : K) (above : List A) → AreAbove order key k above → row_with same key k above ≡ None
  none_above k [] all = refl
  none_above k (x ∷ xs) all = rw (ties (key x) k, all.0) (none_above k xs all.1)

  pub row-found : (k : K) (xs below above : List A) (row : A) → IsSplit order key k xs below (row ∷ []) above → row_with same key k xs ≡ Some row
  row-found k xs below above row split =
      ap (row_with same key k) split.is ∙ past_below k below (row ∷ above) split.are_below
      ∙ ap (λ b. cond b (Some row) (row_with same key k above)) (ties (key row) k ∙ ap is_eq split.are_at.0)

  pub row-absent : (k : K) (xs below above : List A) → IsSplit order key k xs below [] above → row_with same key k xs ≡ None
  row-absent k xs below above split = ap (row_with same key k) split.is ∙ past_below k below above split.are_below ∙ none_above k above split.are_above

module _ {A K : Type 0} (order : K → K → Ordering) (key : A → K) where
  pub ascends-by : (rows : List A) → Ascend order key rows → IsAscending (is_before order key) rows
  unfolding IsStrictlySortedBy
  ascends-by [] up = tt
  ascends-by (x ∷ xs) up = (
    all-weaker (λ y. order (key x) (key y) ≡ Less) (λ y. is_before order key x y ≡ true) (λ y e. ap is_lt e) xs (all-unmap (λ k. order (key x) k ≡ Less) key xs up.0),
    ascends-by xs up.1,
  )

pub tables-ascend : (s : State) → IsOrdered s → TablesAscend s
tables-ascend s up = record {
  members = ascends-by name_cmp (λ m. m.user) s.members up.members;
  roles = ascends-by name_cmp (λ r. r) s.roles up.roles;
  devices = ascends-by name_cmp (λ d. d.id) s.devices up.devices;
  invitations = ascends-by name_cmp (λ i. i.id) s.invitations up.invitations;
  currents = ascends-by scope_cmp (λ k. k.scope) s.currents up.currents;
}
