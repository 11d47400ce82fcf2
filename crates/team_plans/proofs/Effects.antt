-- The own effect of a permitted act leaves a sound state: that is what the act makes without lines.
use Rattle.std.proofs.Common.{◌≡◌, Bool, true, false, not, ◌&&◌, cond, List, [], ◌∷◌, ◌++◌, fold, None, refl, ◌∙◌, ap, subst}
use Rattle.std.specs.List.Sorted.{IsStrictlySortedBy}
use Rattle.std.specs.Ordering.{is_lt}
use Rattle.std.specs.declared.cmp.Ordering.{Ordering}
use Rattle.std.specs.declared.cmp.Ordering.TheVariants.{Less, Equal, Greater}
use Rattle.std.proofs.lemmas.Bool.{false≢true}
use Rattle.sha2.specs.Sha256.{sha256}
use Rattle.team_sets.specs.SortedLaws.{IsAscending}
use Rattle.tg_text.specs.Order.{scope_cmp}
use Rattle.tg_text.specs.declared.keys.Scope.{Scope}
use Rattle.tg_text.specs.declared.keys.Scope.TheVariants.{Team, Role, User, Device as DeviceScope}
use Rattle.acts.specs.Admin.{is_shared}
use Rattle.acts.specs.declared.entry.Act.{Act}
use Rattle.acts.specs.declared.entry.Act.TheVariants.{Found, Rotate}
use Rattle.acts.specs.declared.entry.Entry.{Entry}
use Rattle.key_reach.specs.Keys.{is_live}
use Rattle.team_model.specs.ActTable.{after, effect, first_reason, is_anothers, is_at_end, is_found, lacks_admin, refusal, row_of}
use Rattle.team_model.specs.KeyTables.{key_table}
use Rattle.team_model.specs.State.{State, empty_state, lists_device, lists_user}
use Rattle.team_model.specs.declared.terms.Reason.TheVariants.{Absent, NotAdmin, NotListed, NotYours, TooMany}
use Rattle.team_model.proofs.Brought.{AllUnmet, all_unmet, own_row}
use Rattle.team_model.proofs.Lined.{lined-none}
use Rattle.team_state.specs.Kept.{IsOrdered, name_cmp}
use Rattle.team_state.specs.Rows.{Ascend, is_before}
use Rattle.team_state.proofs.Placed.{all-map, all-weaker}
use Rattle.team_reducer.specs.Sound.{IsSound, made_by}
use Rattle.team_reducer.proofs.Sounding.{states_sound}
use Rattle.team_plans.specs.Plans.{effected}
use Rattle.team_plans.proofs.PlansOwe.{after_is}

-- the entry without its lines
abbrev bare : Entry → Entry
bare e = record e { lines = record { news = []; boxes = [] } }

same_effect : (s : State) (e : Entry) (a : Act) → effect s (bare e) a ≡ effect s e a
same_effect s e (Found seal title) = refl
same_effect s e _ = refl

same_anothers : (e : Entry) (c : Scope) → is_anothers c (bare e) ≡ is_anothers c e
same_anothers e Team = refl
same_anothers e (Role r) = refl
same_anothers e (User u) = refl
same_anothers e (DeviceScope d) = refl

same_row : (s : State) (e : Entry) (a : Act) → row_of sha256 s (bare e) a ≡ row_of sha256 s e a
same_row s e (Rotate c) =
    ap (λ b. (not (is_live (key_table s) c), Absent) ∷ (is_shared c && lacks_admin s e, NotAdmin) ∷ (b, NotYours) ∷ (is_at_end s c, TooMany) ∷ []) (same_anothers e c)
same_row s e _ = refl

same_refusal : (s : State) (e : Entry) → refusal s (bare e) ≡ refusal s e
same_refusal s e = ap (λ row. first_reason (cond (is_found e.act) row ((not (lists_user s e.user && lists_device s e.user e.device), NotListed) ∷ row))) (same_row s e e.act)

fold_last : {A S : Type 0} (f : S → A → S) (xs : List A) (x : A) (s : S) → fold f s (xs ++ x ∷ []) ≡ f (fold f s xs) x
fold_last f [] x s = refl
fold_last f (y ∷ ys) x s = fold_last f ys x (f s y)

made_effected : (entries : List Entry) (e : Entry) → refusal (made_by entries) e ≡ None → made_by (entries ++ bare e ∷ []) ≡ effected (made_by entries) e
made_effected entries e permitted =
    let s = made_by entries in
    fold_last (λ s e. after s e) entries (bare e) empty_state ∙ after_is s (bare e) (same_refusal s e ∙ permitted)
    ∙ lined-none (effected s (bare e)) (bare e) refl refl ∙ same_effect s e e.act

pub effected_sound : (entries : List Entry) (e : Entry) → refusal (made_by entries) e ≡ None → IsSound (effected (made_by entries) e)
effected_sound entries e permitted = subst (λ s. IsSound s) (made_effected entries e permitted) (states_sound (entries ++ bare e ∷ []))

-- the conditions of a permitted act's own row don't hold
pub unmet : (s : State) (e : Entry) → refusal s e ≡ None → AllUnmet (row_of sha256 s e e.act)
unmet s e permitted = go (is_found e.act) refl
  where
    go : (b : Bool) → is_found e.act ≡ b → AllUnmet (row_of sha256 s e e.act)
    go true is =
        all_unmet (row_of sha256 s e e.act)
        (subst (λ b. first_reason (cond b (row_of sha256 s e e.act) ((not (lists_user s e.user && lists_device s e.user e.device), NotListed) ∷ row_of sha256 s e e.act)) ≡ None) is permitted)
    go false is =
        own_row sha256 s e e.act
        (subst (λ b. first_reason (cond b (row_of sha256 s e e.act) ((not (lists_user s e.user && lists_device s e.user e.device), NotListed) ∷ row_of sha256 s e e.act)) ≡ None) is permitted)

less_of : (o : Ordering) → is_lt o ≡ true → o ≡ Less
less_of Less h = refl
less_of Equal h = absurd (false≢true h)
less_of Greater h = absurd (false≢true h)

module _ {A K : Type 0} (order : K → K → Ordering) (key : A → K) where
  by_ascent : (rows : List A) → IsAscending (is_before order key) rows → Ascend order key rows
  unfolding IsStrictlySortedBy
  by_ascent [] up = tt
  by_ascent (x ∷ xs) up = (
    all-map (λ k. order (key x) k ≡ Less) key xs (all-weaker (λ y. is_before order key x y ≡ true) (λ y. order (key x) (key y) ≡ Less) (λ y h. less_of (order (key x) (key y)) h) xs up.0),
    by_ascent xs up.1,
  )

-- the tables of a sound state are in order
pub sound_ordered : (s : State) → IsSound s → IsOrdered s
sound_ordered s sound = record {
  members = by_ascent name_cmp (λ m. m.user) s.members sound.tables.members;
  roles = by_ascent name_cmp (λ r. r) s.roles sound.tables.roles;
  devices = by_ascent name_cmp (λ d. d.id) s.devices sound.tables.devices;
  invitations = by_ascent name_cmp (λ i. i.id) s.invitations sound.tables.invitations;
  currents = by_ascent scope_cmp (λ k. k.scope) s.currents sound.tables.currents;
  others = sound.keyed.others;
}
