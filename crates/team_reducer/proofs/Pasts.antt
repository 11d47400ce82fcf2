-- Keys that were current stay past, whichever next ones come.
use Rattle.std.proofs.Common.{◌≡◌, ◌≤◌, ◌+◌, ℕ, Bool, true, false, not, ◌||◌, inl, inr, cond, List, [], ◌∷◌, ◌++◌, filter, find, fold, map, nat_le, Option, Some, None, refl, sym, ◌∙◌, ap, subst, arith}
use Rattle.std.specs.List.{AllByRecursion}
use Rattle.std.specs.Option.{option_map_or}
use Rattle.std.specs.Ordering.{is_lt}
use Rattle.std.proofs.lemmas.Bool.{false≢true, le-leb, leb-true, not-true}
use Rattle.team_sets.specs.Members.{IsIn}
use Rattle.team_sets.specs.Names.{Name, put_in}
use Rattle.team_sets.proofs.Decisions.{find_of}
use Rattle.team_sets.proofs.OrderLeast.{of_filter}
use Rattle.team_sets.proofs.Pasts.{all_at}
use Rattle.team_sets.proofs.Sorted.{all_of}
use Rattle.tg_text.specs.Order.{scope_cmp}
use Rattle.tg_text.specs.declared.keys.KeyId.{KeyId}
use Rattle.tg_text.specs.declared.keys.Scope.{Scope}
use Rattle.tg_text.specs.declared.keys.Scope.TheVariants.{Team, Role, User, Device as DeviceScope}
use Rattle.team_sets.specs.Closure.{has}
use Rattle.key_reach.specs.Keys.{current_keys, is_device, keys_of, same_key, same_scope}
use Rattle.key_reach.proofs.Currents.{in-has-key, of-flat}
use Rattle.key_reach.proofs.Meeting.{scope-is, scope-same}
use Rattle.team_model.specs.KeyLines.{next_generation}
use Rattle.team_model.specs.KeyTables.{all_keys, current_key, key_of_device, key_table, live_scopes, put_current}
use Rattle.team_model.specs.State.{State}
use Rattle.team_model.specs.Writes.{with_key}
use Rattle.team_model.specs.declared.terms.Device.{Device}
use Rattle.team_state.specs.Kept.{IsOrdered}
use Rattle.team_state.proofs.Current.{next-is}
use Rattle.team_state.proofs.Lawful.{key-only}
use Rattle.team_state.proofs.Listed.{all_put_in}
use Rattle.team_state.proofs.Placed.{all-filter}
use Rattle.team_state.proofs.Written as kept
use Rattle.team_reducer.specs.News.{with_keys}
use Rattle.team_reducer.specs.Sound.{is_past}

-- whether a key is a device's, or no later than that of its scope among these
abbrev pub past_in : List KeyId → KeyId → Bool
past_in ks j = is_device j.scope || option_map_or (λ c. nat_le j.generation c.generation) (find (λ c. same_scope c.scope j.scope) ks) false

module _ {A : Type 0} where
  find_before : (p : A → Bool) (xs ys : List A) → find p ys ≡ None → find p (xs ++ ys) ≡ find p xs
  find_before p [] ys none = none
  find_before p (x ∷ xs) ys none = ap (λ (o : Option A). cond (p x) (Some x) o) (find_before p xs ys none)

  put_found : (before : A → A → Bool) (p : A → Bool) (k : A) (xs : List A) → p k ≡ true → AllByRecursion (λ x. p x ≡ false) xs → find p (put_in before k xs) ≡ Some k
  put_found before p k [] h all = ap (λ b. cond b (Some k) None) h
  put_found before p k (x ∷ xs) h all = go (before k x) (put_found before p k xs h all.1)
    where
      go : (b : Bool) → find p (put_in before k xs) ≡ Some k → find p (cond b (k ∷ x ∷ xs) (x ∷ put_in before k xs)) ≡ Some k
      go true more = ap (λ b. cond b (Some k) (find p (x ∷ xs))) h
      go false more = ap (λ b. cond b (Some x) (find p (put_in before k xs))) all.0 ∙ more

  put_passed : (before : A → A → Bool) (p : A → Bool) (k : A) (xs : List A) → p k ≡ false → find p (put_in before k xs) ≡ find p xs
  put_passed before p k [] h = ap (λ b. cond b (Some k) None) h
  put_passed before p k (x ∷ xs) h = go (before k x) (put_passed before p k xs h)
    where
      go : (b : Bool) → find p (put_in before k xs) ≡ find p xs → find p (cond b (k ∷ x ∷ xs) (x ∷ put_in before k xs)) ≡ find p (x ∷ xs)
      go true more = ap (λ b. cond b (Some k) (find p (x ∷ xs))) h
      go false more = ap (λ (o : Option A). cond (p x) (Some x) o) more

  filter_found : (keep p : A → Bool) → ((x : A) → p x ≡ true → keep x ≡ true) → (xs : List A) → find p (filter keep xs) ≡ find p xs
  filter_found keep p keeps [] = refl
  filter_found keep p keeps (x ∷ xs) = go (keep x) refl (p x) refl (filter_found keep p keeps xs)
    where
      go : (b : Bool) → keep x ≡ b → (c : Bool) → p x ≡ c → find p (filter keep xs) ≡ find p xs → find p (cond b (x ∷ filter keep xs) (filter keep xs)) ≡ find p (x ∷ xs)
      go true e c f more = ap (λ (o : Option A). cond (p x) (Some x) o) more
      go false e true f more = absurd (false≢true (sym e ∙ keeps x f))
      go false e false f more = more ∙ sym (ap (λ b. cond b (Some x) (find p xs)) f)

-- a device's key is of no other scope
device_apart : (i : Name) (c : Scope) → is_device c ≡ false → same_scope (DeviceScope i) c ≡ false
device_apart i Team other = refl
device_apart i (Role r) other = refl
device_apart i (User u) other = refl
device_apart i (DeviceScope d) other = absurd (false≢true (sym other))

none_of_devices : (c : Scope) → is_device c ≡ false → (ds : List Device) → find (λ k. same_scope k.scope c) (map key_of_device ds) ≡ None
none_of_devices c other [] = refl
none_of_devices c other (d ∷ ds) = ap (λ b. cond b (Some (key_of_device d)) (find (λ k. same_scope k.scope c) (map key_of_device ds))) (device_apart d.id c other) ∙ none_of_devices c other ds

pub past-is : (s : State) (j : KeyId) → is_past s j ≡ past_in s.currents j
past-is s j = go (is_device j.scope) refl
  where
    go : (b : Bool) → is_device j.scope ≡ b → (is_device j.scope || option_map_or (λ c. nat_le j.generation c.generation) (current_key s j.scope) false) ≡ past_in s.currents j
    go true e =
        ap (λ b. b || option_map_or (λ c. nat_le j.generation c.generation) (current_key s j.scope) false) e
        ∙ sym (ap (λ b. b || option_map_or (λ c. nat_le j.generation c.generation) (find (λ c. same_scope c.scope j.scope) s.currents) false) e)
    go false e =
        ap (λ (o : Option KeyId). is_device j.scope || option_map_or (λ c. nat_le j.generation c.generation) o false)
        (find_before (λ c. same_scope c.scope j.scope) s.currents (map key_of_device s.devices) (none_of_devices j.scope e s.devices))

module _ (bound : Scope → ℕ) where
  -- a key is no later than the bound of its scope
  abbrev pub Within : KeyId → Type 0
  Within c = c.generation ≤ bound c.scope

  abbrev others_of : KeyId → KeyId → Bool
  others_of k c = not (same_scope c.scope k.scope)

  within-put : (k : KeyId) (cs : List KeyId) → Within k → AllByRecursion Within cs → AllByRecursion Within (put_current k cs)
  within-put k cs h all = all_put_in Within (λ a b. is_lt (scope_cmp a.scope b.scope)) k (filter (others_of k) cs) h (all-filter Within (others_of k) cs all)

  module _ (j : KeyId) where
    abbrev is_its : KeyId → Bool
    is_its c = same_scope c.scope j.scope

    abbrev covers : Option KeyId → Bool
    covers o = option_map_or (λ c. nat_le j.generation c.generation) o false

    put_covers : (k : KeyId) (cs : List KeyId) → k.generation ≡ bound k.scope → AllByRecursion Within cs → covers (find is_its cs) ≡ true → covers (find is_its (put_current k cs)) ≡ true
    put_covers k cs is all h = go (same_scope k.scope j.scope) refl
      where
        before : KeyId → KeyId → Bool
        before a b = is_lt (scope_cmp a.scope b.scope)

        none : same_scope k.scope j.scope ≡ true → AllByRecursion (λ c. is_its c ≡ false) (filter (others_of k) cs)
        none e = all_of (λ c. is_its c ≡ false) (filter (others_of k) cs)
            (λ c i. subst (λ t. same_scope c.scope t ≡ false) (scope-is k.scope j.scope e) (not-true (same_scope c.scope k.scope) (of_filter (others_of k) c cs i).1))

        over : same_scope k.scope j.scope ≡ true → (o : Option KeyId) → find is_its cs ≡ o → covers o ≡ true → nat_le j.generation k.generation ≡ true
        over e None f g = absurd (false≢true g)
        over e (Some c) f g =
            let found = find_of is_its cs c f in
            let within : c.generation ≤ bound c.scope = all_at Within cs all c found.0 in
            let same : bound c.scope ≡ k.generation = ap bound (scope-is c.scope j.scope found.1 ∙ sym (scope-is k.scope j.scope e)) ∙ sym is in
            le-leb j.generation k.generation (omega (arith, leb-true j.generation c.generation g, within, same))

        apart : same_scope k.scope j.scope ≡ false → (c : KeyId) → is_its c ≡ true → others_of k c ≡ true
        apart e c f = go2 (same_scope c.scope k.scope) refl
          where
            go2 : (b : Bool) → same_scope c.scope k.scope ≡ b → not b ≡ true
            go2 false g = refl
            go2 true g = absurd (false≢true (sym e ∙ subst (λ t. same_scope t j.scope ≡ true) (scope-is c.scope k.scope g) f))

        go : (b : Bool) → same_scope k.scope j.scope ≡ b → covers (find is_its (put_current k cs)) ≡ true
        go true e = ap covers (put_found (λ a b. is_lt (scope_cmp a.scope b.scope)) is_its k (filter (others_of k) cs) e (none e)) ∙ over e (find is_its cs) refl h
        go false e =
            ap covers (put_passed (λ a b. is_lt (scope_cmp a.scope b.scope)) is_its k (filter (others_of k) cs) e ∙ filter_found (others_of k) is_its (apart e) cs) ∙ h

    fold_covers : (ks cs : List KeyId) → AllByRecursion (λ (k : KeyId). k.generation ≡ bound k.scope) ks → AllByRecursion Within cs → covers (find is_its cs) ≡ true
        → covers (find is_its (fold (λ cs k. put_current k cs) cs ks)) ≡ true
    fold_covers [] cs all within h = h
    fold_covers (k ∷ ks) cs all within h =
        fold_covers ks (put_current k cs) all.1 (within-put k cs (let same = all.0 in omega (arith, same)) within) (put_covers k cs all.0 within h)

    pub past-stays : (ks cs : List KeyId) → AllByRecursion (λ (k : KeyId). k.generation ≡ bound k.scope) ks → AllByRecursion Within cs → past_in cs j ≡ true
        → past_in (fold (λ cs k. put_current k cs) cs ks) j ≡ true
    past-stays ks cs all within h = go (is_device j.scope) refl
      where
        go : (b : Bool) → is_device j.scope ≡ b → past_in (fold (λ cs k. put_current k cs) cs ks) j ≡ true
        go true e = ap (λ b. b || covers (find is_its (fold (λ cs k. put_current k cs) cs ks))) e
        go false e =
            ap (λ b. b || covers (find is_its (fold (λ cs k. put_current k cs) cs ks))) e
            ∙ fold_covers ks cs all within (sym (ap (λ b. b || covers (find is_its cs)) e) ∙ h)

module _ (s : State) (up : IsOrdered s) where
  -- each current key is before the next one of its scope
  pub within-next : AllByRecursion (Within (next_generation s)) s.currents
  within-next = all_of (Within (next_generation s)) s.currents each
    where
      left : (k : KeyId) (xs ys : List KeyId) → IsIn k xs → IsIn k (xs ++ ys)
      left k [] ys i = absurd i
      left k (x ∷ xs) ys (inl e) = inl e
      left k (x ∷ xs) ys (inr i) = inr (left k xs ys i)

      each : (k : KeyId) → IsIn k s.currents → Within (next_generation s) k
      each k i =
          let next : next_generation s k.scope ≡ k.generation + 1 =
          next-is s k.scope (Some k) (key-only s up k.scope k (left k s.currents (map key_of_device s.devices) i) (scope-same k.scope)) in
          omega (arith, next)

  -- the tables stay in order
  pub ordered-key : (k : KeyId) → is_device k.scope ≡ false → IsOrdered (with_key s k)
  ordered-key k other = (kept.kept-key s (all_keys s) (live_scopes s) (record { ordered = up; keys_are = refl; scopes_are = refl }) k other).ordered

pub ordered-keys : (ks : List KeyId) (s : State) → IsOrdered s → AllByRecursion (λ (k : KeyId). is_device k.scope ≡ false) ks → IsOrdered (with_keys s ks)
ordered-keys [] s up all = up
ordered-keys (k ∷ ks) s up all = ordered-keys ks (with_key s k) (ordered-key s up k all.0) all.1

-- a current key of a live scope is past
pub current-past : (s : State) → IsOrdered s → (k : KeyId) → has same_key (current_keys (key_table s)) k ≡ true → is_past s k ≡ true
current-past s up k h = go (is_device k.scope)
  where
    there : IsIn k (all_keys s)
    there =
        let r = of-flat (keys_of (key_table s)) (live_scopes s) k (in-has-key (current_keys (key_table s)) k h) in
        (of_filter (λ i. same_scope i.scope r.0) k (all_keys s) r.2).0

    no_later : option_map_or (λ c. nat_le k.generation c.generation) (current_key s k.scope) false ≡ true
    no_later = ap (λ (o : Option KeyId). option_map_or (λ c. nat_le k.generation c.generation) o false) (key-only s up k.scope k there (scope-same k.scope)) ∙ le-leb k.generation k.generation (omega arith)

    go : (b : Bool) → (b || option_map_or (λ c. nat_le k.generation c.generation) (current_key s k.scope) false) ≡ true
    go true = refl
    go false = no_later
