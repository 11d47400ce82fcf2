-- The tables of keys of a state: which keys are current in any table, what other keys and boxes change, and that the next key of a
-- scope is clean.
use Rattle.std.proofs.Common.{◌≡◌, ◌+◌, Bool, true, false, ◌||◌, List, ◌++◌, map, filter, nat_le, Option, Some, None, refl, sym, ◌∙◌, ap, subst, arith}
use Rattle.std.specs.List.{AllByRecursion}
use Rattle.std.specs.Option.{option_map_or}
use Rattle.std.proofs.lemmas.Bool.{false≢true, leb-true}
use Rattle.std.proofs.lemmas.List.Elements.{filter-append}
use Rattle.team_sets.specs.Members.{IsIn}
use Rattle.team_sets.specs.SortedLaws.{IsAscending}
use Rattle.team_sets.proofs.OrderLeast.{in_filter, of_filter}
use Rattle.team_sets.proofs.Pasts.{all_at}
use Rattle.tg_text.specs.declared.keys.BoxLine.{BoxLine}
use Rattle.tg_text.specs.declared.keys.KeyId.{KeyId}
use Rattle.acts.specs.declared.entry.Act.{Act}
use Rattle.acts.specs.declared.entry.Entry.{Entry}
use Rattle.key_reach.specs.Keys.{Table, current_keys, is_device, is_live, is_tainted, keys_of, same_scope, tainted}
use Rattle.key_reach.proofs.Currents.{has-in-scope, in-flat, of-flat}
use Rattle.key_reach.proofs.Meeting.{in-has-scope, scope-is, scope-same}
use Rattle.key_laws.specs.TaintLaws.{HoldNoDeviceKey}
use Rattle.key_laws.proofs.Tainting.{fresh_clean, same_taint}
use Rattle.team_model.specs.ActTable.{effect}
use Rattle.team_model.specs.KeyLines.{next_generation}
use Rattle.team_model.specs.KeyTables.{current_key, key_of_device, key_table}
use Rattle.team_model.specs.State.{State}
use Rattle.team_model.proofs.Lined.{allowed-kept}
use Rattle.team_state.proofs.Current.{next-is}
use Rattle.team_state.specs.AscentLaws.{by_scopes}
use Rattle.team_state.proofs.Placed.{all-weaker, filter-none}
use Rattle.team_reducer.specs.Sound.{IsKeyed, is_past}
use Rattle.team_reducer.proofs.Pasts.{past-is, past_in}
use Rattle.team_reducer.proofs.Taken.{IsDue}
use Rattle.team_reducer.proofs.Untouched.{untouched}

module _ (t : Table) where
  -- a current key of a live scope is one of the table's keys, and its scope is live
  pub of_currents : (k : KeyId) → IsIn k (current_keys t) → IsIn k t.currents × (is_live t k.scope ≡ true)
  of_currents k j =
      let r = of-flat (keys_of t) t.scopes k j in
      let f = of_filter (λ i. same_scope i.scope r.0) k t.currents r.2 in
      (f.0, subst (λ s. is_live t s ≡ true) (sym (scope-is k.scope r.0 f.1)) (has-in-scope t.scopes r.0 r.1))

  pub in_currents : (k : KeyId) → IsIn k t.currents → is_live t k.scope ≡ true → IsIn k (current_keys t)
  in_currents k j live = in-flat (keys_of t) t.scopes k.scope k (in-has-scope t.scopes k.scope live) (in_filter (λ i. same_scope i.scope k.scope) k t.currents j (scope-same k.scope))

abbrev pub AreOthers : List KeyId → Type 0
AreOthers ks = AllByRecursion (λ (k : KeyId). is_device k.scope ≡ false) ks

abbrev is_devices : KeyId → Bool
is_devices k = is_device k.scope

device_part : (keys more : List KeyId) → AreOthers keys → filter is_devices (keys ++ more) ≡ filter is_devices more
device_part keys more all = filter-append is_devices keys more ∙ ap (λ l. l ++ filter is_devices more) (filter-none is_devices keys all)

module _ (t : State) (keys : List KeyId) where
  abbrev rekeyed : State
  rekeyed = record t { currents = keys }

  -- other keys, none of them a device's, change no taint
  pub keys_keep_taint : AreOthers t.currents → AreOthers keys → tainted (key_table rekeyed) ≡ tainted (key_table t)
  keys_keep_taint olds news = same_taint (key_table rekeyed) (key_table t) (record {
    boxes = refl;
    scopes = refl;
    allowed = λ to of. allowed-kept t keys t.boxes to of;
    devices = device_part keys (map key_of_device t.devices) news ∙ sym (device_part t.currents (map key_of_device t.devices) olds);
  })

module _ (t : State) (keyed : IsKeyed t) where
  pub no_device_content : HoldNoDeviceKey (key_table t)
  no_device_content b i = all_at (λ (b : BoxLine). is_device b.of.scope ≡ false) t.boxes keyed.contents b i

  -- the next key of a scope was never a current one
  pub not_past : (e : Entry) (k : KeyId) → IsDue t e k → is_past t k ≡ true → ⊥
  not_past e k due was = none (current_key t k.scope) refl (past (is_device k.scope) refl)
    where
      covers : Option KeyId → Bool
      covers o = option_map_or (λ c. nat_le k.generation c.generation) o false

      past : (d : Bool) → is_device k.scope ≡ d → covers (current_key t k.scope) ≡ true
      past true is_d = absurd (false≢true (sym due.other ∙ is_d))
      past false is_d = subst (λ d. (d || covers (current_key t k.scope)) ≡ true) is_d was

      none : (o : Option KeyId) → current_key t k.scope ≡ o → covers (current_key t k.scope) ≡ true → ⊥
      none None found h = false≢true (ap covers (sym found) ∙ h)
      none (Some c) found h =
          let within = leb-true k.generation c.generation (ap covers (sym found) ∙ h) in
          let next : next_generation t k.scope ≡ c.generation + 1 = next-is t k.scope (Some c) found in
          let its = due.next in
          omega (arith, within, next, its)

  abbrev ArePast : BoxLine → Type 0
  ArePast b = (is_past t b.to ≡ true) × (is_past t b.of ≡ true)

  -- so no box goes to it, and none has it as its content
  pub next_unsealed : (e : Entry) (k : KeyId) → IsDue t e k → (b : BoxLine) → IsIn b t.boxes → b.to ≡ k → ⊥
  next_unsealed e k due b i is = not_past e k due (subst (λ j. is_past t j ≡ true) is (all_at ArePast t.boxes keyed.past b i).0)

  pub next_unboxed : (e : Entry) (k : KeyId) → IsDue t e k → (b : BoxLine) → IsIn b t.boxes → b.of ≡ k → ⊥
  next_unboxed e k due b i is = not_past e k due (subst (λ j. is_past t j ≡ true) is (all_at ArePast t.boxes keyed.past b i).1)

  -- nor is it tainted
  pub next_clean : (e : Entry) (k : KeyId) → IsDue t e k → is_tainted (key_table t) k ≡ false
  next_clean e k due = fresh_clean (key_table t) k due.other (next_unboxed e k due)

-- the own effect of an act leaves the keys in order
pub keyed_effect : (s : State) (e : Entry) (a : Act) → IsKeyed s → IsKeyed (effect s e a)
keyed_effect s e a keyed = go (effect s e a) (untouched s e a).currents (untouched s e a).boxes
  where
    go : (t : State) → t.currents ≡ s.currents → t.boxes ≡ s.boxes → IsKeyed t
    go t currents boxes = record {
      currents = subst (λ ks. IsAscending by_scopes ks) (sym currents) keyed.currents;
      others = subst (λ ks. AreOthers ks) (sym currents) keyed.others;
      contents = subst (λ bs. AllByRecursion (λ (b : BoxLine). is_device b.of.scope ≡ false) bs) (sym boxes) keyed.contents;
      past = subst (λ bs. AllByRecursion (λ (b : BoxLine). (is_past t b.to ≡ true) × (is_past t b.of ≡ true)) bs) (sym boxes)
          (all-weaker (λ (b : BoxLine). (is_past s b.to ≡ true) × (is_past s b.of ≡ true)) (λ (b : BoxLine). (is_past t b.to ≡ true) × (is_past t b.of ≡ true))
          (λ b h. (as_before b.to ∙ h.0, as_before b.of ∙ h.1)) s.boxes keyed.past);
    }
      where
        as_before : (k : KeyId) → is_past t k ≡ is_past s k
        as_before k = past-is t k ∙ ap (λ ks. past_in ks k) currents ∙ sym (past-is s k)
