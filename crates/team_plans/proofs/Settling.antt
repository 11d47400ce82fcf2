-- A plan leaves no debt, and no box lacks.
use Rattle.std.proofs.Common.{◌≡◌, ◌≤◌, ◌+◌, ℕ, true, false, not, ◌&&◌, List, [], ◌++◌, append-nil, map, length, sym, ◌∙◌, ap, subst, inl, inr, ◌⊎◌}
use Rattle.std.specs.List.{list_any}
use Rattle.std.proofs.lemmas.Bool.{and_from, false≢true, or_parts, or_right}
use Rattle.team_sets.specs.Closure.{has}
use Rattle.team_sets.specs.Members.{IsIn}
use Rattle.team_sets.proofs.Agree.{any_in}
use Rattle.team_sets.proofs.OrderLeast.{in_filter}
use Rattle.team_sets.proofs.Pasts.{all_at, any_of}
use Rattle.acts.specs.declared.entry.Entry.{Entry}
use Rattle.tg_text.specs.declared.keys.BoxLine.{BoxLine}
use Rattle.tg_text.specs.declared.keys.KeyId.{KeyId}
use Rattle.tg_text.specs.declared.keys.Scope.{Scope}
use Rattle.key_reach.specs.Debts.{debts, is_without_key}
use Rattle.key_reach.specs.Keys.{Table, current_keys, has_box, is_device, is_live, is_tainted, keys_of, lacks, same_scope}
use Rattle.key_reach.proofs.Meeting.{scope-decides, scope-is, scope-same}
use Rattle.key_reach.proofs.Members.{in-either, in-left, in-right}
use Rattle.key_reach.proofs.Numbered.{of-map}
use Rattle.key_laws.specs.DebtLaws.{FillLacks}
use Rattle.key_laws.specs.TaintLaws.{GoToClean, with_boxes as table_with}
use Rattle.key_laws.proofs.Lacking.{boxed_nothing, nothing_owed, of_lacks}
use Rattle.key_laws.proofs.Tainting.{device_clean, keep_taint}
use Rattle.team_model.specs.KeyLines.{has_next, is_rotated, lined, may_rekey, taken_boxes, taken_news, wants_key}
use Rattle.team_model.specs.KeyTables.{all_keys, is_allowed, key_of_device, key_table, live_scopes}
use Rattle.team_model.specs.Limits.{most_boxes}
use Rattle.team_model.specs.State.{State}
use Rattle.team_model.specs.Writes.{with_boxes}
use Rattle.team_model.proofs.Brought.{from_not}
use Rattle.team_model.proofs.Lined.{allowed-kept, lined-listed, with_lines-are}
use Rattle.team_state.specs.ArrowLaws.{allowed_arrows}
use Rattle.team_state.proofs.Staying.{by_cases, none_met}
use Rattle.team_reducer.proofs.Taken.{all-boxes}
use Rattle.team_plans.specs.PlanLaws.{IsSettled}
use Rattle.team_plans.specs.Plans.{ends_of, lacks_by_content, owes, same_pair}
use Rattle.team_plans.proofs.Boxed.{all_boxed}
use Rattle.team_plans.proofs.LiveScopes.{device_keyed, of_devices, users_lead}
use Rattle.team_plans.proofs.Owing.{in_by_content}
use Rattle.team_plans.proofs.PlanLines.{IsPlanOf, arrows_kept, due_taken, due_then, line_good, not_before, renewed, tables, taint_kept, taken}
use Rattle.team_plans.proofs.Planned.{scope_taken}
use Rattle.team_plans.proofs.StateTables.{next_clean, no_device_content, of_currents}
use Rattle.team_plans.proofs.TakenKeys.{HasKeyOf, NoneOf, all_have_scope, all_keep_scope, of_all, put_all}

-- the lines of the entry are planned between these states, and may leave them settled
pub record IsSettling (s t : State) (e : Entry) (publics : List (List ℕ)) : Type 0 where
  pub lines : IsPlanOf s t e publics
  pub owes_none : (c : Scope) → owes s c ≡ false
  pub lacks_none : lacks (key_table s) ≡ []
  pub rekeys : (c : Scope) → is_live (key_table t) c ≡ true → wants_key t c ≡ true → may_rekey t e c ≡ true
  pub nexts : (c : Scope) → is_live (key_table t) c ≡ true → wants_key t c ≡ true → has_next t c ≡ true
  pub room : length t.boxes + length e.lines.boxes ≤ most_boxes

module _ (s t : State) (e : Entry) (publics : List (List ℕ)) (plan : IsSettling s t e publics) where
  abbrev new_keys : List KeyId
  new_keys = taken t e

  -- the tables of the state with the new keys, and the boxes that are taken then
  abbrev then_tables : Table
  then_tables = tables t e

  abbrev more : List BoxLine
  more = taken_boxes t (current_keys then_tables) e.lines.boxes

  abbrev boxed : Table
  boxed = table_with then_tables more

  same_taint : (k : KeyId) → is_tainted then_tables k ≡ is_tainted (key_table t) k
  same_taint k = taint_kept t e plan.lines.keyed k

  -- what is wanted is planned, and so taken
  got_key : (c : Scope) → is_live (key_table t) c ≡ true → is_device c ≡ false → wants_key t c ≡ true → HasKeyOf c new_keys
  got_key c live other wants =
      subst (λ news. HasKeyOf c (taken_news t e news)) (sym plan.lines.news)
      (scope_taken s t e plan.lines.listed publics plan.lines.each c (record {
        live = live;
        other = other;
        rekeys = plan.rekeys c live wants;
        next = plan.nexts c live wants;
        wanted = or_right (is_rotated e.act c) (wants_key t c && not (owes s c)) (and_from (wants_key t c) (not (owes s c)) wants (ap not (plan.owes_none c)));
      }))

  -- each current key is clean then
  old_clean : (k : KeyId) → IsIn k t.currents → NoneOf new_keys k → is_live (key_table t) k.scope ≡ true → is_tainted then_tables k ≡ false
  old_clean k i none live = by_cases (wants_key t k.scope) wanted kept
    where
      wanted : wants_key t k.scope ≡ true → is_tainted then_tables k ≡ false
      wanted h = let g = got_key k.scope live (all_at (λ (k : KeyId). is_device k.scope ≡ false) t.currents plan.lines.keyed.others k i) h in absurd (none g.0 g.1 g.2)

      kept : wants_key t k.scope ≡ false → is_tainted then_tables k ≡ false
      kept h =
          let clean = (or_parts (is_without_key (key_table t) k.scope) (list_any (is_tainted (key_table t)) (keys_of (key_table t) k.scope)) h).1 in
          same_taint k
          ∙ none_met (is_tainted (key_table t)) (keys_of (key_table t) k.scope) k clean
          (in_filter (λ j. same_scope j.scope k.scope) k (all_keys t) (in-left t.currents (map key_of_device t.devices) k i) (scope-same k.scope))

  current_clean : (k : KeyId) → IsIn k (current_keys then_tables) → is_tainted then_tables k ≡ false
  current_clean k i = go (in-either (put_all t.currents new_keys) (map key_of_device t.devices) k its.0)
    where
      its : IsIn k (all_keys (renewed t e)) × (is_live then_tables k.scope ≡ true)
      its = of_currents then_tables k i

      by_scope : IsIn k new_keys ⊎ (IsIn k t.currents × NoneOf new_keys k) → is_tainted then_tables k ≡ false
      by_scope (inl m) = same_taint k ∙ next_clean t plan.lines.keyed e k (due_taken t e k m)
      by_scope (inr o) = old_clean k o.0 o.1 its.1

      go : IsIn k (put_all t.currents new_keys) ⊎ IsIn k (map key_of_device t.devices) → is_tainted then_tables k ≡ false
      go (inl j) = by_scope (of_all new_keys t.currents k j)
      go (inr j) = device_clean then_tables (no_device_content t plan.lines.keyed) k (of_devices t.devices k j) its.1

  -- and each live scope has one
  has_key : (c : Scope) → is_live then_tables c ≡ true → HasKeyOf c (all_keys (renewed t e))
  has_key c live = by_cases (is_device c) device other
    where
      device : is_device c ≡ true → HasKeyOf c (all_keys (renewed t e))
      device h = let k = device_keyed t c live h in (k.0, in-right (put_all t.currents new_keys) (map key_of_device t.devices) k.0 k.1, k.2)

      there : HasKeyOf c (put_all t.currents new_keys) → HasKeyOf c (all_keys (renewed t e))
      there k = (k.0, in-left (put_all t.currents new_keys) (map key_of_device t.devices) k.0 k.1, k.2)

      other : is_device c ≡ false → HasKeyOf c (all_keys (renewed t e))
      other apart = by_cases (wants_key t c) wanted kept
        where
          wanted : wants_key t c ≡ true → HasKeyOf c (all_keys (renewed t e))
          wanted h =
              let g = got_key c live apart h in
              let k = all_have_scope new_keys t.currents g.0 g.1 in
              there (k.0, k.1, k.2 ∙ g.2)

          old : (k : KeyId) → k.scope ≡ c → IsIn k t.currents ⊎ IsIn k (map key_of_device t.devices) → HasKeyOf c (all_keys (renewed t e))
          old k is (inl j) = there (all_keep_scope c new_keys t.currents (k, j, is))
          old k is (inr j) = absurd (false≢true (sym apart ∙ ap is_device (sym is) ∙ of_devices t.devices k j))

          kept : wants_key t c ≡ false → HasKeyOf c (all_keys (renewed t e))
          kept h =
              let keyed = (or_parts (is_without_key (key_table t) c) (list_any (is_tainted (key_table t)) (keys_of (key_table t) c)) h).0 in
              let k = any_of (λ k. same_scope k.scope c) (all_keys t) (from_not (list_any (λ k. same_scope k.scope c) (all_keys t)) keyed) in
              old k.0 (scope-is k.0.scope c k.2) (in-either t.currents (map key_of_device t.devices) k.0 k.1)

  keyed_then : (c : Scope) → is_live then_tables c ≡ true → is_without_key then_tables c ≡ false
  keyed_then c live =
      let k = has_key c live in
      ap not (any_in (λ j. same_scope j.scope c) (all_keys (renewed t e)) k.0 k.1 ((scope-decides k.0.scope c).1 k.2))

  abbrev IsClean : BoxLine → Type 0
  IsClean b = (is_allowed t b.to.scope b.of.scope ≡ true) × (is_tainted (key_table t) b.to ≡ false)

  go_clean : GoToClean then_tables more
  go_clean b i =
      let is = all_at IsClean more (all-boxes t (current_keys then_tables) IsClean (λ held b fits. (fits.allowed, fits.clean)) e.lines.boxes [] tt) b i in
      (arrows_kept t e b.to.scope b.of.scope ∙ is.0, same_taint b.to ∙ is.1)

  filled : FillLacks then_tables more
  filled = record { taint = keep_taint then_tables more go_clean; boxed = λ p i. of_line p (line_of p i) }
    where
      line_of : (p : KeyId × KeyId) → IsIn p (lacks then_tables) → (b : BoxLine) × IsIn b e.lines.boxes × (ends_of b ≡ p)
      line_of p i =
          let new : not_before s p ≡ true = ap (λ l. not (has same_pair l p)) plan.lacks_none in
          let there = in_filter (not_before s) p (lacks_by_content then_tables) (in_by_content then_tables p (of_lacks then_tables p i)) new in
          of-map ends_of p e.lines.boxes (subst (λ l. IsIn p l) (sym (plan.lines.boxes ∙ due_then s t e publics plan.lines)) there)

      of_line : (p : KeyId × KeyId) → (b : BoxLine) × IsIn b e.lines.boxes × (ends_of b ≡ p) → has_box boxed.boxes p.0 p.1 ≡ true
      of_line p b =
          subst (λ (q : KeyId × KeyId). has_box (t.boxes ++ more) q.0 q.1 ≡ true) b.2
          (all_boxed t (current_keys then_tables) e.lines.boxes [] (line_good s t e publics plan.lines) (subst (λ (bs : List BoxLine). length bs + length e.lines.boxes ≤ most_boxes) (sym (append-nil t.boxes)) plan.room) b.0 b.1)

  lacks_nothing : lacks boxed ≡ []
  lacks_nothing = boxed_nothing then_tables more filled

  owes_nothing : debts boxed ≡ []
  owes_nothing = nothing_owed boxed (record {
    lawful = record { joins_live = (allowed_arrows (renewed t e)).joins_live; leads = (allowed_arrows (renewed t e)).leads };
    to_team = λ u user team. users_lead (renewed t e) u user team;
    keyed = keyed_then;
    clean = λ k i. keep_taint then_tables more go_clean k ∙ current_clean k i;
    boxed = lacks_nothing;
  })

  -- the tables of the state that the lines leave
  tables_then : key_table (with_boxes (renewed t e) more) ≡ boxed
  tables_then = λ i. record {
    boxes = (renewed t e).boxes ++ more;
    currents = all_keys (renewed t e);
    scopes = live_scopes (renewed t e);
    allowed = λ to of. allowed-kept (renewed t e) (renewed t e).currents ((renewed t e).boxes ++ more) to of i;
  }

  pub settles : IsSettled (lined t e)
  settles =
      subst (λ v. IsSettled v) (sym (lined-listed t e plan.lines.listed ∙ with_lines-are t e e.lines))
      (record {
        debts = subst (λ v. debts v ≡ []) (sym tables_then) owes_nothing;
        lacks = subst (λ v. lacks v ≡ []) (sym tables_then) lacks_nothing;
      })
