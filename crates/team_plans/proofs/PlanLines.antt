-- The lines of a plan, in the state that its new keys make.
use Rattle.std.proofs.Common.{◌≡◌, ℕ, Bool, true, false, not, ◌&&◌, cond, List, [], filter, length, map, sym, ◌∙◌, ap, subst}
use Rattle.std.proofs.lemmas.Bool.{and_parts}
use Rattle.team_sets.specs.Closure.{has}
use Rattle.team_sets.specs.Members.{IsIn}
use Rattle.team_sets.proofs.OrderLeast.{of_filter}
use Rattle.team_sets.proofs.Pasts.{all_at}
use Rattle.acts.specs.declared.entry.Entry.{Entry}
use Rattle.tg_text.specs.declared.keys.BoxLine.{BoxLine}
use Rattle.tg_text.specs.declared.keys.KeyId.{KeyId}
use Rattle.tg_text.specs.declared.keys.Scope.{Scope}
use Rattle.key_reach.specs.Keys.{Table, current_keys, is_device, is_role, is_tainted, is_team, lacks, same_key}
use Rattle.key_reach.proofs.Currents.{has-in-key}
use Rattle.key_reach.proofs.Numbered.{in-map}
use Rattle.key_laws.proofs.Lacking.{clean_parts, IsLacking}
use Rattle.team_model.specs.KeyLines.{next_generation, taken_news, with_news}
use Rattle.team_model.specs.KeyTables.{is_allowed, key_table}
use Rattle.team_model.specs.State.{State, lists_device}
use Rattle.team_model.proofs.Lined.{allowed-kept}
use Rattle.team_reducer.specs.Sound.{IsKeyed}
use Rattle.team_reducer.proofs.Taken.{IsDue, next-taken, others-taken}
use Rattle.team_plans.specs.Plans.{due, ends_of, lacks_by_content, plan_news, plan_scopes, plan_state, same_pair}
use Rattle.team_plans.proofs.Boxed.{IsGood}
use Rattle.team_plans.proofs.Owing.{of_by_content}
use Rattle.team_plans.proofs.StateTables.{keys_keep_taint}
use Rattle.team_plans.proofs.TakenKeys.{all_others, put_all}

-- the lines of the entry are planned between these states, by a device that is listed then
pub record IsPlanOf (s t : State) (e : Entry) (publics : List (List ℕ)) : Type 0 where
  pub keyed : IsKeyed t
  pub listed : lists_device t e.user e.device ≡ true
  pub each : length publics ≡ length (plan_scopes s t e)
  pub news : e.lines.news ≡ plan_news s t e publics
  pub boxes : map ends_of e.lines.boxes ≡ due s t e publics

-- whatever new keys are taken, they change no taint and no arrow
module _ (t : State) (e : Entry) (news : List KeyId) where
  pub taint_with : IsKeyed t → (k : KeyId) → is_tainted (key_table (with_news t e news)) k ≡ is_tainted (key_table t) k
  taint_with keyed k =
      ap (λ (l : List KeyId). has same_key l k)
      (keys_keep_taint t (put_all t.currents (taken_news t e news)) keyed.others (all_others (taken_news t e news) t.currents (others-taken t e news) keyed.others))

  pub arrows_with : (to of : Scope) → is_allowed (with_news t e news) to of ≡ is_allowed t to of
  arrows_with to of = allowed-kept t (put_all t.currents (taken_news t e news)) t.boxes to of

module _ (t : State) (e : Entry) where
  abbrev pub taken : List KeyId
  taken = taken_news t e e.lines.news

  -- the state with the new keys, and its tables
  abbrev pub renewed : State
  renewed = with_news t e e.lines.news

  abbrev pub tables : Table
  tables = key_table renewed

  pub taint_kept : IsKeyed t → (k : KeyId) → is_tainted tables k ≡ is_tainted (key_table t) k
  taint_kept keyed k = taint_with t e e.lines.news keyed k

  pub arrows_kept : (to of : Scope) → is_allowed renewed to of ≡ is_allowed t to of
  arrows_kept to of = arrows_with t e e.lines.news to of

  pub due_taken : (k : KeyId) → IsIn k taken → IsDue t e k
  due_taken k i = record {
    other = all_at (λ (k : KeyId). is_device k.scope ≡ false) taken (others-taken t e e.lines.news) k i;
    next = all_at (λ (k : KeyId). k.generation ≡ next_generation t k.scope) taken (next-taken t e e.lines.news) k i;
  }

-- whether a pair doesn't lack a box in a state
abbrev pub not_before : State → KeyId × KeyId → Bool
not_before s p = not (has same_pair (lacks (key_table s)) p)

module _ (s t : State) (e : Entry) (publics : List (List ℕ)) (plan : IsPlanOf s t e publics) where
  pub due_then : due s t e publics ≡ filter (not_before s) (lacks_by_content (tables t e))
  due_then =
      ap (λ b. cond b (filter (not_before s) (lacks_by_content (key_table (plan_state s t e publics)))) []) plan.listed
      ∙ ap (λ news. filter (not_before s) (lacks_by_content (key_table (with_news t e news)))) (sym plan.news)

  -- each pair of a box lacks one
  pub line_lacks : (b : BoxLine) → IsIn b e.lines.boxes → IsLacking (tables t e) (ends_of b)
  line_lacks b i =
      let in_due = subst (λ l. IsIn (ends_of b) l) (plan.boxes ∙ due_then) (in-map ends_of b e.lines.boxes i) in
      of_by_content (tables t e) (ends_of b) (of_filter (not_before s) (ends_of b) (lacks_by_content (tables t e)) in_due).0

  -- so each fits, but for equal lines that are held, and for room
  pub line_good : (b : BoxLine) → IsIn b e.lines.boxes → IsGood t (current_keys (tables t e)) b
  line_good b i =
      let is = line_lacks b i in
      let to = clean_parts (tables t e) b.to is.to in
      let arrow = (and_parts (is_allowed (renewed t e) b.to.scope b.of.scope) (not (is_role b.to.scope && is_team b.of.scope)) is.planned).0 in
      record {
        to = has-in-key (current_keys (tables t e)) b.to to.0;
        of = has-in-key (current_keys (tables t e)) b.of (clean_parts (tables t e) b.of is.of).0;
        allowed = sym (arrows_kept t e b.to.scope b.of.scope) ∙ arrow;
        clean = sym (taint_kept t e plan.keyed b.to) ∙ to.1;
      }
