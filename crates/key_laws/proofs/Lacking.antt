-- When no box lacks, and when nothing is owed.
use Rattle.std.proofs.Common.{◌≡◌, Bool, true, false, ◌&&◌, not, List, [], ◌∷◌, ◌++◌, filter, flat_map, refl, sym, ◌∙◌, ap, subst, inl, inr, ◌⊎◌}
use Rattle.std.specs.List.{list_any}
use Rattle.std.proofs.lemmas.Bool.{false≢true}
use Rattle.team_sets.specs.Members.{IsIn}
use Rattle.team_sets.specs.Names.{Name}
use Rattle.team_sets.specs.Closure.{Reaches, is_given, follows, has}
use Rattle.team_sets.proofs.Agree.{any_in}
use Rattle.team_sets.proofs.Closures.{closure-reaches}
use Rattle.team_sets.proofs.OrderLeast.{in_filter, of_filter}
use Rattle.team_sets.proofs.Pasts.{any_of}
use Rattle.tg_text.specs.declared.keys.Scope.{Scope}
use Rattle.tg_text.specs.declared.keys.Scope.TheVariants.{Team, Role, User, Device}
use Rattle.tg_text.specs.declared.keys.KeyId.{KeyId}
use Rattle.tg_text.specs.declared.keys.BoxLine.{BoxLine}
use Rattle.key_reach.specs.declared.debt.Debt.{Debt}
use Rattle.key_reach.specs.declared.debt.Debt.TheVariants.{NoKey, Tainted, Unreached}
use Rattle.key_reach.specs.Debts.{debts, device_names, is_unreached, is_without_key, no_keys, tainted_of, unreached_of}
use Rattle.key_reach.specs.EntitledLaws.{IsMet, own, led}
use Rattle.key_reach.specs.Keys.{Table, box_arrows, clean, contents_to, current_keys, has_box, is_entitled, is_live, is_role, is_tainted, is_team, keys_of, lacks, lacks_box, lacks_to, plans, reach, same_key, same_scope}
use Rattle.key_reach.proofs.Currents.{has-in-key, in-flat, in-has-key, of-flat}
use Rattle.key_reach.proofs.Equal.{key-decides, key-is, key-same}
use Rattle.key_reach.proofs.Meeting.{in-has-scope, scope-is, scope-same}
use Rattle.key_reach.proofs.Members.{in-left}
use Rattle.key_reach.proofs.MetScopes.{entitled-least}
use Rattle.key_reach.proofs.Numbered.{in-map, of-map}
use Rattle.key_laws.specs.DebtLaws.{FillLacks, LacksNothing}
use Rattle.key_laws.specs.TaintLaws.{with_boxes}
use Rattle.key_laws.proofs.Reached.{arrow_of, both_true, not_true}

-- a list without members is empty
pub none_in : {A : Type 0} (xs : List A) → ((x : A) → IsIn x xs → ⊥) → xs ≡ []
none_in [] never = refl
none_in (x ∷ xs) never = absurd (never x (inl refl))

pub no_member : {A : Type 0} (xs : List A) (x : A) → xs ≡ [] → IsIn x xs → ⊥
no_member xs x e k = subst (λ l. IsIn x l) e k

-- what a boxed pair says
pub box_held : (boxes : List BoxLine) (to of : KeyId) → has_box boxes to of ≡ true → (b : BoxLine) × IsIn b boxes × (b.to ≡ to) × (b.of ≡ of)
box_held boxes to of h =
    let r = of-map (λ (b : BoxLine). b.of) of (filter (λ b. same_key b.to to) boxes) (in-has-key (contents_to boxes to) of h) in
    let f = of_filter (λ b. same_key b.to to) r.0 boxes r.1 in
    (r.0, f.0, key-is r.0.to to f.1, r.2)

pub held_box : (boxes : List BoxLine) (b : BoxLine) → IsIn b boxes → has_box boxes b.to b.of ≡ true
held_box boxes b k = has-in-key (contents_to boxes b.to) b.of (in-map (λ (c : BoxLine). c.of) b (filter (λ c. same_key c.to b.to) boxes) (in_filter (λ c. same_key c.to b.to) b boxes k (key-same b.to)))

module _ (t : Table) where
  -- a clean key is a current key that isn't tainted
  pub clean_parts : (k : KeyId) → IsIn k (clean t) → IsIn k (current_keys t) × (is_tainted t k ≡ false)
  clean_parts k j = let f = of_filter (λ l. not (is_tainted t l)) k (current_keys t) j in (f.0, not_true (is_tainted t k) f.1)

  pub parts_clean : (k : KeyId) → IsIn k (current_keys t) → is_tainted t k ≡ false → IsIn k (clean t)
  parts_clean k j e = in_filter (λ l. not (is_tainted t l)) k (current_keys t) j (ap not e)

  -- a pair that lacks a box
  pub record IsLacking (p : KeyId × KeyId) : Type 0 where
    pub to : IsIn p.0 (clean t)
    pub of : IsIn p.1 (clean t)
    pub planned : plans t p.0 p.1 ≡ true
    pub unboxed : has_box t.boxes p.0 p.1 ≡ false

  pub of_lacks : (p : KeyId × KeyId) → IsIn p (lacks t) → IsLacking p
  of_lacks p k =
      let r = of-flat (lacks_to t (clean t)) (clean t) p k in
      let s = of-map (λ of. (r.0, of)) p (filter (lacks_box t r.0) (clean t)) r.2 in
      let f = of_filter (lacks_box t r.0) s.0 (clean t) s.1 in
      let tests = both_true (plans t r.0 s.0) (not (has_box t.boxes r.0 s.0)) f.1 in
      subst IsLacking s.2 (record { to = r.1; of = f.0; planned = tests.0; unboxed = not_true (has_box t.boxes r.0 s.0) tests.1 })

  pub in_lacks : (p : KeyId × KeyId) → IsLacking p → IsIn p (lacks t)
  in_lacks p is =
      in-flat (lacks_to t (clean t)) (clean t) p.0 p is.to
      (in-map (λ of. (p.0, of)) p.1 (filter (lacks_box t p.0) (clean t)) (in_filter (lacks_box t p.0) p.1 (clean t) is.of (λ i. is.planned i && not (is.unboxed i))))

pub boxed_nothing : (t : Table) (more : List BoxLine) → FillLacks t more → lacks (with_boxes t more) ≡ []
boxed_nothing t more fill = none_in (lacks (with_boxes t more)) (λ p k. none p (of_lacks (with_boxes t more) p k))
  where
    was_clean : (k : KeyId) → IsIn k (clean (with_boxes t more)) → IsIn k (clean t)
    was_clean k j = let c = clean_parts (with_boxes t more) k j in parts_clean t k c.0 (sym (fill.taint k) ∙ c.1)

    boxed : (p : KeyId × KeyId) → IsLacking (with_boxes t more) p → (r : Bool) → has_box t.boxes p.0 p.1 ≡ r → has_box (with_boxes t more).boxes p.0 p.1 ≡ true
    boxed p is true e =
        let b = box_held t.boxes p.0 p.1 e in
        let now = held_box (with_boxes t more).boxes b.0 (in-left t.boxes more b.0 b.1) in
        subst (λ (q : KeyId × KeyId). has_box (with_boxes t more).boxes q.0 q.1 ≡ true) (λ i. (b.2 i, b.3 i)) now
    boxed p is false e = fill.boxed p (in_lacks t p (record { to = was_clean p.0 is.to; of = was_clean p.1 is.of; planned = is.planned; unboxed = e }))

    none : (p : KeyId × KeyId) → IsLacking (with_boxes t more) p → ⊥
    none p is = false≢true (sym is.unboxed ∙ boxed p is (has_box t.boxes p.0 p.1) refl)

module _ (t : Table) (all : LacksNothing t) where
  -- the keys of a scope
  current_of : (s : Scope) (k : KeyId) → IsIn k t.currents → k.scope ≡ s → is_live t s ≡ true → IsIn k (current_keys t)
  current_of s k j e live = in-flat (keys_of t) t.scopes s k (in-has-scope t.scopes s live) (in_filter (λ l. same_scope l.scope s) k t.currents j (subst (λ u. same_scope k.scope u ≡ true) e (scope-same k.scope)))

  of_current : (k : KeyId) → IsIn k (current_keys t) → IsIn k t.currents
  of_current k j = let r = of-flat (keys_of t) t.scopes k j in (of_filter (λ l. same_scope l.scope r.0) k t.currents r.2).0

  key_of : (s : Scope) → is_live t s ≡ true → (k : KeyId) × IsIn k (current_keys t) × (k.scope ≡ s)
  key_of s live = go (list_any (λ k. same_scope k.scope s) t.currents) refl
    where
      go : (b : Bool) → list_any (λ k. same_scope k.scope s) t.currents ≡ b → (k : KeyId) × IsIn k (current_keys t) × (k.scope ≡ s)
      go true e = let f = any_of (λ k. same_scope k.scope s) t.currents e in let is = scope-is f.0.scope s f.2 in (f.0, current_of s f.0 f.1 is live, is)
      go false e = absurd (false≢true (sym (all.keyed s live) ∙ ap not e))

  module _ (d : Name) where
    abbrev IsFound : KeyId → Type 0
    IsFound k = Reaches (box_arrows t.boxes) (keys_of t (Device d)) k

    abbrev AllFound : Scope → Type 0
    AllFound s = (k : KeyId) → IsIn k (current_keys t) → k.scope ≡ s → IsFound k

    -- where the keys of a scope are reached, so are those of each scope that it leads to by a planned arrow
    step : (from to : Scope) → t.allowed from to ≡ true → (is_role from && is_team to) ≡ false → AllFound from → AllFound to
    step from to leads planned found k j of_to =
        let live = (all.lawful.joins_live from to leads).0 in
        let key = key_of from live in
        boxed key.0 key.1 key.2 (has_box t.boxes key.0 k) refl
      where
        boxed : (l : KeyId) → IsIn l (current_keys t) → l.scope ≡ from → (r : Bool) → has_box t.boxes l k ≡ r → IsFound k
        boxed l m e true h =
            let b = box_held t.boxes l k h in
            subst IsFound b.3 (follows b.0.to b.0.of (arrow_of t.boxes b.0 b.1) (subst IsFound (sym b.2) (found l m e)))
        boxed l m e false h =
            absurd (no_member (lacks t) (l, k) all.boxed (in_lacks t (l, k) (record {
              to = parts_clean t l m (all.clean l m);
              of = parts_clean t k j (all.clean k j);
              planned = (λ i. t.allowed (e i) (of_to i) && not (is_role (e i) && is_team (of_to i))) ∙ (λ i. leads i && not (planned i));
              unboxed = h;
            })))

    -- a scope that is met is the device's own, or the keys of the team are reached
    pub record IsServed (s : Scope) : Type 0 where
      pub found : AllFound s
      pub team : (s ≡ Device d) ⊎ (is_live t Team ≡ true → AllFound Team)

    after_device : (to : Scope) → t.allowed (Device d) to ≡ true → AllFound to → is_live t Team ≡ true → AllFound Team
    after_device Team leads found live = found
    after_device (Role r) leads found live = absurd (false≢true (all.lawful.leads (Device d) (Role r) leads))
    after_device (User u) leads found live = step (User u) Team (all.to_team u (all.lawful.joins_live (Device d) (User u) leads).1 live) refl found
    after_device (Device e) leads found live = absurd (false≢true (all.lawful.leads (Device d) (Device e) leads))

    further : (from to : Scope) → t.allowed from to ≡ true → IsServed from → IsServed to
    further from to leads served = record { found = found; team = team served.team }
      where
        by_team : (from ≡ Device d) ⊎ (is_live t Team ≡ true → AllFound Team) → is_role from ≡ true → is_team to ≡ true → AllFound to
        by_team (inl e) role team = absurd (false≢true (ap is_role (sym e) ∙ role))
        by_team (inr f) role team = subst AllFound (team_is to team) (f (subst (λ s. is_live t s ≡ true) (sym (team_is to team)) (all.lawful.joins_live from to leads).1))
          where
            team_is : (s : Scope) → is_team s ≡ true → Team ≡ s
            team_is Team e = refl
            team_is (Role r) e = absurd (false≢true e)
            team_is (User u) e = absurd (false≢true e)
            team_is (Device x) e = absurd (false≢true e)

        by_kind : (r : Bool) → (is_role from && is_team to) ≡ r → AllFound to
        by_kind true e = let both = both_true (is_role from) (is_team to) e in by_team served.team both.0 both.1
        by_kind false e = step from to leads e served.found

        found : AllFound to
        found = by_kind (is_role from && is_team to) refl

        team : (from ≡ Device d) ⊎ (is_live t Team ≡ true → AllFound Team) → (to ≡ Device d) ⊎ (is_live t Team ≡ true → AllFound Team)
        team (inl e) = inr (after_device to (subst (λ s. t.allowed s to ≡ true) e leads) found)
        team (inr f) = inr f

    served : (s : Scope) → IsMet t d s → IsServed s
    served _ (own live) = record { found = λ k j e. is_given k (in_filter (λ l. same_scope l.scope (Device d)) k t.currents (of_current k j) (subst (λ s. same_scope k.scope s ≡ true) e (scope-same k.scope))); team = inl refl }
    served _ (led from to leads met) = further from to leads (served from met)

    reaches_all : (k : KeyId) → IsIn k (current_keys t) → is_entitled t d k.scope ≡ true → has same_key (reach t.boxes (keys_of t (Device d))) k ≡ true
    reaches_all k j h =
        (closure-reaches same_key key-decides (box_arrows t.boxes) (keys_of t (Device d)) k).1
        ((served k.scope (((entitled-least t all.lawful d).met k.scope).0 h)).found k j refl)

  -- each of the three kinds of debts
  no_key_none : no_keys t ≡ []
  no_key_none = none_in (no_keys t) none
    where
      none : (x : Debt) → IsIn x (no_keys t) → ⊥
      none x k =
          let r = of-map (λ s. NoKey s) x (filter (is_without_key t) t.scopes) k in
          let f = of_filter (is_without_key t) r.0 t.scopes r.1 in
          false≢true (sym (all.keyed r.0 (live r.0 f.0)) ∙ f.1)
        where
          live : (s : Scope) → IsIn s t.scopes → is_live t s ≡ true
          live s j = any_in (same_scope s) t.scopes s j (scope-same s)

  tainted_none : tainted_of t (current_keys t) ≡ []
  tainted_none = none_in (tainted_of t (current_keys t)) none
    where
      none : (x : Debt) → IsIn x (tainted_of t (current_keys t)) → ⊥
      none x k =
          let r = of-map (λ l. Tainted l) x (filter (is_tainted t) (current_keys t)) k in
          let f = of_filter (is_tainted t) r.0 (current_keys t) r.1 in
          false≢true (sym (all.clean r.0 f.0) ∙ f.1)

  unreached_none : flat_map (unreached_of t (device_names t)) (current_keys t) ≡ []
  unreached_none = none_in (flat_map (unreached_of t (device_names t)) (current_keys t)) none
    where
      none : (x : Debt) → IsIn x (flat_map (unreached_of t (device_names t)) (current_keys t)) → ⊥
      none x k =
          let r = of-flat (unreached_of t (device_names t)) (current_keys t) x k in
          let s = of-map (λ d. Unreached r.0 d) x (filter (is_unreached t r.0) (device_names t)) r.2 in
          let f = of_filter (is_unreached t r.0) s.0 (device_names t) s.1 in
          let tests = both_true (is_entitled t s.0 r.0.scope) (not (has same_key (reach t.boxes (keys_of t (Device s.0))) r.0)) f.1 in
          false≢true (sym (not_true (has same_key (reach t.boxes (keys_of t (Device s.0))) r.0) tests.1) ∙ reaches_all s.0 r.0 r.1 tests.0)

  pub nothing_owed : debts t ≡ []
  nothing_owed = λ i. no_key_none i ++ (tainted_none i ++ unreached_none i)
