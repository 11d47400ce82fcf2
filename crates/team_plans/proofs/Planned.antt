-- What is planned fits.
use Rattle.std.proofs.Common.{◌≡◌, ℕ, Bool, true, false, not, ◌&&◌, ◌||◌, ◌==◌, cond, List, [], ◌∷◌, filter, length, zip, refl, sym, ◌∙◌, ap, subst, inl, inr, arith}
use Rattle.std.proofs.lemmas.Bool.{and_from, and_parts, eq-eqb, not-true}
use Rattle.team_sets.specs.Members.{IsIn}
use Rattle.team_sets.proofs.OrderLeast.{in_filter, of_filter}
use Rattle.acts.specs.declared.entry.Entry.{Entry}
use Rattle.tg_text.specs.declared.keys.KeyId.{KeyId}
use Rattle.tg_text.specs.declared.keys.Scope.{Scope}
use Rattle.key_reach.specs.Keys.{is_device, is_live}
use Rattle.key_reach.proofs.Currents.{has-in-scope}
use Rattle.key_reach.proofs.Meeting.{in-has-scope}
use Rattle.key_reach.proofs.Numbered.{in-map, of-map}
use Rattle.team_model.specs.KeyLines.{has_next, is_rotated, may_rekey, new_fits, next_generation, taken_news, wants_key}
use Rattle.team_model.specs.KeyTables.{key_table, live_scopes}
use Rattle.team_model.specs.State.{State, lists_device}
use Rattle.team_plans.specs.Plans.{is_planned, next_key, owes, plan_news, plan_scopes}
use Rattle.team_plans.proofs.TakenKeys.{HasKeyOf, taken_of}

module _ {A B : Type 0} where
  zip_left : (xs : List A) (ys : List B) (p : A × B) → IsIn p (zip xs ys) → IsIn p.0 xs
  zip_left [] ys p i = absurd i
  zip_left (x ∷ xs) [] p i = absurd i
  zip_left (x ∷ xs) (y ∷ ys) p (inl e) = inl (ap (λ (q : A × B). q.0) e)
  zip_left (x ∷ xs) (y ∷ ys) p (inr i) = inr (zip_left xs ys p i)

  zip_has : (xs : List A) (ys : List B) (x : A) → length ys ≡ length xs → IsIn x xs → (p : A × B) × IsIn p (zip xs ys) × (p.0 ≡ x)
  zip_has [] ys x each i = absurd i
  zip_has (z ∷ zs) [] x each i = absurd (omega (arith, each))
  zip_has (z ∷ zs) (y ∷ ys) x each (inl e) = ((z, y), inl refl, e)
  zip_has (z ∷ zs) (y ∷ ys) x each (inr i) = let r = zip_has zs ys x (omega (arith, each)) i in (r.0, inr r.1, r.2)

turned : (a b c : Bool) → (a || (b && c)) ≡ true → (b || a) ≡ true
turned true true c h = refl
turned true false c h = refl
turned false true c h = refl
turned false false c h = h

module _ (s t : State) (e : Entry) where
  -- the tests of a planned scope
  pub record IsWanted (c : Scope) : Type 0 where
    pub live : is_live (key_table t) c ≡ true
    pub other : is_device c ≡ false
    pub rekeys : may_rekey t e c ≡ true
    pub next : has_next t c ≡ true
    pub wanted : (is_rotated e.act c || (wants_key t c && not (owes s c))) ≡ true

  pub wanted_is : (c : Scope) → IsWanted c → is_planned s t e c ≡ true
  wanted_is c w =
      and_from (not (is_device c)) (may_rekey t e c && (has_next t c && (is_rotated e.act c || (wants_key t c && not (owes s c))))) (ap not w.other)
      (and_from (may_rekey t e c) (has_next t c && (is_rotated e.act c || (wants_key t c && not (owes s c)))) w.rekeys
      (and_from (has_next t c) (is_rotated e.act c || (wants_key t c && not (owes s c))) w.next w.wanted))

  pub is_wanted : (c : Scope) → IsIn c (live_scopes t) → is_planned s t e c ≡ true → IsWanted c
  is_wanted c i h =
      let one = and_parts (not (is_device c)) (may_rekey t e c && (has_next t c && (is_rotated e.act c || (wants_key t c && not (owes s c))))) h in
      let two = and_parts (may_rekey t e c) (has_next t c && (is_rotated e.act c || (wants_key t c && not (owes s c)))) one.1 in
      let three = and_parts (has_next t c) (is_rotated e.act c || (wants_key t c && not (owes s c))) two.1 in
      record { live = has-in-scope (live_scopes t) c i; other = not-true (is_device c) one.0; rekeys = two.0; next = three.0; wanted = three.1 }

  module _ (listed : lists_device t e.user e.device ≡ true) where
    pub scopes_are : plan_scopes s t e ≡ filter (is_planned s t e) (live_scopes t)
    scopes_are = ap (λ b. cond b (filter (is_planned s t e) (live_scopes t)) []) listed

    pub in_scopes : (c : Scope) → IsWanted c → IsIn c (plan_scopes s t e)
    in_scopes c w =
        subst (λ l. IsIn c l) (sym scopes_are) (in_filter (is_planned s t e) c (live_scopes t) (in-has-scope (live_scopes t) c w.live) (wanted_is c w))

    pub of_scopes : (c : Scope) → IsIn c (plan_scopes s t e) → IsWanted c
    of_scopes c i = let f = of_filter (is_planned s t e) c (live_scopes t) (subst (λ l. IsIn c l) scopes_are i) in is_wanted c f.0 f.1

    -- the next key of a planned scope fits
    pub next_fits : (p : Scope × List ℕ) → IsWanted p.0 → new_fits t e (next_key t p) ≡ true
    next_fits p w =
        and_from (is_live (key_table t) p.0)
        (not (is_device p.0) && ((next_generation t p.0 == next_generation t p.0) && (has_next t p.0 && (may_rekey t e p.0 && (wants_key t p.0 || is_rotated e.act p.0))))) w.live
        (and_from (not (is_device p.0)) ((next_generation t p.0 == next_generation t p.0) && (has_next t p.0 && (may_rekey t e p.0 && (wants_key t p.0 || is_rotated e.act p.0)))) (ap not w.other)
        (and_from (next_generation t p.0 == next_generation t p.0) (has_next t p.0 && (may_rekey t e p.0 && (wants_key t p.0 || is_rotated e.act p.0)))
        (eq-eqb (next_generation t p.0) (next_generation t p.0) refl)
        (and_from (has_next t p.0) (may_rekey t e p.0 && (wants_key t p.0 || is_rotated e.act p.0)) w.next
        (and_from (may_rekey t e p.0) (wants_key t p.0 || is_rotated e.act p.0) w.rekeys (turned (is_rotated e.act p.0) (wants_key t p.0) (not (owes s p.0)) w.wanted)))))

    pub news_fit : (publics : List (List ℕ)) (k : KeyId) → IsIn k (plan_news s t e publics) → new_fits t e k ≡ true
    news_fit publics k i =
        let r = of-map (next_key t) k (zip (plan_scopes s t e) publics) i in
        subst (λ j. new_fits t e j ≡ true) r.2 (next_fits r.0 (of_scopes r.0.0 (zip_left (plan_scopes s t e) publics r.0 r.1)))

    -- so a planned scope gets a key
    pub scope_taken : (publics : List (List ℕ)) → length publics ≡ length (plan_scopes s t e) → (c : Scope) → IsWanted c → HasKeyOf c (taken_news t e (plan_news s t e publics))
    scope_taken publics each c w =
        let p = zip_has (plan_scopes s t e) publics c each (in_scopes c w) in
        let there = in-map (next_key t) p.0 (zip (plan_scopes s t e) publics) p.1 in
        let got = taken_of t e (plan_news s t e publics) [] (next_key t p.0) there (news_fit publics (next_key t p.0) there) in
        (got.0, got.1, got.2 ∙ p.2)
