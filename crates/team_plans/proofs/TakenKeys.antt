-- Which keys are current once new ones are taken.
use Rattle.std.proofs.Common.{◌≡◌, Bool, true, false, not, ◌&&◌, cond, List, [], ◌∷◌, ◌++◌, map, filter, fold, refl, sym, ◌∙◌, ap, subst, inl, inr, ◌⊎◌}
use Rattle.std.specs.List.{AllByRecursion}
use Rattle.std.specs.Ordering.{is_lt}
use Rattle.std.proofs.lemmas.Bool.{false≢true}
use Rattle.team_sets.specs.Closure.{has}
use Rattle.team_sets.specs.Members.{IsIn}
use Rattle.team_sets.proofs.Decisions.{in_end, in_front}
use Rattle.team_sets.proofs.OrderLeast.{in_filter, of_filter}
use Rattle.team_sets.proofs.Sorted.{put_to}
use Rattle.tg_text.specs.Order.{scope_cmp}
use Rattle.tg_text.specs.declared.keys.KeyId.{KeyId}
use Rattle.tg_text.specs.declared.keys.Scope.{Scope}
use Rattle.acts.specs.declared.entry.Entry.{Entry}
use Rattle.key_reach.specs.Keys.{is_device, same_scope}
use Rattle.key_reach.proofs.Meeting.{in-has-scope, scope-decides, scope-is}
use Rattle.key_reach.proofs.Numbered.{of-map}
use Rattle.team_model.specs.KeyLines.{new_fits, take_new}
use Rattle.team_model.specs.KeyTables.{put_current}
use Rattle.team_model.specs.State.{State}
use Rattle.team_state.proofs.Listed.{all_put_in}
use Rattle.team_state.proofs.Placed.{all-filter}
use Rattle.team_state.proofs.Staying.{put_back}

-- a key of the scope stands in the list
abbrev pub HasKeyOf : Scope → List KeyId → Type 0
HasKeyOf c ks = (k : KeyId) × IsIn k ks × (k.scope ≡ c)

-- no key of the list is of the other's scope
abbrev pub NoneOf : List KeyId → KeyId → Type 0
NoneOf ks j = (k : KeyId) → IsIn k ks → k.scope ≡ j.scope → ⊥

abbrev pub put_all : List KeyId → List KeyId → List KeyId
put_all cs ks = fold (λ cs k. put_current k cs) cs ks

abbrev comes_before : KeyId → KeyId → Bool
comes_before a b = is_lt (scope_cmp a.scope b.scope)

abbrev is_other : KeyId → KeyId → Bool
is_other k c = not (same_scope c.scope k.scope)

put_there : (k : KeyId) (cs : List KeyId) → IsIn k (put_current k cs)
put_there k cs = put_back comes_before k k (filter (is_other k) cs) (inl refl)

put_other : (k j : KeyId) (cs : List KeyId) → IsIn j cs → same_scope j.scope k.scope ≡ false → IsIn j (put_current k cs)
put_other k j cs i other = put_back comes_before k j (filter (is_other k) cs) (inr (in_filter (is_other k) j cs i (ap not other)))

of_put : (k j : KeyId) (cs : List KeyId) → IsIn j (put_current k cs) → (k ≡ j) ⊎ (IsIn j cs × (is_other k j ≡ true))
of_put k j cs i = go (put_to comes_before k j (filter (is_other k) cs) i)
  where
    go : IsIn j (k ∷ filter (is_other k) cs) → (k ≡ j) ⊎ (IsIn j cs × (is_other k j ≡ true))
    go (inl e) = inl e
    go (inr m) = inr (of_filter (is_other k) j cs m)

put_keeps_scope : (c : Scope) (k : KeyId) (cs : List KeyId) → HasKeyOf c cs → HasKeyOf c (put_current k cs)
put_keeps_scope c k cs h = go (same_scope h.0.scope k.scope) refl
  where
    go : (b : Bool) → same_scope h.0.scope k.scope ≡ b → HasKeyOf c (put_current k cs)
    go true e = (k, put_there k cs, sym (scope-is h.0.scope k.scope e) ∙ h.2)
    go false e = (h.0, put_other k h.0 cs h.1 e, h.2)

pub all_keep_scope : (c : Scope) (ks cs : List KeyId) → HasKeyOf c cs → HasKeyOf c (put_all cs ks)
all_keep_scope c [] cs h = h
all_keep_scope c (k ∷ ks) cs h = all_keep_scope c ks (put_current k cs) (put_keeps_scope c k cs h)

pub all_have_scope : (ks cs : List KeyId) (k : KeyId) → IsIn k ks → HasKeyOf k.scope (put_all cs ks)
all_have_scope [] cs k i = absurd i
all_have_scope (x ∷ xs) cs k (inl e) = all_keep_scope k.scope xs (put_current x cs) (x, put_there x cs, ap (λ (y : KeyId). y.scope) e)
all_have_scope (x ∷ xs) cs k (inr i) = all_have_scope xs (put_current x cs) k i

apart_from : (x j y : KeyId) → is_other x j ≡ true → x ≡ y → y.scope ≡ j.scope → ⊥
apart_from x j y other is same = go (same_scope j.scope x.scope) refl other
  where
    go : (b : Bool) → same_scope j.scope x.scope ≡ b → not b ≡ true → ⊥
    go true e h = false≢true h
    go false e h = false≢true (sym e ∙ (scope-decides j.scope x.scope).1 (sym same ∙ ap (λ (k : KeyId). k.scope) (sym is)))

pub of_all : (ks cs : List KeyId) (j : KeyId) → IsIn j (put_all cs ks) → IsIn j ks ⊎ (IsIn j cs × NoneOf ks j)
of_all [] cs j i = inr (i, λ k m e. absurd m)
of_all (x ∷ xs) cs j i = go (of_all xs (put_current x cs) j i)
  where
    older : IsIn j cs × (is_other x j ≡ true) → NoneOf xs j → NoneOf (x ∷ xs) j
    older o none y (inl is) same = apart_from x j y o.1 is same
    older o none y (inr m) same = none y m same

    put : NoneOf xs j → (x ≡ j) ⊎ (IsIn j cs × (is_other x j ≡ true)) → IsIn j (x ∷ xs) ⊎ (IsIn j cs × NoneOf (x ∷ xs) j)
    put none (inl e) = inl (inl e)
    put none (inr o) = inr (o.0, older o none)

    go : IsIn j xs ⊎ (IsIn j (put_current x cs) × NoneOf xs j) → IsIn j (x ∷ xs) ⊎ (IsIn j cs × NoneOf (x ∷ xs) j)
    go (inl m) = inl (inr m)
    go (inr o) = put o.1 (of_put x j cs o.0)

pub all_others : (ks cs : List KeyId) → AllByRecursion (λ (k : KeyId). is_device k.scope ≡ false) ks → AllByRecursion (λ (k : KeyId). is_device k.scope ≡ false) cs
    → AllByRecursion (λ (k : KeyId). is_device k.scope ≡ false) (put_all cs ks)
all_others [] cs news olds = olds
all_others (k ∷ ks) cs news olds =
    all_others ks (put_current k cs) news.1
    (all_put_in (λ (k : KeyId). is_device k.scope ≡ false) comes_before k (filter (is_other k) cs) news.0 (all-filter (λ (k : KeyId). is_device k.scope ≡ false) (is_other k) cs olds))

module _ (t : State) (e : Entry) where
  abbrev is_new : List KeyId → KeyId → Bool
  is_new got k = not (has same_scope (map (λ g. g.scope) got) k.scope)

  grows : (c : Scope) (k : KeyId) (got : List KeyId) (b : Bool) → HasKeyOf c got → HasKeyOf c (cond b (got ++ k ∷ []) got)
  grows c k got true h = (h.0, in_front got (k ∷ []) h.0 h.1, h.2)
  grows c k got false h = h

  fold_grows : (c : Scope) (news got : List KeyId) → HasKeyOf c got → HasKeyOf c (fold (take_new t e) got news)
  fold_grows c [] got h = h
  fold_grows c (k ∷ ks) got h = fold_grows c ks (take_new t e got k) (grows c k got (new_fits t e k && is_new got k) h)

  takes : (got : List KeyId) (k : KeyId) → new_fits t e k ≡ true → HasKeyOf k.scope (take_new t e got k)
  takes got k fits = subst (λ b. HasKeyOf k.scope (cond (b && is_new got k) (got ++ k ∷ []) got)) (sym fits) (go (has same_scope (map (λ g. g.scope) got) k.scope) refl)
    where
      go : (b : Bool) → has same_scope (map (λ (g : KeyId). g.scope) got) k.scope ≡ b → HasKeyOf k.scope (cond (true && not b) (got ++ k ∷ []) got)
      go true h = of-map (λ (g : KeyId). g.scope) k.scope got (in-has-scope (map (λ (g : KeyId). g.scope) got) k.scope h)
      go false h = (k, in_end got k, refl)

  -- of each scope with a line that fits one is taken
  pub taken_of : (news got : List KeyId) (k : KeyId) → IsIn k news → new_fits t e k ≡ true → HasKeyOf k.scope (fold (take_new t e) got news)
  taken_of [] got k i fits = absurd i
  taken_of (x ∷ xs) got k (inl is) fits =
      fold_grows k.scope xs (take_new t e got x)
      (subst (λ (y : KeyId). HasKeyOf y.scope (take_new t e got x)) is (takes got x (subst (λ y. new_fits t e y ≡ true) (sym is) fits)))
  taken_of (x ∷ xs) got k (inr i) fits = taken_of xs (take_new t e got x) k i fits
