-- Whom settlement names of an act that leaves: the first that stands and has a strike with it, and so a more senior one.
use Rattle.std.proofs.Common.{◌≡◌, ℕ, zero, suc, Bool, true, false, not, cond, List, [], ◌∷◌, Option, Some, None, filter, find, length, refl, sym, ◌∙◌, ap, subst, inl, inr, ◌⊎◌}
use Rattle.std.proofs.lemmas.Bool.{false≢true, not-true, or_cases, or_parts}
use Rattle.team_sets.specs.Members.{IsIn}
use Rattle.team_sets.specs.Names.{ascending}
use Rattle.team_sets.specs.Settlement.{conflicts, decided_by, decision, settle, stands, struck, lost}
use Rattle.team_sets.specs.SortedLaws.{AreApart, IsAscending, IsStrict}
use Rattle.team_sets.proofs.Decisions.{find_of}
use Rattle.team_sets.proofs.OrderLeast.{of_filter}
use Rattle.team_sets.proofs.Pasts.{all_at}
use Rattle.team_sets.proofs.Sorted.{ascending-ascends, ascending-members}

module _ {A : Type 0} (senior strike : A → A → Bool) where
  -- what stands of a list is of it
  settled-of : (n : ℕ) (ranked : List A) (s : A) → IsIn s (settle senior strike n ranked) → IsIn s ranked
  settled-of zero ranked s k = absurd k
  settled-of (suc n) [] s k = absurd k
  settled-of (suc n) (y ∷ rest) s (inl e) = inl e
  settled-of (suc n) (y ∷ rest) s (inr k) =
      inr (of_filter (λ z. not (conflicts senior strike y z)) s rest (settled-of n (filter (λ z. not (conflicts senior strike y z)) rest) s k)).0

  -- the act is in the list, and each that stands before it is more senior
  abbrev IsReached : A → List A → Type 0
  IsReached x [] = ⊥
  IsReached x (y ∷ ys) = (y ≡ x) ⊎ ((senior y x ≡ true) × IsReached x ys)

  ascending-reached : (xs : List A) → IsAscending senior xs → (x : A) → IsIn x xs → IsReached x xs
  ascending-reached [] up x k = absurd k
  ascending-reached (y ∷ ys) up x (inl e) = inl e
  ascending-reached (y ∷ ys) up x (inr k) = inr (all_at (λ z. senior y z ≡ true) ys up.0 x k, ascending-reached ys up.1 x k)

  filter-reached : (p : A → Bool) (x : A) → p x ≡ true → (xs : List A) → IsReached x xs → IsReached x (filter p xs)
  filter-reached p x is [] r = absurd r
  filter-reached p x is (y ∷ ys) r = go (p y) refl r (filter-reached p x is ys)
    where
      go : (b : Bool) → p y ≡ b → (y ≡ x) ⊎ ((senior y x ≡ true) × IsReached x ys) → (IsReached x ys → IsReached x (filter p ys)) → IsReached x (cond b (y ∷ filter p ys) (filter p ys))
      go true e (inl same) more = inl same
      go true e (inr r) more = inr (r.0, more r.1)
      go false e (inl same) more = absurd (false≢true (sym e ∙ subst (λ z. p z ≡ true) (sym same) is))
      go false e (inr r) more = more r.1

  first-senior : (n : ℕ) (ranked : List A) (x s : A) → conflicts senior strike x x ≡ false → IsReached x ranked
      → find (λ z. conflicts senior strike z x) (settle senior strike n ranked) ≡ Some s → senior s x ≡ true
  first-senior zero ranked x s own r f = absurd (let bad : ◌≡◌ {A = Option A} None (Some s) = f in cc)
  first-senior (suc n) [] x s own r f = absurd r
  first-senior (suc n) (y ∷ rest) x s own r f = go (conflicts senior strike y x) refl r f (first-senior n (filter (λ z. not (conflicts senior strike y z)) rest) x s own)
    where
      apart : (strike x s ≡ false) × (strike s x ≡ false) → (strike s x ≡ true) ⊎ (strike x s ≡ true) → ⊥
      apart h (inl k) = false≢true (sym h.1 ∙ k)
      apart h (inr k) = false≢true (sym h.0 ∙ k)

      go : (b : Bool) → conflicts senior strike y x ≡ b → (y ≡ x) ⊎ ((senior y x ≡ true) × IsReached x rest)
          → cond b (Some y) (find (λ z. conflicts senior strike z x) (settle senior strike n (filter (λ z. not (conflicts senior strike y z)) rest))) ≡ Some s
          → (IsReached x (filter (λ z. not (conflicts senior strike y z)) rest)
          → find (λ z. conflicts senior strike z x) (settle senior strike n (filter (λ z. not (conflicts senior strike y z)) rest)) ≡ Some s → senior s x ≡ true)
          → senior s x ≡ true
      go true e (inl same) f more = absurd (false≢true (sym own ∙ subst (λ z. conflicts senior strike z x ≡ true) same e))
      go true e (inr r) f more = let same : y ≡ s = cc in subst (λ z. senior z x ≡ true) same r.0
      go false e (inl same) f more =
          let met = find_of (λ z. conflicts senior strike z x) (settle senior strike n (filter (λ z. not (conflicts senior strike y z)) rest)) s f in
          let kept = (of_filter (λ z. not (conflicts senior strike y z)) s rest (settled-of n (filter (λ z. not (conflicts senior strike y z)) rest) s met.0)).1 in
          let free : conflicts senior strike x s ≡ false = subst (λ z. conflicts senior strike z s ≡ false) same (not-true (conflicts senior strike y s) kept) in
          absurd (apart (or_parts (strike x s) (strike s x) free) (or_cases (strike s x) (strike x s) met.1))
      go false e (inr r) f more = more (filter-reached (λ z. not (conflicts senior strike y z)) x (ap not e) rest r.1) f

  -- where seniority tells the acts apart, the one that decides of another is the more senior
  pub decider-senior : IsStrict senior → (acts : List A) → AreApart senior acts → (x s : A) → IsIn x acts → conflicts senior strike x x ≡ false
      → decided_by senior strike acts x ≡ Some s → senior s x ≡ true
  decider-senior strict acts apart x s k own f =
      first-senior (length acts) (ascending senior acts) x s own
      (ascending-reached (ascending senior acts) (ascending-ascends senior strict acts apart) x ((ascending-members senior acts).back x k)) f

  pub struck-by : (acts : List A) (x s : A) → decision senior strike acts x ≡ struck s → (decided_by senior strike acts x ≡ Some s) × (strike s x ≡ true)
  struck-by acts x s h = go (decided_by senior strike acts x) refl
    where
      either : (y : A) (b : Bool) → strike y x ≡ b → decided_by senior strike acts x ≡ Some y → (decided_by senior strike acts x ≡ Some s) × (strike s x ≡ true)
      either y true e f =
          let is : decision senior strike acts x ≡ struck y = rw (f, e) refl in
          let same : y ≡ s = cc in (f ∙ ap (λ z. Some z) same, subst (λ z. strike z x ≡ true) same e)
      either y false e f = let is : decision senior strike acts x ≡ lost y = rw (f, e) refl in absurd (cc)

      go : (o : Option A) → decided_by senior strike acts x ≡ o → (decided_by senior strike acts x ≡ Some s) × (strike s x ≡ true)
      go None f = let is : decision senior strike acts x ≡ stands = rw f refl in absurd (cc)
      go (Some y) f = either y (strike y x) refl f

  pub lost-to : (acts : List A) (x s : A) → decision senior strike acts x ≡ lost s → (decided_by senior strike acts x ≡ Some s) × (strike s x ≡ false)
  lost-to acts x s h = go (decided_by senior strike acts x) refl
    where
      either : (y : A) (b : Bool) → strike y x ≡ b → decided_by senior strike acts x ≡ Some y → (decided_by senior strike acts x ≡ Some s) × (strike s x ≡ false)
      either y false e f =
          let is : decision senior strike acts x ≡ lost y = rw (f, e) refl in
          let same : y ≡ s = cc in (f ∙ ap (λ z. Some z) same, subst (λ z. strike z x ≡ false) same e)
      either y true e f = let is : decision senior strike acts x ≡ struck y = rw (f, e) refl in absurd (cc)

      go : (o : Option A) → decided_by senior strike acts x ≡ o → (decided_by senior strike acts x ≡ Some s) × (strike s x ≡ false)
      go None f = let is : decision senior strike acts x ≡ stands = rw f refl in absurd (cc)
      go (Some y) f = either y (strike y x) refl f
