-- What stands after settlement, and what is decided of each act.
use Rattle.std.proofs.Common.{◌≡◌, ◌≢◌, Bool, true, false, ◌||◌, cond, List, [], ◌∷◌, ◌++◌, Option, Some, None, find, fold, refl, sym, ◌∙◌, subst, inl, inr, ◌⊎◌}
use Rattle.std.specs.List.{list_any}
use Rattle.std.proofs.lemmas.Bool.{false≢true, or_parts}
use Rattle.team_sets.specs.Members.{IsIn}
use Rattle.team_sets.specs.Names.{ascending}
use Rattle.team_sets.specs.Settlement.{Decided, conflicts, decided_by, decision, stand_next, standing, stands, struck, lost}
use Rattle.team_sets.specs.SettlementLaws.{NoneStrikesItself, StandsAsDecided}
use Rattle.team_sets.proofs.Pasts.{any_of, in_more}
use Rattle.team_sets.proofs.Sorted.{ascending-members}
use Rattle.team_sets.proofs.Standing.{standing-pass}

module _ {A : Type 0} where
  pub find_of : (p : A → Bool) (xs : List A) (x : A) → find p xs ≡ Some x → IsIn x xs × (p x ≡ true)
  find_of p [] x e = absurd (let bad : ◌≡◌ {A = Option A} None (Some x) = e in cc)
  find_of p (y ∷ ys) x e = go (p y) refl e (find_of p ys x)
    where
      go : (b : Bool) → p y ≡ b → cond b (Some y) (find p ys) ≡ Some x → (find p ys ≡ Some x → IsIn x ys × (p x ≡ true)) → IsIn x (y ∷ ys) × (p x ≡ true)
      go true is same more = let e : y ≡ x = cc in (inl e, subst (λ z. p z ≡ true) e is)
      go false is same more = let r = more same in (inr r.0, r.1)

  pub find_none : (p : A → Bool) (xs : List A) → find p xs ≡ None → (x : A) → IsIn x xs → p x ≡ false
  find_none p [] e x k = absurd k
  find_none p (y ∷ ys) e x k = go (p y) refl e k (find_none p ys)
    where
      go : (b : Bool) → p y ≡ b → cond b (Some y) (find p ys) ≡ None → IsIn x (y ∷ ys) → (find p ys ≡ None → (x : A) → IsIn x ys → p x ≡ false) → p x ≡ false
      go true is bad k more = absurd (let wrong : ◌≡◌ {A = Option A} (Some y) None = bad in cc)
      go false is same (inl e) more = subst (λ z. p z ≡ false) e is
      go false is same (inr j) more = more same x j

  pub none_found : (p : A → Bool) (xs : List A) → ((x : A) → IsIn x xs → p x ≡ false) → find p xs ≡ None
  none_found p [] h = refl
  none_found p (x ∷ xs) h = rw (h x (inl refl)) (none_found p xs (λ y k. h y (inr k)))

  pub in_front : (xs ys : List A) (x : A) → IsIn x xs → IsIn x (xs ++ ys)
  in_front [] ys x k = absurd k
  in_front (z ∷ zs) ys x (inl e) = inl e
  in_front (z ∷ zs) ys x (inr k) = inr (in_front zs ys x k)

  pub in_end : (xs : List A) (x : A) → IsIn x (xs ++ x ∷ [])
  in_end [] x = inl refl
  in_end (z ∷ zs) x = inr (in_end zs x)

module _ {A : Type 0} (senior strikes : A → A → Bool) where
  conflicts-swap : (x y : A) → conflicts senior strikes x y ≡ conflicts senior strikes y x
  conflicts-swap x y = go (strikes x y) (strikes y x)
    where
      go : (a b : Bool) → (a || b) ≡ (b || a)
      go true true = refl
      go true false = refl
      go false true = refl
      go false false = refl

  -- each two of the list are one, or have no strike with each other
  AreApart : List A → Type 0
  AreApart stood = (x y : A) → IsIn x stood → IsIn y stood → (x ≡ y) ⊎ (conflicts senior strikes x y ≡ false)

  none_of : (p : A → Bool) (xs : List A) → list_any p xs ≡ false → (x : A) → IsIn x xs → p x ≡ false
  none_of p [] h x k = absurd k
  none_of p (y ∷ ys) h x (inl e) = subst (λ z. p z ≡ false) e (or_parts (p y) (list_any p ys) h).0
  none_of p (y ∷ ys) h x (inr k) = none_of p ys (or_parts (p y) (list_any p ys) h).1 x k

  apart_more : (stood : List A) (x : A) → AreApart stood → list_any (λ s. conflicts senior strikes s x) stood ≡ false → AreApart (stood ++ x ∷ [])
  unfolding AreApart
  apart_more stood x apart free y z k j = go (in_more stood x y k) (in_more stood x z j)
    where
      go : IsIn y stood ⊎ (x ≡ y) → IsIn z stood ⊎ (x ≡ z) → (y ≡ z) ⊎ (conflicts senior strikes y z ≡ false)
      go (inl h) (inl i) = apart y z h i
      go (inl h) (inr e) = inr (subst (λ w. conflicts senior strikes y w ≡ false) e (none_of (λ s. conflicts senior strikes s x) stood free y h))
      go (inr e) (inl i) = inr (conflicts-swap y z ∙ subst (λ w. conflicts senior strikes z w ≡ false) e (none_of (λ s. conflicts senior strikes s x) stood free z i))
      go (inr e) (inr f) = inl (sym e ∙ f)

  -- one pass keeps the acts apart
  pass_apart : (xs stood : List A) → AreApart stood → AreApart (fold (stand_next senior strikes) stood xs)
  pass_apart [] stood apart = apart
  pass_apart (x ∷ xs) stood apart = go (list_any (λ s. conflicts senior strikes s x) stood) refl (pass_apart xs)
    where
      go : (m : Bool) → list_any (λ s. conflicts senior strikes s x) stood ≡ m → ((stood : List A) → AreApart stood → AreApart (fold (stand_next senior strikes) stood xs))
          → AreApart (fold (stand_next senior strikes) (cond m stood (stood ++ x ∷ [])) xs)
      go true met more = more stood apart
      go false met more = more (stood ++ x ∷ []) (apart_more stood x apart met)

  -- what stood goes on to stand
  pass_keeps : (xs stood : List A) (x : A) → IsIn x stood → IsIn x (fold (stand_next senior strikes) stood xs)
  pass_keeps [] stood x k = k
  pass_keeps (y ∷ ys) stood x k = go (list_any (λ s. conflicts senior strikes s y) stood) (pass_keeps ys)
    where
      go : (m : Bool) → ((stood : List A) (x : A) → IsIn x stood → IsIn x (fold (stand_next senior strikes) stood ys)) → IsIn x (fold (stand_next senior strikes) (cond m stood (stood ++ y ∷ [])) ys)
      go true more = more stood x k
      go false more = more (stood ++ y ∷ []) x (in_front stood (y ∷ []) x k)

  -- an act of the list stands, or one that stands has a strike with it
  pass_decides : (xs stood : List A) (x : A) → IsIn x xs
      → IsIn x (fold (stand_next senior strikes) stood xs) ⊎ ((s : A) × IsIn s (fold (stand_next senior strikes) stood xs) × (conflicts senior strikes s x ≡ true))
  pass_decides [] stood x k = absurd k
  pass_decides (y ∷ ys) stood x (inl e) = go (list_any (λ s. conflicts senior strikes s y) stood) refl
    where
      go : (m : Bool) → list_any (λ s. conflicts senior strikes s y) stood ≡ m
          → IsIn x (fold (stand_next senior strikes) (cond m stood (stood ++ y ∷ [])) ys)
          ⊎ ((s : A) × IsIn s (fold (stand_next senior strikes) (cond m stood (stood ++ y ∷ [])) ys) × (conflicts senior strikes s x ≡ true))
      go true met =
          let r = any_of (λ s. conflicts senior strikes s y) stood met in
          inr (r.0, pass_keeps ys stood r.0 r.1, subst (λ z. conflicts senior strikes r.0 z ≡ true) e r.2)
      go false met = inl (pass_keeps ys (stood ++ y ∷ []) x (subst (λ z. IsIn z (stood ++ y ∷ [])) e (in_end stood y)))
  pass_decides (y ∷ ys) stood x (inr k) = pass_decides ys (stand_next senior strikes stood y) x k

  -- only what stood and what the list has
  pass_from : (xs stood : List A) (x : A) → IsIn x (fold (stand_next senior strikes) stood xs) → IsIn x stood ⊎ IsIn x xs
  pass_from [] stood x k = inl k
  pass_from (y ∷ ys) stood x k = go (list_any (λ s. conflicts senior strikes s y) stood) k (pass_from ys)
    where
      last : IsIn x stood ⊎ (y ≡ x) → IsIn x stood ⊎ IsIn x (y ∷ ys)
      last (inl h) = inl h
      last (inr e) = inr (inl e)

      after : IsIn x (stood ++ y ∷ []) ⊎ IsIn x ys → IsIn x stood ⊎ IsIn x (y ∷ ys)
      after (inl h) = last (in_more stood y x h)
      after (inr h) = inr (inr h)

      over : IsIn x stood ⊎ IsIn x ys → IsIn x stood ⊎ IsIn x (y ∷ ys)
      over (inl h) = inl h
      over (inr h) = inr (inr h)

      go : (m : Bool) → IsIn x (fold (stand_next senior strikes) (cond m stood (stood ++ y ∷ [])) ys)
          → ((stood : List A) (x : A) → IsIn x (fold (stand_next senior strikes) stood ys) → IsIn x stood ⊎ IsIn x ys) → IsIn x stood ⊎ IsIn x (y ∷ ys)
      go true k more = over (more stood x k)
      go false k more = after (more (stood ++ y ∷ []) x k)

  module _ (acts : List A) where
    pub standing-members : (x : A) → IsIn x (standing senior strikes acts) → IsIn x acts
    standing-members x k = go (pass_from (ascending senior acts) [] x (subst (λ l. IsIn x l) (standing-pass senior strikes acts) k))
      where
        go : IsIn x [] ⊎ IsIn x (ascending senior acts) → IsIn x acts
        go (inl h) = absurd h
        go (inr h) = (ascending-members senior acts).forth x h

    one_or_apart : (x y : A) → IsIn x (standing senior strikes acts) → IsIn y (standing senior strikes acts) → (x ≡ y) ⊎ (conflicts senior strikes x y ≡ false)
    unfolding AreApart
    one_or_apart x y k j =
        pass_apart (ascending senior acts) [] (λ a b h i. absurd h) x y
        (subst (λ l. IsIn x l) (standing-pass senior strikes acts) k) (subst (λ l. IsIn y l) (standing-pass senior strikes acts) j)

    standing-apart : (x y : A) → IsIn x (standing senior strikes acts) → IsIn y (standing senior strikes acts) → x ≢ y → conflicts senior strikes x y ≡ false
    standing-apart x y k j other = go (one_or_apart x y k j)
      where
        go : (x ≡ y) ⊎ (conflicts senior strikes x y ≡ false) → conflicts senior strikes x y ≡ false
        go (inl e) = absurd (other e)
        go (inr h) = h

    is_decided : (x : A) → decision senior strikes acts x ≡ stands → decided_by senior strikes acts x ≡ None
    is_decided x h = go (decided_by senior strikes acts x) refl
      where
        wrong : (s : A) (b : Bool) → ◌≡◌ {A = Decided A} (cond b (struck s) (lost s)) stands → ⊥
        wrong s true e = cc
        wrong s false e = cc

        go : (o : Option A) → decided_by senior strikes acts x ≡ o → o ≡ None
        go None e = refl
        go (Some s) e = absurd (wrong s (strikes s x) (rw e at h))

    unmet : (x s : A) → decision senior strikes acts x ≡ stands → IsIn s (standing senior strikes acts) → conflicts senior strikes s x ≡ false
    unmet x s h k = find_none (λ s. conflicts senior strikes s x) (standing senior strikes acts) (is_decided x h) s k

    stays : (x : A) → IsIn x acts → decision senior strikes acts x ≡ stands → IsIn x (standing senior strikes acts)
    stays x k h = go (pass_decides (ascending senior acts) [] x ((ascending-members senior acts).back x k))
      where
        passed : List A
        passed = fold (stand_next senior strikes) [] (ascending senior acts)

        go : IsIn x (fold (stand_next senior strikes) [] (ascending senior acts))
            ⊎ ((s : A) × IsIn s (fold (stand_next senior strikes) [] (ascending senior acts)) × (conflicts senior strikes s x ≡ true)) → IsIn x (standing senior strikes acts)
        go (inl j) = subst (λ l. IsIn x l) (sym (standing-pass senior strikes acts)) j
        go (inr s) = absurd (false≢true (sym (unmet x s.0 h (subst (λ l. IsIn s.0 l) (sym (standing-pass senior strikes acts)) s.1)) ∙ s.2))

    decides : NoneStrikesItself senior strikes acts → (x : A) → IsIn x (standing senior strikes acts) → decision senior strikes acts x ≡ stands
    decides own x k = let none : decided_by senior strikes acts x ≡ None = none_found (λ s. conflicts senior strikes s x) (standing senior strikes acts) each in rw none refl
      where
        each : (s : A) → IsIn s (standing senior strikes acts) → conflicts senior strikes s x ≡ false
        each s j = go (one_or_apart s x j k)
          where
            go : (s ≡ x) ⊎ (conflicts senior strikes s x ≡ false) → conflicts senior strikes s x ≡ false
            go (inl e) = subst (λ z. conflicts senior strikes z x ≡ false) (sym e) (own x (standing-members x k))
            go (inr h) = h

    pub stands_as_decided : StandsAsDecided senior strikes acts
    stands_as_decided = record {
      members = standing-members;
      apart = standing-apart;
      unmet = unmet;
      stays = stays;
      decided = λ own x k. (stays x k, decides own x);
    }
