-- Settlement in one pass.
use Rattle.std.proofs.Common.{◌≡◌, ℕ, zero, suc, ◌+◌, Bool, true, false, not, ◌||◌, cond, List, [], ◌∷◌, ◌++◌, filter, fold, refl, sym, ◌∙◌, ap, append_assoc, append-nil, zero-add, length, ◌≤◌, arith, subst, inl, inr, ◌⊎◌}
use Rattle.std.specs.List.{list_any}
use Rattle.std.proofs.lemmas.Bool.{false≢true}
use Rattle.team_sets.specs.Names.{ascending, put_in}
use Rattle.team_sets.specs.Settlement.{conflicts, settle, standing, stand_next}
use Rattle.team_sets.specs.SettlementLaws.{NoStrikeAcross}
use Rattle.team_sets.specs.Members.{IsIn}
use Rattle.team_sets.proofs.Lists.{any_end, filter_end}
use Rattle.team_sets.proofs.Pasts.{in_more}

module _ {A : Type 0} (senior strikes : A → A → Bool) where
  free : List A → A → Bool
  free stood y = not (list_any (λ s. conflicts senior strikes s y) stood)

  shorter : (p : A → Bool) (xs : List A) → length (filter p xs) ≤ length xs
  shorter p [] = omega arith
  shorter p (x ∷ xs) = go (p x) (shorter p xs)
    where
      go : (b : Bool) → length (filter p xs) ≤ length xs → length (cond b (x ∷ filter p xs) (filter p xs)) ≤ suc (length xs)
      go true h = omega arith
      go false h = omega arith

  filter_free : (stood : List A) (x : A) (xs : List A)
      → filter (λ y. not (conflicts senior strikes x y)) (filter (free stood) xs) ≡ filter (free (stood ++ x ∷ [])) xs
  unfolding free
  filter_free stood x [] = refl
  filter_free stood x (y ∷ ys) =
      rw (any_end (λ s. conflicts senior strikes s y) stood x)
      (go (list_any (λ s. conflicts senior strikes s y) stood) (conflicts senior strikes x y) refl (filter_free stood x ys))
    where
      go : (a b : Bool) → conflicts senior strikes x y ≡ b → filter (λ z. not (conflicts senior strikes x z)) (filter (free stood) ys) ≡ filter (free (stood ++ x ∷ [])) ys
          → filter (λ z. not (conflicts senior strikes x z)) (cond (not a) (y ∷ filter (free stood) ys) (filter (free stood) ys))
          ≡ cond (not (a || conflicts senior strikes x y)) (y ∷ filter (free (stood ++ x ∷ [])) ys) (filter (free (stood ++ x ∷ [])) ys)
      go true b was h = h
      go false true was h = rw was h
      go false false was h = rw was (ap (λ l. y ∷ l) h)

  settle-none : (n : ℕ) → settle senior strikes n [] ≡ []
  settle-none zero = refl
  settle-none (suc n) = refl

  stand_all : (xs stood : List A) (n : ℕ) → length (filter (free stood) xs) ≤ n
      → fold (stand_next senior strikes) stood xs ≡ stood ++ settle senior strikes n (filter (free stood) xs)
  unfolding free
  stand_all [] stood n few = sym (ap (λ l. stood ++ l) (settle-none n) ∙ append-nil stood)
  stand_all (x ∷ xs) stood n few = go (list_any (λ s. conflicts senior strikes s x) stood) n few (stand_all xs stood) (stand_all xs (stood ++ x ∷ []))
    where
      go : (b : Bool) (n : ℕ) → length (cond (not b) (x ∷ filter (free stood) xs) (filter (free stood) xs)) ≤ n
          → ((n : ℕ) → length (filter (free stood) xs) ≤ n → fold (stand_next senior strikes) stood xs ≡ stood ++ settle senior strikes n (filter (free stood) xs))
          → ((n : ℕ) → length (filter (free (stood ++ x ∷ [])) xs) ≤ n → fold (stand_next senior strikes) (stood ++ x ∷ []) xs ≡ (stood ++ x ∷ []) ++ settle senior strikes n (filter (free (stood ++ x ∷ [])) xs))
          → fold (stand_next senior strikes) (cond b stood (stood ++ x ∷ [])) xs ≡ stood ++ settle senior strikes n (cond (not b) (x ∷ filter (free stood) xs) (filter (free stood) xs))
      go true n few same more = same n few
      go false zero few same more = absurd (omega arith)
      go false (suc n) few same more =
          rw (filter_free stood x xs)
          (more n (let e : length (filter (λ y. not (conflicts senior strikes x y)) (filter (free stood) xs)) ≡ length (filter (free (stood ++ x ∷ [])) xs) = ap length (filter_free stood x xs) in
          let f : length (filter (λ y. not (conflicts senior strikes x y)) (filter (free stood) xs)) ≤ length (filter (free stood) xs) = shorter (λ y. not (conflicts senior strikes x y)) (filter (free stood) xs) in omega arith)
          ∙ append_assoc stood (x ∷ []) (settle senior strikes n (filter (free (stood ++ x ∷ [])) xs)))

  filter_all : (xs : List A) → filter (free []) xs ≡ xs
  unfolding free
  filter_all [] = refl
  filter_all (x ∷ xs) = ap (λ l. x ∷ l) (filter_all xs)

  -- what stands of a list in order of seniority is what one pass over it leaves standing
  pub settle-pass : (ranked : List A) → settle senior strikes (length ranked) ranked ≡ fold (stand_next senior strikes) [] ranked
  settle-pass ranked = sym (stand_all ranked [] (length ranked) (rw filter_all (omega arith)) ∙ rw filter_all refl)

  length-put_in : (x : A) (xs : List A) → length (put_in senior x xs) ≡ suc (length xs)
  length-put_in x [] = refl
  length-put_in x (y ∷ ys) = go (senior x y) (length-put_in x ys)
    where
      go : (b : Bool) → length (put_in senior x ys) ≡ suc (length ys) → length (cond b (x ∷ y ∷ ys) (y ∷ put_in senior x ys)) ≡ suc (suc (length ys))
      go true h = refl
      go false h = ap suc h

  length-fold : (xs acc : List A) → length (fold (λ sorted x. put_in senior x sorted) acc xs) ≡ length acc + length xs
  length-fold [] acc = omega arith
  length-fold (x ∷ xs) acc = let h = length-fold xs (put_in senior x acc) in let k = length-put_in x acc in omega arith

  pub standing-pass : (acts : List A) → standing senior strikes acts ≡ fold (stand_next senior strikes) [] (ascending senior acts)
  standing-pass acts =
      let long : length acts ≡ length (ascending senior acts) = sym (length-fold acts [] ∙ zero-add (length acts)) in
      rw long (settle-pass (ascending senior acts))

  -- a part of a list, in which no act of the part has a strike with the others
  module _ (part : A → Bool) (acts : List A) (across : NoStrikeAcross senior strikes part acts) where
    -- an act of the part is met by the whole exactly where it is met by the part
    met_by_part : (x : A) → IsIn x acts → part x ≡ true → (stood : List A) → ((y : A) → IsIn y stood → IsIn y acts)
        → list_any (λ s. conflicts senior strikes s x) (filter part stood) ≡ list_any (λ s. conflicts senior strikes s x) stood
    met_by_part x here is [] of = refl
    met_by_part x here is (y ∷ ys) of = go (part y) refl (met_by_part x here is ys (λ z k. of z (inr k)))
      where
        go : (c : Bool) → part y ≡ c → list_any (λ s. conflicts senior strikes s x) (filter part ys) ≡ list_any (λ s. conflicts senior strikes s x) ys
            → list_any (λ s. conflicts senior strikes s x) (cond c (y ∷ filter part ys) (filter part ys)) ≡ (conflicts senior strikes y x || list_any (λ s. conflicts senior strikes s x) ys)
        go true e h = ap (λ b. conflicts senior strikes y x || b) h
        go false e h = rw (across y x (of y (inl refl)) here (λ q. false≢true (sym e ∙ q ∙ is))) h

    of_more : (x : A) → IsIn x acts → (stood : List A) → ((y : A) → IsIn y stood → IsIn y acts) → (y : A) → IsIn y (stood ++ x ∷ []) → IsIn y acts
    of_more x here stood of y k = go (in_more stood x y k)
      where
        go : IsIn y stood ⊎ (x ≡ y) → IsIn y acts
        go (inl j) = of y j
        go (inr e) = subst (λ z. IsIn z acts) e here

    pub pass_part : (xs stood : List A) → ((y : A) → IsIn y xs → IsIn y acts) → ((y : A) → IsIn y stood → IsIn y acts)
        → filter part (fold (stand_next senior strikes) stood xs) ≡ fold (stand_next senior strikes) (filter part stood) (filter part xs)
    pass_part [] stood in_acts of = refl
    pass_part (x ∷ xs) stood in_acts of =
        go (part x) refl (list_any (λ s. conflicts senior strikes s x) stood) refl (pass_part xs stood (λ y k. in_acts y (inr k)) of)
        (pass_part xs (stood ++ x ∷ []) (λ y k. in_acts y (inr k)) (of_more x here stood of))
      where
        here : IsIn x acts
        here = in_acts x (inl refl)

        go : (b : Bool) → part x ≡ b → (m : Bool) → list_any (λ s. conflicts senior strikes s x) stood ≡ m
            → filter part (fold (stand_next senior strikes) stood xs) ≡ fold (stand_next senior strikes) (filter part stood) (filter part xs)
            → filter part (fold (stand_next senior strikes) (stood ++ x ∷ []) xs) ≡ fold (stand_next senior strikes) (filter part (stood ++ x ∷ [])) (filter part xs)
            → filter part (fold (stand_next senior strikes) (cond m stood (stood ++ x ∷ [])) xs)
            ≡ fold (stand_next senior strikes) (filter part stood) (cond b (x ∷ filter part xs) (filter part xs))
        go true is true met same more =
            same ∙ sym (ap (λ m. fold (stand_next senior strikes) (cond m (filter part stood) (filter part stood ++ x ∷ [])) (filter part xs)) (met_by_part x here is stood of ∙ met))
        go true is false met same more =
            (subst (λ l. filter part (fold (stand_next senior strikes) (stood ++ x ∷ []) xs) ≡ fold (stand_next senior strikes) l (filter part xs)) (filter_end part stood x true is) more)
            ∙ sym (ap (λ m. fold (stand_next senior strikes) (cond m (filter part stood) (filter part stood ++ x ∷ [])) (filter part xs)) (met_by_part x here is stood of ∙ met))
        go false is true met same more = same
        go false is false met same more = subst (λ l. filter part (fold (stand_next senior strikes) (stood ++ x ∷ []) xs) ≡ fold (stand_next senior strikes) l (filter part xs)) (filter_end part stood x false is ∙ append-nil (filter part stood)) more

  -- what stands of a part that has no strike with the others is what stands of it in the whole
  pub pass-part : (part : A → Bool) (ranked : List A) → NoStrikeAcross senior strikes part ranked
      → filter part (fold (stand_next senior strikes) [] ranked) ≡ fold (stand_next senior strikes) [] (filter part ranked)
  pass-part part ranked across = pass_part part ranked across ranked [] (λ y k. k) (λ y k. absurd k)
