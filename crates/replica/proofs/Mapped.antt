-- Settlement through a map that ranks the acts as they are ranked, and lets them strike as they do.
use Rattle.std.proofs.Common.{◌≡◌, ℕ, zero, suc, Bool, true, false, not, ◌||◌, cond, if◌then◌else◌, List, [], ◌∷◌, Option, Some, None, find, filter, fold, map, option_map, length, refl, ◌∙◌, ap, inl, inr}
use Rattle.std.proofs.lemmas.List.{length-map}
use Rattle.team_sets.specs.Members.{IsIn}
use Rattle.team_sets.specs.Names.{ascending, put_in}
use Rattle.team_sets.specs.Settlement.{Decided, conflicts, decided_by, decision, settle, standing, stands, struck, lost}
use Rattle.team_sets.proofs.Decisions.{find_of, standing-members}
use Rattle.team_sets.proofs.OrderLeast.{of_filter}
use Rattle.team_sets.proofs.Sorted.{ascending-members, put_to}

module _ {A B : Type 0} (f : A → B) where
  pub filter_mapped : (p : A → Bool) (q : B → Bool) (xs : List A) → ((x : A) → IsIn x xs → q (f x) ≡ p x) → filter q (map f xs) ≡ map f (filter p xs)
  filter_mapped p q [] h = refl
  filter_mapped p q (x ∷ xs) h = rw (h x (inl refl)) (go (p x) (filter_mapped p q xs (λ y k. h y (inr k))))
    where
      go : (b : Bool) → filter q (map f xs) ≡ map f (filter p xs) → cond b (f x ∷ filter q (map f xs)) (filter q (map f xs)) ≡ map f (cond b (x ∷ filter p xs) (filter p xs))
      go true e = ap (λ l. f x ∷ l) e
      go false e = e

  pub find_mapped : (p : A → Bool) (q : B → Bool) (xs : List A) → ((x : A) → IsIn x xs → q (f x) ≡ p x) → find q (map f xs) ≡ option_map f (find p xs)
  find_mapped p q [] h = refl
  find_mapped p q (x ∷ xs) h = rw (h x (inl refl)) (go (p x) (find_mapped p q xs (λ y k. h y (inr k))))
    where
      go : (b : Bool) → find q (map f xs) ≡ option_map f (find p xs) → cond b (Some (f x)) (find q (map f xs)) ≡ option_map f (cond b (Some x) (find p xs))
      go true e = refl
      go false e = e

  -- the same decision, by what f makes of the act that decides it
  abbrev pub map_decided : Decided A → Decided B
  map_decided stands = stands
  map_decided (struck x) = struck (f x)
  map_decided (lost x) = lost (f x)

  module _ (senior strikes : A → A → Bool) (other_senior other_strikes : B → B → Bool) where
    -- what f makes of the acts is ranked as they are, and strikes as they do
    pub record MapsAlike (acts : List A) : Type 0 where
      pub ranked : (x y : A) → IsIn x acts → IsIn y acts → other_senior (f x) (f y) ≡ senior x y
      pub struck : (x y : A) → IsIn x acts → IsIn y acts → other_strikes (f x) (f y) ≡ strikes x y

    put_mapped : (x : A) (ys : List A) → ((y : A) → IsIn y ys → other_senior (f x) (f y) ≡ senior x y) → put_in other_senior (f x) (map f ys) ≡ map f (put_in senior x ys)
    put_mapped x [] h = refl
    put_mapped x (y ∷ ys) h = rw (h y (inl refl)) (go (senior x y) (put_mapped x ys (λ z k. h z (inr k))))
      where
        go : (b : Bool) → put_in other_senior (f x) (map f ys) ≡ map f (put_in senior x ys)
            → cond b (f x ∷ f y ∷ map f ys) (f y ∷ put_in other_senior (f x) (map f ys)) ≡ map f (cond b (x ∷ y ∷ ys) (y ∷ put_in senior x ys))
        go true e = refl
        go false e = ap (λ l. f y ∷ l) e

    sorted_mapped : (acts : List A) → ((x y : A) → IsIn x acts → IsIn y acts → other_senior (f x) (f y) ≡ senior x y)
        → (xs kept : List A) → ((x : A) → IsIn x xs → IsIn x acts) → ((x : A) → IsIn x kept → IsIn x acts)
        → fold (λ sorted y. put_in other_senior y sorted) (map f kept) (map f xs) ≡ map f (fold (λ sorted x. put_in senior x sorted) kept xs)
    sorted_mapped acts h [] kept of held = refl
    sorted_mapped acts h (x ∷ xs) kept of held =
        ap (λ l. fold (λ sorted y. put_in other_senior y sorted) l (map f xs)) (put_mapped x kept (λ y k. h x y (of x (inl refl)) (held y k)))
        ∙ sorted_mapped acts h xs (put_in senior x kept) (λ y k. of y (inr k)) (λ y k. go y (put_to senior x y kept k))
      where
        go : (y : A) → IsIn y (x ∷ kept) → IsIn y acts
        go y (inl e) = of y (inl e)
        go y (inr k) = held y k

    meets : (x y : A) → other_strikes (f x) (f y) ≡ strikes x y → other_strikes (f y) (f x) ≡ strikes y x → conflicts other_senior other_strikes (f x) (f y) ≡ conflicts senior strikes x y
    meets x y e g = ap (λ b. b || other_strikes (f y) (f x)) e ∙ ap (λ b. strikes x y || b) g

    settle_mapped : (acts : List A) → ((x y : A) → IsIn x acts → IsIn y acts → other_strikes (f x) (f y) ≡ strikes x y)
        → (n : ℕ) (xs : List A) → ((x : A) → IsIn x xs → IsIn x acts) → settle other_senior other_strikes n (map f xs) ≡ map f (settle senior strikes n xs)
    settle_mapped acts h zero xs of = refl
    settle_mapped acts h (suc n) [] of = refl
    settle_mapped acts h (suc n) (x ∷ xs) of =
        ap (λ l. f x ∷ l)
        (ap (λ l. settle other_senior other_strikes n l)
        (filter_mapped (λ y. not (conflicts senior strikes x y)) (λ y. not (conflicts other_senior other_strikes (f x) y)) xs
        (λ y k. ap (λ b. not b) (meets x y (h x y (of x (inl refl)) (of y (inr k))) (h y x (of y (inr k)) (of x (inl refl))))))
        ∙ settle_mapped acts h n (filter (λ y. not (conflicts senior strikes x y)) xs) (λ y k. of y (inr (of_filter (λ y. not (conflicts senior strikes x y)) y xs k).0)))

    module _ (acts : List A) (alike : MapsAlike acts) where
      pub standing-mapped : standing other_senior other_strikes (map f acts) ≡ map f (standing senior strikes acts)
      standing-mapped =
          ap (λ n. settle other_senior other_strikes n (ascending other_senior (map f acts))) (length-map acts f)
          ∙ ap (λ l. settle other_senior other_strikes (length acts) l) (sorted_mapped acts alike.ranked acts [] (λ x k. k) (λ x k. absurd k))
          ∙ settle_mapped acts alike.struck (length acts) (ascending senior acts) (ascending-members senior acts).forth

      pub decision-mapped : (x : A) → IsIn x acts → decision other_senior other_strikes (map f acts) (f x) ≡ map_decided (decision senior strikes acts x)
      decision-mapped x k = go (decided_by senior strikes acts x) refl
        where
          same : decided_by other_senior other_strikes (map f acts) (f x) ≡ option_map f (decided_by senior strikes acts x)
          same =
              ap (λ l. find (λ s. conflicts other_senior other_strikes s (f x)) l) standing-mapped
              ∙ find_mapped (λ s. conflicts senior strikes s x) (λ s. conflicts other_senior other_strikes s (f x)) (standing senior strikes acts)
              (λ s j. let here = standing-members senior strikes acts s j in meets s x (alike.struck s x here k) (alike.struck x s k here))

          choose : (s : A) (b : Bool) → if b then struck (f s) else lost (f s) ≡ map_decided (if b then struck s else lost s)
          choose s true = refl
          choose s false = refl

          go : (o : Option A) → decided_by senior strikes acts x ≡ o → decision other_senior other_strikes (map f acts) (f x) ≡ map_decided (decision senior strikes acts x)
          go None e = rw (same, e) refl
          go (Some s) e =
              let here : IsIn s acts = standing-members senior strikes acts s (find_of (λ s. conflicts senior strikes s x) (standing senior strikes acts) s e).0 in
              rw (same, e) (ap (λ b. if b then struck (f s) else lost (f s)) (alike.struck s x here k) ∙ choose s (strikes s x))
