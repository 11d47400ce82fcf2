-- Settlement depends on the ranks of the acts and the strikes between them alone.
use Rattle.std.proofs.Common.{◌≡◌, ℕ, zero, suc, Bool, not, ◌||◌, cond, if◌then◌else◌, List, [], ◌∷◌, Option, Some, None, find, filter, fold, length, refl, ◌∙◌, ap, inl, inr}
use Rattle.std.specs.List.{list_any}
use Rattle.team_sets.specs.Members.{IsIn}
use Rattle.team_sets.specs.Names.{ascending, put_in}
use Rattle.team_sets.specs.Settlement.{conflicts, decided_by, decision, settle, standing, struck, lost}
use Rattle.team_sets.specs.SettlementLaws.{RankAlike, SettleAlike}
use Rattle.team_sets.proofs.Decisions.{find_of, standing-members}
use Rattle.team_sets.proofs.Lists.{any_alike, filter_alike}
use Rattle.team_sets.proofs.OrderLeast.{of_filter}
use Rattle.team_sets.proofs.Sorted.{ascending-members, put_to}

module _ {A : Type 0} where
  pub find_alike : (p q : A → Bool) (xs : List A) → ((x : A) → IsIn x xs → p x ≡ q x) → find p xs ≡ find q xs
  find_alike p q [] h = refl
  find_alike p q (x ∷ xs) h = rw (h x (inl refl)) (ap (λ o. cond (q x) (Some x) o) (find_alike p q xs (λ y k. h y (inr k))))

  put_alike : (before other : A → A → Bool) (x : A) (ys : List A) → ((y : A) → IsIn y ys → before x y ≡ other x y) → put_in before x ys ≡ put_in other x ys
  put_alike before other x [] h = refl
  put_alike before other x (y ∷ ys) h = rw (h y (inl refl)) (ap (λ l. cond (other x y) (x ∷ y ∷ ys) (y ∷ l)) (put_alike before other x ys (λ z k. h z (inr k))))

  sorted_alike : (before other : A → A → Bool) (acts : List A) → ((x y : A) → IsIn x acts → IsIn y acts → before x y ≡ other x y)
      → (xs kept : List A) → ((x : A) → IsIn x xs → IsIn x acts) → ((x : A) → IsIn x kept → IsIn x acts)
      → fold (λ sorted x. put_in before x sorted) kept xs ≡ fold (λ sorted x. put_in other x sorted) kept xs
  sorted_alike before other acts h [] kept of held = refl
  sorted_alike before other acts h (x ∷ xs) kept of held =
      sorted_alike before other acts h xs (put_in before x kept) (λ y k. of y (inr k)) (λ y k. go y (put_to before x y kept k))
      ∙ ap (λ l. fold (λ sorted x. put_in other x sorted) l xs) (put_alike before other x kept (λ y k. h x y (of x (inl refl)) (held y k)))
    where
      go : (y : A) → IsIn y (x ∷ kept) → IsIn y acts
      go y (inl e) = of y (inl e)
      go y (inr k) = held y k

module _ {A : Type 0} (senior strikes other_senior other_strikes : A → A → Bool) where
  conflicts_alike : (x y : A) → strikes x y ≡ other_strikes x y → strikes y x ≡ other_strikes y x → conflicts senior strikes x y ≡ conflicts other_senior other_strikes x y
  conflicts_alike x y e f = ap (λ b. b || strikes y x) e ∙ ap (λ b. other_strikes x y || b) f

  settle_alike : (acts : List A) → ((x y : A) → IsIn x acts → IsIn y acts → strikes x y ≡ other_strikes x y)
      → (n : ℕ) (xs : List A) → ((x : A) → IsIn x xs → IsIn x acts) → settle senior strikes n xs ≡ settle other_senior other_strikes n xs
  settle_alike acts h zero xs of = refl
  settle_alike acts h (suc n) [] of = refl
  settle_alike acts h (suc n) (x ∷ xs) of =
      ap (λ l. x ∷ l) (settle_alike acts h n (filter (λ y. not (conflicts senior strikes x y)) xs) (λ y k. of y (inr (of_filter (λ y. not (conflicts senior strikes x y)) y xs k).0))
      ∙ ap (λ l. settle other_senior other_strikes n l)
      (filter_alike (λ y. not (conflicts senior strikes x y)) (λ y. not (conflicts other_senior other_strikes x y)) xs
      (λ y k. ap (λ b. not b) (conflicts_alike x y (h x y (of x (inl refl)) (of y (inr k))) (h y x (of y (inr k)) (of x (inl refl)))))))

  module _ (acts : List A) (alike : RankAlike senior strikes other_senior other_strikes acts) where
    pub standing-alike : standing senior strikes acts ≡ standing other_senior other_strikes acts
    standing-alike =
        settle_alike acts alike.struck (length acts) (ascending senior acts) (ascending-members senior acts).forth
        ∙ ap (λ l. settle other_senior other_strikes (length acts) l) (sorted_alike senior other_senior acts alike.ranked acts [] (λ x k. k) (λ x k. absurd k))

    -- also of an act that isn't one of them, where their strikes with it are the same
    pub decision-alike : (x : A) → ((s : A) → IsIn s acts → (strikes s x ≡ other_strikes s x) × (strikes x s ≡ other_strikes x s)) → decision senior strikes acts x ≡ decision other_senior other_strikes acts x
    decision-alike x h = go (decided_by other_senior other_strikes acts x) refl
      where
        same : decided_by senior strikes acts x ≡ decided_by other_senior other_strikes acts x
        same =
            ap (λ l. find (λ s. conflicts senior strikes s x) l) standing-alike
            ∙ find_alike (λ s. conflicts senior strikes s x) (λ s. conflicts other_senior other_strikes s x) (standing other_senior other_strikes acts)
            (λ s k. let r = h s (standing-members other_senior other_strikes acts s k) in conflicts_alike s x r.0 r.1)

        go : (o : Option A) → decided_by other_senior other_strikes acts x ≡ o → decision senior strikes acts x ≡ decision other_senior other_strikes acts x
        go None e = rw (same, e) refl
        go (Some s) e =
            let here : IsIn s acts = standing-members other_senior other_strikes acts s (find_of (λ s. conflicts other_senior other_strikes s x) (standing other_senior other_strikes acts) s e).0 in
            rw (same, e) (ap (λ b. if b then struck s else lost s) (h s here).0)

    pub settle-alike : SettleAlike senior strikes other_senior other_strikes acts
    settle-alike = record {
      standing = standing-alike;
      decision = λ x k. decision-alike x (λ s j. (alike.struck s x j k, alike.struck x s k j));
    }
