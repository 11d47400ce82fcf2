-- Places noted one by one: the least is kept.
use Rattle.std.proofs.Common.{◌≡◌, ℕ, Bool, true, false, cond, List, ◌∷◌, map, filter, Option, Some, None, refl, sym, ◌∙◌, ap, subst}
use Rattle.std.specs.Cmp.Lexicographic.{slice_cmp, texts_ties}
use Rattle.std.specs.Ordering.{is_eq, nat_cmp}
use Rattle.std.proofs.lemmas.Bool.{false≢true}
use Rattle.team_sets.specs.Names.{Name, same_name}
use Rattle.team_sets.specs.Places.{least_place, lesser_place, place_lt}
use Rattle.team_sets.proofs.Pasts.{same_name-is}
use Rattle.strikes.specs.Noted.{NotedIsLeast, is_smaller, least_of, noted, rank_of}
use Rattle.strikes.proofs.PlaceOrder.{not-both, same-place}

abbrev Ranks : Type 0
Ranks = List (Name × (ℕ × Name))

pub noted-least : NotedIsLeast
noted-least ranks notes is user p u = rw (is u) (go (same_name user u))
  where
    go : (b : Bool) → cond b (lesser_place p (least_of notes u)) (least_of notes u)
        ≡ least_place (map (λ n. n.1) (cond b ((user, p) ∷ filter (λ n. same_name n.0 u) notes) (filter (λ n. same_name n.0 u) notes)))
    go true = refl
    go false = refl

-- a place that isn't smaller than the user's
stays : (p : ℕ × Name) (o : Option (ℕ × Name)) → is_smaller p o ≡ false → o ≡ lesser_place p o
stays p None e = absurd (false≢true (sym e))
stays p (Some q) e = go (place_lt q p) refl
  where
    go : (b : Bool) → place_lt q p ≡ b → ◌≡◌ {A = Option (ℕ × Name)} (Some q) (cond b (Some q) (Some p))
    go true f = refl
    go false f = ap (λ (r : ℕ × Name). Some r) (sym (same-place p q e f))

-- and one that is
comes : (p : ℕ × Name) (o : Option (ℕ × Name)) → is_smaller p o ≡ true → Some p ≡ lesser_place p o
comes p None e = refl
comes p (Some q) e = rw (not-both p q e) refl

module _ (rows : Ranks) (user : Name) (p : ℕ × Name) where
  pub noted-same : is_smaller p (rank_of rows user) ≡ false → (u : Name) → rank_of rows u ≡ noted user p (rank_of rows) u
  noted-same keeps u = go (same_name user u) refl
    where
      go : (b : Bool) → same_name user u ≡ b → rank_of rows u ≡ cond b (lesser_place p (rank_of rows u)) (rank_of rows u)
      go true e = subst (λ (n : Name). rank_of rows n ≡ lesser_place p (rank_of rows n)) (same_name-is user u e) (stays p (rank_of rows user) keeps)
      go false e = refl

  pub noted-smaller : (new : Ranks) → is_smaller p (rank_of rows user) ≡ true → ((u : Name) → rank_of new u ≡ cond (is_eq (slice_cmp nat_cmp user u)) (Some p) (rank_of rows u))
      → (u : Name) → rank_of new u ≡ noted user p (rank_of rows) u
  noted-smaller new falls puts u = puts u ∙ ap (λ b. cond b (Some p) (rank_of rows u)) (sym (texts_ties user u)) ∙ go (same_name user u) refl
    where
      go : (b : Bool) → same_name user u ≡ b → cond b (Some p) (rank_of rows u) ≡ cond b (lesser_place p (rank_of rows u)) (rank_of rows u)
      go true e = subst (λ (n : Name). Some p ≡ lesser_place p (rank_of rows n)) (same_name-is user u e) (comes p (rank_of rows user) falls)
      go false e = refl
