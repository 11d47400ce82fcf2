-- An ancestor is lower than the links that come after it.
use Rattle.std.proofs.Common.{◌≡◌, ◌⊎◌, ℕ, zero, suc, ◌+◌, ◌<◌, ◌≤◌, max, true, List, fold, refl, subst, inl, inr, length, arith}
use Rattle.std.specs.List.{list_any}
use Rattle.std.proofs.lemmas.Bool.{false≢true, or_cases}
use Rattle.team_sets.specs.Names.{Name, has_name}
use Rattle.team_sets.specs.Members.{IsIn}
use Rattle.team_sets.specs.Order.{names, order}
use Rattle.team_sets.specs.OrderLaws.{NamesDiffer}
use Rattle.team_sets.specs.Ancestry.{height, is_before, is_before_within, named}
use Rattle.team_sets.proofs.Heights.{has_height}
use Rattle.team_sets.proofs.OrderLeast.{in_filter, of_filter}
use Rattle.team_sets.proofs.Pasts.{any_of, one_named, reached_connected}
use Rattle.team_sets.proofs.SameSet.{most, most_over}
use Rattle.team_sets.proofs.Ancestors.{in_links}

module _ {A : Type 0} (name : A → Name) (prev : A → List Name) (links : List A) (differ : NamesDiffer name links) where
  -- a parent is
  parent_lower : (x p : A) → IsIn x (order name prev links) → IsIn p (named name prev links (prev x)) → height name prev links p < height name prev links x
  unfolding most
  parent_lower x p k j =
      let over : height name prev links p + 1 ≤ fold (λ h q. max h (height name prev links q + 1)) 0 (named name prev links (prev x)) =
      most_over (height name prev links) 0 (named name prev links (prev x)) p j in
      let is : height name prev links x ≡ fold (λ h q. max h (height name prev links q + 1)) 0 (named name prev links (prev x)) = (has_height name prev links differ x k).parents in
      omega (arith, over, is)

  -- a link with the name of a connected one is connected
  pub connected : (y : A) → IsIn y links → has_name (names name (order name prev links)) (name y) ≡ true → IsIn y (order name prev links)
  connected y k h =
      let z = one_named name (order name prev links) (name y) h in
      subst (λ w. IsIn w (order name prev links)) (differ z.0 y (in_links name prev links differ z.0 z.1) k z.2) z.1

  lower_within : (n : ℕ) (x y : A) → IsIn x (order name prev links) → IsIn y links → is_before_within name prev n links (name y) x ≡ true
      → height name prev links y < height name prev links x
  lower_within zero x y k j h = absurd (false≢true h)
  lower_within (suc n) x y k j h =
      go (or_cases (has_name (prev x) (name y)) (list_any (is_before_within name prev n links (name y)) (named name prev links (prev x))) h) (λ p i g. lower_within n p y i j g)
    where
      go : (has_name (prev x) (name y) ≡ true) ⊎ (list_any (is_before_within name prev n links (name y)) (named name prev links (prev x)) ≡ true)
          → ((p : A) → IsIn p (order name prev links) → is_before_within name prev n links (name y) p ≡ true → height name prev links y < height name prev links p)
          → height name prev links y < height name prev links x
      go (inl d) more = parent_lower x y k (in_filter (λ w. has_name (prev x) (name w)) y links j d)
      go (inr d) more =
          let p = any_of (is_before_within name prev n links (name y)) (named name prev links (prev x)) d in
          let of = of_filter (λ w. has_name (prev x) (name w)) p.0 links p.1 in
          let here : IsIn p.0 (order name prev links) = connected p.0 of.0 (reached_connected name prev links differ x k 1 (name p.0) (one_step (name p.0) of.1)) in
          let less : height name prev links y < height name prev links p.0 = more p.0 here p.2 in
          let up : height name prev links p.0 < height name prev links x = parent_lower x p.0 k p.1 in
          omega (arith, less, up)
        where
          one_step : (a : Name) → has_name (prev x) a ≡ true → is_before_within name prev 1 links a x ≡ true
          one_step a e = rw e refl

  pub lower : (x y : A) → IsIn x (order name prev links) → IsIn y links → is_before name prev links (name y) x ≡ true → height name prev links y < height name prev links x
  lower x y k j h = lower_within (length links) x y k j h
