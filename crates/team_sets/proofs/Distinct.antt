-- Where no name stands twice, links with one name are one link.
use Rattle.std.proofs.Common.{◌≡◌, false, List, [], ◌∷◌, sym, ◌∙◌, ap, inl, inr}
use Rattle.std.specs.List.{AllByRecursion, IsDistinct}
use Rattle.std.specs.Cmp.Lexicographic.{nat_list_eq_equiv}
use Rattle.std.proofs.lemmas.Bool.{false≢true}
use Rattle.team_sets.specs.Names.{Name, same_name}
use Rattle.team_sets.specs.Members.{IsIn}
use Rattle.team_sets.specs.Order.{names}
use Rattle.team_sets.specs.OrderLaws.{NamesDiffer}

module _ {A : Type 0} (name : A → Name) where
  pub apart : (n : Name) (y : A) (xs : List A) → AllByRecursion (λ m. same_name n m ≡ false) (names name xs) → IsIn y xs → same_name n (name y) ≡ false
  apart n y [] d h = absurd h
  apart n y (x ∷ xs) d (inl same) = ap (λ z. same_name n (name z)) (sym same) ∙ d.0
  apart n y (x ∷ xs) d (inr k) = apart n y xs d.1 k

  -- a name that is apart from those of the list isn't that of a link of it
  elsewhere : (x y : A) (xs : List A) → AllByRecursion (λ m. same_name (name x) m ≡ false) (names name xs) → IsIn y xs → name x ≡ name y → x ≡ y
  elsewhere x y xs d h e = absurd (false≢true (sym (apart (name x) y xs d h) ∙ ap (same_name (name x)) (sym e) ∙ nat_list_eq_equiv.refl (name x)))

  pub distinct-differ : (links : List A) → IsDistinct same_name (names name links) → NamesDiffer name links
  unfolding IsDistinct
  distinct-differ [] d x y h k e = absurd h
  distinct-differ (z ∷ zs) d x y (inl p) (inl q) e = sym p ∙ q
  distinct-differ (z ∷ zs) d x y (inl p) (inr k) e = sym p ∙ elsewhere z y zs d.0 k (ap name p ∙ e)
  distinct-differ (z ∷ zs) d x y (inr h) (inl q) e = sym (sym q ∙ elsewhere z x zs d.0 h (ap name q ∙ sym e))
  distinct-differ (z ∷ zs) d x y (inr h) (inr k) e = distinct-differ zs d.1 x y h k e
