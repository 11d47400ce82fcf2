-- An act stands unless a more senior one, which stands itself, takes it out.
use Rattle.std.specs.Prelude.{◌≡◌, ◌⊎◌, Bool, true, false, List}
use Rattle.team_sets.specs.Members.{IsIn}
use Rattle.team_sets.specs.Settlement.{conflicts, standing}
use Rattle.team_sets.specs.SortedLaws.{AreApart, IsStrict}

module _ {A : Type 0} (senior strikes : A → A → Bool) where
  -- s stands, is more senior than x, and one of the two strikes the other
  pub record TakesOut (acts : List A) (x s : A) : Type 0 where
    pub stands : IsIn s (standing senior strikes acts)
    pub outranks : senior s x ≡ true
    pub meets : conflicts senior strikes s x ≡ true

  -- no standing act that differs from x has a strike with it
  abbrev pub IsUnmet : List A → A → Type 0
  IsUnmet acts x = (s : A) → IsIn s (standing senior strikes acts) → (s ≡ x → ⊥) → conflicts senior strikes s x ≡ false

  -- where seniority tells the acts apart, each act stands and none that stands has a strike with it, or a more senior one takes it out
  abbrev pub StandsUnlessTakenOut : Type 0
  StandsUnlessTakenOut = IsStrict senior → (acts : List A) → AreApart senior acts → (x : A) → IsIn x acts
      → (IsIn x (standing senior strikes acts) × IsUnmet acts x) ⊎ ((s : A) × TakesOut acts x s)
