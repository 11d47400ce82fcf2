-- Settlement of a set of acts by rank. A is the acts; an act is senior where its rank is smaller.
use Rattle.std.specs.Prelude.{ℕ, zero, suc, Bool, not, ◌||◌, if◌then◌else◌, List, [], ◌∷◌, ◌++◌, length, filter, Option, Some, None, find}
use Rattle.std.specs.List.{list_any}
use Rattle.team_sets.specs.Names.{ascending}

-- what settlement decides of an act, with the act that decides it
pub data Decided (A : Type 0) : Type 0 where
  stands : Decided A
  struck : A → Decided A
  lost : A → Decided A

module _ {A : Type 0} (senior strikes : A → A → Bool) where
  -- whether one strikes the other
  abbrev pub conflicts : A → A → Bool
  conflicts x y = strikes x y || strikes y x

  -- the standing acts of a list in order of seniority: the first, with those of the rest without what it strikes and what strikes it
  abbrev pub settle : ℕ → List A → List A
  settle zero acts = []
  settle (suc n) [] = []
  settle (suc n) (x ∷ rest) = x ∷ settle n (filter (λ y. not (conflicts x y)) rest)

  -- the standing acts of a set, the most senior first
  abbrev pub standing : List A → List A
  standing acts = settle (length acts) (ascending senior acts)

  -- the act at whose turn y leaves, if it doesn't stand: the first standing act that has a strike with it
  abbrev pub decided_by : List A → A → Option A
  decided_by acts y = find (λ x. conflicts x y) (standing acts)

  abbrev pub decision : List A → A → Decided A
  decision acts y = decide (decided_by acts y)
    where
      decide : Option A → Decided A
      decide None = stands
      decide (Some x) = if strikes x y then struck x else lost x

  -- the same in one pass over the acts in order of seniority: an act stands where it has no strike with one that stands already
  abbrev pub stand_next : List A → A → List A
  stand_next stood x = if list_any (λ s. conflicts s x) stood then stood else stood ++ x ∷ []
