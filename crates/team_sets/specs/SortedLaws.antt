-- Lists that ascend: `ascending` gives the one list of these members that does.
use Rattle.std.specs.Prelude.{◌≡◌, ◌⊎◌, ⊤, Bool, true, false, List, [], ◌∷◌}
use Rattle.std.specs.List.{AllByRecursion}
use Rattle.team_sets.specs.Names.{Name, name_lt, ascending}
use Rattle.team_sets.specs.Members.{HaveSameMembers}
use Rattle.team_sets.specs.OrderLaws.{IsSet}

module _ {A : Type 0} (before : A → A → Bool) where
  -- a strict order, which need not tell all values apart
  pub record IsStrict : Type 0 where
    pub asymmetric : (x y : A) → before x y ≡ true → before y x ≡ false
    pub transitive : (x y z : A) → before x y ≡ true → before y z ≡ true → before x z ≡ true

  -- each is before all that follow it
  abbrev pub IsAscending : List A → Type 0
  IsAscending [] = ⊤
  IsAscending (x ∷ xs) = AllByRecursion (λ y. before x y ≡ true) xs × IsAscending xs

  -- of each two, one is before the other
  abbrev pub AreApart : List A → Type 0
  AreApart [] = ⊤
  AreApart (x ∷ xs) = AllByRecursion (λ y. (before x y ≡ true) ⊎ (before y x ≡ true)) xs × AreApart xs

  -- sorting gives a list that ascends and has the same members
  pub record IsSorting (xs : List A) : Type 0 where
    pub members : HaveSameMembers (ascending before xs) xs
    pub ascends : AreApart xs → IsAscending (ascending before xs)
    pub stays : IsAscending xs → ascending before xs ≡ xs

  abbrev pub AscendingSorts : Type 0
  AscendingSorts = IsStrict → (xs : List A) → IsSorting xs

  -- there is one such list
  abbrev pub AscendingIsOne : Type 0
  AscendingIsOne = IsStrict → (xs ys : List A) → IsAscending xs → IsAscending ys → HaveSameMembers xs ys → xs ≡ ys

  -- so the sorted list depends on the members alone
  abbrev pub AscendingIsOfSet : Type 0
  AscendingIsOfSet = IsStrict → (xs ys : List A) → AreApart xs → AreApart ys → HaveSameMembers xs ys → ascending before xs ≡ ascending before ys

module _ {A : Type 0} (name : A → Name) where
  abbrev pub by_names : A → A → Bool
  by_names a b = name_lt (name a) (name b)

  -- names are a strict order, and it tells the links of a set apart
  pub record NamesSort (links : List A) : Type 0 where
    pub strict : IsStrict by_names
    pub apart : IsSet name links → AreApart by_names links
    pub set : IsAscending by_names links → IsSet name links
