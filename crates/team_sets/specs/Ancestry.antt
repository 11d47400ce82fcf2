-- Ancestors, concurrency and height, over a set of links given by names and parents.
use Rattle.std.specs.Prelude.{ℕ, zero, suc, ◌+◌, max, Bool, false, not, ◌&&◌, ◌||◌, List, length, filter, fold}
use Rattle.std.specs.List.{list_any}
use Rattle.team_sets.specs.Names.{Name, same_name, has_name}

module _ {A : Type 0} (name : A → Name) (prev : A → List Name) where
  -- the links that have one of these names
  abbrev pub named : List A → List Name → List A
  named links ns = filter (λ x. has_name ns (name x)) links

  -- whether a is reached from x in at most n steps, each from a link to one of its parents
  abbrev pub is_before_within : ℕ → List A → Name → A → Bool
  is_before_within zero links a x = false
  is_before_within (suc n) links a x = has_name (prev x) a || list_any (is_before_within n links a) (named links (prev x))

  -- whether a is an ancestor of x: the transitive closure of the parent relation
  abbrev pub is_before : List A → Name → A → Bool
  is_before links a x = is_before_within (length links) links a x

  -- all ancestors of x
  abbrev pub past : List A → A → List A
  past links x = filter (λ y. is_before links (name y) x) links

  -- two different links, neither an ancestor of the other
  abbrev pub are_concurrent : List A → A → A → Bool
  are_concurrent links x y = not (same_name (name x) (name y)) && not (is_before links (name x) y) && not (is_before links (name y) x)

  -- 0 for a link without parents, and else one more than the greatest height of a parent
  abbrev pub height_within : ℕ → List A → A → ℕ
  height_within zero links x = 0
  height_within (suc n) links x = fold (λ h p. max h (height_within n links p + 1)) 0 (named links (prev x))

  abbrev pub height : List A → A → ℕ
  height links x = height_within (length links) links x
