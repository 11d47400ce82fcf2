-- Least sets closed under arrows. An arrow is a pair of its tail and its head.
use Rattle.std.specs.Prelude.{ℕ, zero, suc, Bool, not, ◌&&◌, List, ◌++◌, map, length, filter}
use Rattle.std.specs.List.{list_any}
use Rattle.team_sets.specs.Members.{IsIn}

module _ {A : Type 0} (same : A → A → Bool) where
  abbrev pub has : List A → A → Bool
  has xs x = list_any (same x) xs

  -- an arrow whose tail is in the set and whose head isn't
  abbrev pub leads_out : List A → A × A → Bool
  leads_out got a = has got a.0 && not (has got a.1)

  -- the set with the heads of the arrows that lead out of it
  abbrev pub grow : List (A × A) → List A → List A
  grow arrows got = got ++ map (λ a. a.1) (filter (leads_out got) arrows)

  -- the same n times
  abbrev pub grown : ℕ → List (A × A) → List A → List A
  grown zero arrows got = got
  grown (suc n) arrows got = grown n arrows (grow arrows got)

  -- the least set that has these, and has the head of each arrow whose tail it has
  abbrev pub closure : List (A × A) → List A → List A
  closure arrows given = grown (length arrows) arrows given

-- the same as a relation: x is reached
pub data Reaches {A : Type 0} (arrows : List (A × A)) (given : List A) : A → Type 0 where
  is_given : (x : A) → IsIn x given → Reaches arrows given x
  follows : (x y : A) → IsIn (x, y) arrows → Reaches arrows given x → Reaches arrows given y
