-- Words of private functions: where the boxes to a key stand, and how the list of opened keys grows.
use Rattle.std.specs.Prelude.{◌≡◌, ℕ, suc, ◌⊎◌, Bool, List, [], ◌∷◌, ◌++◌, Option, Some, None, if◌then◌else◌, slice_get}
use Rattle.std.specs.Global.{Vec}
use Rattle.std.specs.HashMap.{HashMap, get}
use Rattle.std.specs.Option.{option_map_or}
use Rattle.team_sets.specs.Members.{IsIn}
use Rattle.tg_text.specs.declared.keys.BoxLine.{BoxLine}
use Rattle.lockboxes.specs.declared.opened.Opened.{Opened}
use Rattle.lockboxes.specs.Keeping.{Keeper}
use Rattle.lockboxes.specs.Opening.{content}

module _ {K : Type 0} (same : K → K → Bool) where
  -- the places that an index has for a value
  abbrev pub places_of : {S : Type 0} → HashMap K (Vec ℕ) S → K → List ℕ
  places_of lists k = option_map_or (λ v. v.items) (get same lists k) []

  -- the places of a value in a list, counted from i
  abbrev pub places_in : ℕ → List K → K → List ℕ
  places_in i [] k = []
  places_in i (x ∷ xs) k = if same x k then i ∷ places_in (suc i) xs k else places_in (suc i) xs k

-- a list has become longer, by some of these, and has all of them
pub record IsGrown {A : Type 0} (old new more : List A) : Type 0 where
  pub longer : (rest : List A) × (new ≡ old ++ rest)
  pub kept : (x : A) → IsIn x more → IsIn x new
  pub only : (x : A) → IsIn x new → IsIn x old ⊎ IsIn x more

module _ (keeper : Keeper) (secret : List ℕ) where
  abbrev pub contents_of : Option BoxLine → List Opened
  contents_of None = []
  contents_of (Some b) = option_map_or (λ o. o ∷ []) (content keeper secret b) []

  -- what a secret makes of the boxes at these places
  abbrev pub contents_at : List BoxLine → List ℕ → List Opened
  contents_at boxes [] = []
  contents_at boxes (i ∷ is) = contents_of (slice_get boxes i) ++ contents_at boxes is
