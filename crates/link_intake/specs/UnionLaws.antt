-- Merging adds texts: a team's links become the union of theirs and the valid ones that are given, in whatever order these come.
use Rattle.std.specs.Prelude.{◌≡◌, ◌↔◌, ◌⊎◌, ◌≤◌, ℕ, List, [], ◌∷◌, length}
use Rattle.std.specs.List.{AllByRecursion}
use Rattle.tg_text.specs.Limits.{most_file_bytes, most_links}
use Rattle.team_sets.specs.Names.{Name}
use Rattle.team_sets.specs.Members.{IsIn}
use Rattle.team_sets.specs.OrderLaws.{IsSet}
use Rattle.team_model.specs.Judging.{name_of}
use Rattle.team_model.specs.declared.terms.Link.{Link}
use Rattle.link_text.specs.LinkText.{IsValid, text}
use Rattle.link_text.specs.TeamFile.{IsFileOf, IsHeld, file_text}
use Rattle.link_graph.specs.Held.{Held}
use Rattle.link_graph.specs.Taking.{HasText}
use Rattle.team_files.specs.Bundles.{IsBundle}
use Rattle.team_files.specs.declared.item.Item.{Item}
use Rattle.team_files.specs.declared.item.Item.TheVariants.{Text}
use Rattle.link_intake.specs.declared.item_result.ItemResult.{ItemResult}
use Rattle.link_intake.specs.Giving.{IsGiven}
use Rattle.link_intake.specs.Merged.{IsMerged}

-- the text is that of a link that is valid for the team
abbrev pub IsValidText : Name → List ℕ → Type 0
IsValidText team b = (l : Link) × IsValid team b l

-- the text is that of an item
abbrev pub HasItem : List Item → List ℕ → Type 0
HasItem items b = IsIn (Text b) items

-- what follows is over a held set, and the texts that are given to it
module _ (old : Held) (Given : List ℕ → Type 0) where
  -- the text is held already, or given
  abbrev pub IsAmong : List ℕ → Type 0
  IsAmong b = HasText old.links b ⊎ Given b

  -- no two valid texts among these that differ have links of one name
  abbrev pub NoClash : Type 0
  NoClash = (a b : List ℕ) (k l : Link) → IsAmong a → IsAmong b → IsValid old.team a k → IsValid old.team b l → k.name ≡ l.name → a ≡ b

  -- every set of valid links whose texts are all among these is within the limits of a team
  abbrev pub Fits : Type 0
  Fits = (links : List Link) → IsSet name_of links → AllByRecursion (λ l. IsValid old.team (text l) l × IsAmong (text l)) links
      → (length links ≤ most_links) × (length (file_text old.team links) ≤ most_file_bytes)

  -- the new set has the texts of the old one, and those given that are valid for the team, and no others
  pub record IsUnion (new : Held) : Type 0 where
    pub team : new.team ≡ old.team
    pub texts : (b : List ℕ) → HasText new.links b ↔ (HasText old.links b ⊎ (Given b × IsValidText old.team b))
    pub held : IsHeld new.team new.links

-- items that are given to a held set, where no names clash and all fits, make it the union
abbrev pub MergeIsUnion : Type 0
MergeIsUnion = (old new : Held) (items : List Item) (results : List ItemResult) → IsHeld old.team old.links → NoClash old (HasItem items) → Fits old (HasItem items)
    → IsGiven old items new results → IsUnion old (HasItem items) new

-- bundles were merged into a file one behind the other, and these are its bytes at the end
abbrev pub AreMerged : List ℕ → List (List ℕ) → List ℕ → Type 0
AreMerged bytes [] last = last ≡ bytes
AreMerged bytes (bundle ∷ bundles) last = (new : Held) × (results : List ItemResult) × IsMerged bytes bundle new results × AreMerged (file_text new.team new.links) bundles last

-- the text is that of an item of a bundle
abbrev pub IsTextOf : List ℕ → List ℕ → Type 0
IsTextOf bundle b = (items : List Item) × IsBundle bundle items × HasItem items b

-- the text is that of an item of one of the bundles
abbrev pub IsTextIn : List (List ℕ) → List ℕ → Type 0
IsTextIn bundles b = (bundle : List ℕ) × IsIn bundle bundles × IsTextOf bundle b

-- Two files of one team end as the same bytes where the same valid texts were given to them, those that they held before included: whatever
-- bundles were merged into each, in whatever order and number these came, and whatever else stood in them. `old` and `second` are what the
-- files held before
abbrev pub MergesInAnyOrder : Type 0
MergesInAnyOrder = (bytes start last other : List ℕ) (old second : Held) (bundles others : List (List ℕ)) → IsFileOf bytes old.team old.links
    → IsFileOf start second.team second.links → second.team ≡ old.team → NoClash old (IsTextIn bundles) → Fits old (IsTextIn bundles)
    → ((b : List ℕ) → IsValidText old.team b → IsAmong old (IsTextIn bundles) b ↔ IsAmong second (IsTextIn others) b)
    → AreMerged bytes bundles last → AreMerged start others other → last ≡ other
