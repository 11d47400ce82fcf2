-- What becomes of the items of a bundle that are given to a team's links, one after another.
use Rattle.std.specs.Prelude.{◌≡◌, ◌<◌, ◌⊎◌, ℕ, List, [], ◌∷◌, ◌++◌, length, Option, Some, None, Result, Ok, Err}
use Rattle.tg_text.specs.Limits.{most_link_bytes}
use Rattle.link_text.specs.Faults.{IsBadText, IsOfOther, IsUnverified}
use Rattle.link_text.specs.TeamFile.{IsHeld}
use Rattle.link_graph.specs.Held.{Held}
use Rattle.link_graph.specs.Taking.{HasText, Takes, Clashes, IsFull}
use Rattle.link_graph.specs.declared.took.Took.{Took}
use Rattle.link_graph.specs.declared.took.Took.TheVariants as took
use Rattle.link_graph.specs.declared.take_fault.TakeFault.{TakeFault}
use Rattle.link_graph.specs.declared.take_fault.TakeFault.TheVariants as take
use Rattle.team_files.specs.Bundles.{IsBundle}
use Rattle.team_files.specs.declared.item.Item.{Item}
use Rattle.team_files.specs.declared.item.Item.TheVariants.{Header, Text, Cut, BadFrame, Long}
use Rattle.link_intake.specs.declared.item_result.ItemResult.{ItemResult}
use Rattle.link_intake.specs.declared.item_result.ItemResult.TheVariants as became
use Rattle.link_intake.specs.declared.item_result.Refusal.{Refusal}
use Rattle.link_intake.specs.declared.item_result.Refusal.TheVariants as why

-- why a text isn't taken
abbrev pub IsRefused : Held → List ℕ → Refusal → Type 0
IsRefused old bytes why.TooLong = most_link_bytes < length bytes
IsRefused old bytes why.BadText = IsBadText bytes
IsRefused old bytes why.OtherTeam = IsOfOther old.team bytes
IsRefused old bytes why.BadSignature = IsUnverified old.team bytes
IsRefused old bytes (why.NameClash n) = Clashes old bytes n
IsRefused old bytes why.Full = (held : ℕ) × (size : ℕ) × IsFull old bytes held size
IsRefused old bytes why.Cut = ⊥
IsRefused old bytes why.BadFrame = ⊥
IsRefused old bytes why.Long = ⊥

-- what becomes of a text
abbrev pub TextBecomes : Held → Held → List ℕ → ItemResult → Type 0
TextBecomes old new bytes became.Header = ⊥
TextBecomes old new bytes (became.New connected) = (positions : List ℕ) × Takes old new bytes (took.New positions) × (connected ≡ length positions)
TextBecomes old new bytes became.Waiting = Takes old new bytes took.Waiting
TextBecomes old new bytes became.Again = HasText old.links bytes × (new ≡ old)
TextBecomes old new bytes (became.Refused refusal) = IsRefused old bytes refusal × (new ≡ old)

-- what becomes of an item: its text is taken, or the links stay as they are
abbrev pub Becomes : Held → Held → Item → ItemResult → Type 0
Becomes old new Header f = (f ≡ became.Header) × (new ≡ old)
Becomes old new (Text bytes) f = TextBecomes old new bytes f
Becomes old new Cut f = (f ≡ became.Refused why.Cut) × (new ≡ old)
Becomes old new BadFrame f = (f ≡ became.Refused why.BadFrame) × (new ≡ old)
Becomes old new Long f = (f ≡ became.Refused why.Long) × (new ≡ old)

-- the items were given in turn, and this became of each
abbrev pub IsGiven : Held → List Item → Held → List ItemResult → Type 0
IsGiven old [] new results = (results ≡ []) × (new ≡ old)
IsGiven old (item ∷ items) new [] = ⊥
IsGiven old (item ∷ items) new (f ∷ results) = (mid : Held) × Becomes old mid item f × IsGiven mid items new results

-- some first items were given in turn, and no others
pub record IsPartGiven (old : Held) (items : List Item) (new : Held) : Type 0 where
  pub first : List Item
  pub rest : List Item
  pub whole : items ≡ first ++ rest
  pub results : List ItemResult
  pub given : IsGiven old first new results

-- the items of a bundle were given in turn
pub record IsBundleGiven (old : Held) (bundle : List ℕ) (new : Held) (results : List ItemResult) : Type 0 where
  pub items : List Item
  pub is_bundle : IsBundle bundle items
  pub given : IsGiven old items new results

-- nothing was given, or some first items of a bundle
abbrev pub IsBundlePartGiven : Held → List ℕ → Held → Type 0
IsBundlePartGiven old bundle new = (new ≡ old) ⊎ ((items : List Item) × IsBundle bundle items × IsPartGiven old items new)

-- one thing alone becomes of items that are given to a held set
abbrev pub ItemsAreGivenOnce : Type 0
ItemsAreGivenOnce = (old new other : Held) (items : List Item) (results others : List ItemResult) → IsHeld old.team old.links
    → IsGiven old items new results → IsGiven old items other others → (results ≡ others) × (new ≡ other)

-- one thing alone becomes of a bundle that is given to a held set
abbrev pub BundleIsGivenOnce : Type 0
BundleIsGivenOnce = (old new other : Held) (bundle : List ℕ) (results others : List ItemResult) → IsHeld old.team old.links
    → IsBundleGiven old bundle new results → IsBundleGiven old bundle other others → (results ≡ others) × (new ≡ other)

-- what became of a text, by what a graph answers to it: none where memory is short
abbrev pub result_of : Result Took TakeFault → Option ItemResult
result_of (Ok (took.New positions)) = Some (became.New (length positions))
result_of (Ok took.Waiting) = Some became.Waiting
result_of (Ok took.Again) = Some became.Again
result_of (Err take.TooLong) = Some (became.Refused why.TooLong)
result_of (Err take.BadText) = Some (became.Refused why.BadText)
result_of (Err take.OtherTeam) = Some (became.Refused why.OtherTeam)
result_of (Err take.BadSignature) = Some (became.Refused why.BadSignature)
result_of (Err (take.NameClash n)) = Some (became.Refused (why.NameClash n))
result_of (Err (take.Full held size)) = Some (became.Refused why.Full)
result_of (Err take.Memory) = None
