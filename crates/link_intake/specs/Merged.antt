-- A bundle that was merged into the file of a team's links.
use Rattle.std.specs.Prelude.{◌≡◌, ℕ, List}
use Rattle.link_text.specs.TeamFile.{IsFileOf, by_name}
use Rattle.link_graph.specs.Held.{Held}
use Rattle.link_intake.specs.declared.item_result.ItemResult.{ItemResult}
use Rattle.link_intake.specs.Giving.{IsBundleGiven}

-- the bytes are the file of a team's links, which stand in ascending order of names
pub record IsHeldIn (bytes : List ℕ) (held : Held) : Type 0 where
  pub file : IsFileOf bytes held.team held.links
  pub ascends : by_name held.links ≡ held.links

-- the items of the bundle were given to the links of the file, and these are held then
pub record IsMerged (bytes bundle : List ℕ) (new : Held) (results : List ItemResult) : Type 0 where
  pub old : Held
  pub held : IsHeldIn bytes old
  pub intake : IsBundleGiven old bundle new results
