-- What taking a message comes to, step by step. Only private contracts cite it.
use Rattle.std.specs.Prelude.{◌≡◌, ◌-◌, ◌^◌, ℕ, List, map, min}
use Rattle.link_graph.specs.Held.{Held}
use Rattle.team_files.specs.declared.item.Item.TheVariants.{Text}
use Rattle.link_intake.specs.Giving.{IsGiven, IsPartGiven}
use Rattle.link_intake.specs.ResultsText.{count, is_refused}
use Rattle.link_intake.specs.declared.item_result.ItemResult.{ItemResult}
use Rattle.head_sync.specs.Messages.{Content, ask, done, give, hello}

-- The texts were given in turn, and so many were refused. The number stays at the greatest.
abbrev pub AreOffered : Held → List (List ℕ) → Held → ℕ → Type 0
AreOffered k texts kept refused = (results : List ItemResult) × IsGiven k (map Text texts) kept results × (refused ≡ min (count is_refused results) (2 ^ 32 - 1))

-- Nothing was offered, or some first texts of a message that gives links.
abbrev pub GivesPart : Held → Content → Held → Type 0
GivesPart k (hello heads) kept = kept ≡ k
GivesPart k (ask names marks) kept = kept ≡ k
GivesPart k (give more texts) kept = IsPartGiven k (map Text texts) kept
GivesPart k (done heads) kept = kept ≡ k
