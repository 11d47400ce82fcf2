-- When a tree is made, and from what.
use Rattle.std.specs.Prelude.{◌≡◌, ℕ, ◌≤◌, List, Some}
use Rattle.lms_ots.specs.Kinds.{ots_kind}
use Rattle.lms_tree.specs.declared.tree_key.TreeKey.{TreeKey}
use Rattle.lms_tree.specs.LmsKinds.{lms_kind}

-- the numbers are those of an LMS type and an LM-OTS type
abbrev pub AreTypes : ℕ → ℕ → Type 0
AreTypes lms ots = (5 ≤ lms) × (lms ≤ 9) × (1 ≤ ots) × (ots ≤ 4)

-- what a tree of these numbers, this id and this seed is made from
pub record IsMadeFrom (lms ots : ℕ) (id seed : List ℕ) (key : TreeKey) : Type 0 where
  pub lms_is : lms_kind lms ≡ Some key.lms
  pub ots_is : ots_kind ots ≡ Some key.ots
  pub id_is : key.id ≡ id
  pub seed_is : key.seed ≡ seed
