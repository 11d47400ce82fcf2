-- What the team of a set of links is, without the bound on its recursion; what stays when a link comes; and that all of it
-- depends on the order of the set alone, so on which links are in it, and not on those that wait.
use Rattle.std.specs.Prelude.{◌≡◌, List, [], ◌∷◌, ◌++◌, false, filter}
use Rattle.std.specs.List.{AllByRecursion}
use Rattle.team_sets.specs.Names.{Name, has_name}
use Rattle.team_sets.specs.Members.{IsIn, HaveSameMembers}
use Rattle.team_sets.specs.Order.{names}
use Rattle.team_sets.specs.OrderLaws.{IsSet, NamesDiffer}
use Rattle.team_sets.specs.Ancestry.{is_before}
use Rattle.team_model.specs.Counting.{counting_links}
use Rattle.team_model.specs.Judging.{Rules, name_of, prev_of, order_of, past_of, place_of, strikes_among, team, team_rules, fold_team, lawful, resolved, resolved_from, unlawful_reason, verdict}
use Rattle.team_model.specs.ShowText.{show_text}
use Rattle.team_model.specs.Strikes.{is_striking}
use Rattle.team_model.specs.declared.terms.Link.{Link}

-- the team of a set is the fold over its resolved list, where a link is lawful by the team of its own past
abbrev pub TeamIsFold : Type 0
TeamIsFold = (rules : Rules) (links : List Link) → NamesDiffer name_of links → team rules links ≡ fold_team rules (resolved rules links)

-- the team of a connected link's past is the fold over what stays of the lawful links of the whole set that are its ancestors
abbrev pub TeamOfPast : Type 0
TeamOfPast = (rules : Rules) (links : List Link) → NamesDiffer name_of links → (x : Link) → IsIn x (order_of links)
    → team rules (past_of links x) ≡ fold_team rules (resolved_from rules (past_of links x) (filter (λ y. is_before name_of prev_of links y.name x) (lawful rules links)))

-- the link doesn't strike
abbrev pub IsHarmless : Link → Type 0
IsHarmless x = is_striking x.entry.act ≡ false

-- where none of the lawful links strikes, none of them is struck: each is resolved
abbrev pub NoneIsStruck : Type 0
NoneIsStruck = (rules : Rules) (links lawful : List Link) → AllByRecursion IsHarmless lawful → resolved_from rules links lawful ≡ lawful

-- whether a connected link is lawful never changes when another link comes
abbrev pub LawfulStays : Type 0
LawfulStays = (rules : Rules) (links : List Link) (z : Link) → NamesDiffer name_of links → has_name (names name_of links) z.name ≡ false
    → (x : Link) → IsIn x (order_of links) → unlawful_reason rules (links ++ z ∷ []) x ≡ unlawful_reason rules links x

-- two lists of links mean the same, whatever the rules: one order, one team, and of the connected links the same places,
-- strikes and verdicts. A link that isn't connected waits in both
pub record MeanSame (rules : Rules) (links others : List Link) : Type 0 where
  pub orders : order_of links ≡ order_of others
  pub places : (x : Link) → IsIn x (order_of links) → place_of links x ≡ place_of others x
  pub strikes : (x y : Link) → IsIn x (order_of links) → IsIn y (order_of links) → strikes_among rules.device_of links x y ≡ strikes_among rules.device_of others x y
  pub judged : lawful rules links ≡ lawful rules others
  pub resolves : resolved rules links ≡ resolved rules others
  pub teams : team rules links ≡ team rules others
  pub verdicts : (x : Link) → IsIn x links → verdict rules links x ≡ verdict rules others x
  pub counting : counting_links rules links ≡ counting_links rules others

-- two sets with one order mean the same
abbrev pub MeaningIsOfOrder : Type 0
MeaningIsOfOrder = (rules : Rules) (links others : List Link) → NamesDiffer name_of links → NamesDiffer name_of others
    → order_of links ≡ order_of others → MeanSame rules links others

-- so links that wait have no effect: a set means what its connected links mean as a set of their own
abbrev pub WaitingHaveNoEffect : Type 0
WaitingHaveNoEffect = (rules : Rules) (links : List Link) → NamesDiffer name_of links → MeanSame rules links (order_of links)

-- two lists of the same links, in whatever order, mean the same
abbrev pub MeaningIsOfSet : Type 0
MeaningIsOfSet = (rules : Rules) (links others : List Link) → NamesDiffer name_of links → NamesDiffer name_of others
    → HaveSameMembers links others → MeanSame rules links others

-- they mean the same to the team, and the same is shown of them
pub record ShowSame (links others : List Link) : Type 0 where
  pub means : MeanSame team_rules links others
  pub shown : (t : Name) → show_text t links ≡ show_text t others

abbrev pub TextIsOfSet : Type 0
TextIsOfSet = (links others : List Link) → IsSet name_of links → IsSet name_of others → HaveSameMembers links others → ShowSame links others
