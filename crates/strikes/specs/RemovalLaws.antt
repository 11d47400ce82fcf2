-- Strong removal over any set of links and any rules: what is struck, and by what; which removals stand; what stays, and what comes back.
use Rattle.std.specs.Prelude.{◌≡◌, ◌≢◌, ◌⊎◌, ◌↔◌, true, false, List, [], Some}
use Rattle.team_sets.specs.Names.{Name}
use Rattle.team_sets.specs.Members.{IsIn}
use Rattle.team_sets.specs.OrderLaws.{NamesDiffer}
use Rattle.team_sets.specs.Ancestry.{are_concurrent}
use Rattle.team_sets.specs.Settlement.{conflicts}
use Rattle.team_model.specs.Strikes.{is_striking, strikes_by}
use Rattle.team_model.specs.CountingLaws.{GivesSeniority}
use Rattle.team_model.specs.Judging.{Rules, is_senior, lawful, name_of, past_of, prev_of, resolved, seniority, standing_strikers, strikers, strikes_among, unlawful_reason, verdict}
use Rattle.team_model.specs.declared.terms.Link.{Link}
use Rattle.team_model.specs.declared.terms.Reason.{Reason}
use Rattle.team_model.specs.declared.terms.Verdict.TheVariants.{Struck, Outranked}

module _ (rules : Rules) (links : List Link) where
  -- the lawful removals, and those of them that stand
  abbrev pub removals : List Link
  removals = strikers links (lawful rules links)

  abbrev pub standing_removals : List Link
  standing_removals = standing_strikers rules links (lawful rules links)

  -- s is a lawful removal that stands, was written beside x, and strikes it
  pub record IsStruckBy (x s : Link) : Type 0 where
    pub is_lawful : IsIn s (lawful rules links)
    pub removes : is_striking s.entry.act ≡ true
    pub stands : IsIn s standing_removals
    pub beside : are_concurrent name_of prev_of links s x ≡ true
    pub strikes : strikes_by rules.device_of s.entry x.entry ≡ true

  -- s is a lawful removal that stands and is more senior than x, and one of the two strikes the other
  pub record IsTakenOutBy (x s : Link) : Type 0 where
    pub stands : IsIn s standing_removals
    pub outranks : is_senior links (lawful rules links) s x ≡ true
    pub meets : conflicts (is_senior links (lawful rules links)) (strikes_among rules.device_of links) s x ≡ true

  -- s is a lawful removal that takes x out by seniority alone: x strikes it, and it doesn't strike x
  pub record IsOutrankedBy (x s : Link) : Type 0 where
    pub is_removal : IsIn s removals
    pub taken_out : IsTakenOutBy x s
    pub strikes_it : strikes_among rules.device_of links x s ≡ true
    pub strikes_not : strikes_among rules.device_of links s x ≡ false

  -- what x says strikes nothing and isn't resolved, and another link gives each user the seniority that he has
  pub record HasNoEffect (x : Link) : Type 0 where
    pub strikes_not : IsIn x standing_removals → ⊥
    pub gives_not : (u : Name) → (seniority links (lawful rules links) u ≡ (0, [])) ⊎ ((y : Link) × (y ≢ x) × GivesSeniority rules links u y)
    pub unresolved : IsIn x (resolved rules links) → ⊥

-- a struck link is lawful, and a standing removal strikes it, the one that its verdict names: a more senior one, where the link is a
-- removal itself
abbrev pub StruckByStanding : Type 0
StruckByStanding = (rules : Rules) (links : List Link) → NamesDiffer name_of links → (x : Link) → IsIn x links → (n : Name) → verdict rules links x ≡ Struck n
    → IsIn x (lawful rules links)
    × ((s : Link) × (s.name ≡ n) × IsStruckBy rules links x s × (is_striking x.entry.act ≡ true → is_senior links (lawful rules links) s x ≡ true))

-- an outranked link is a lawful removal, and a standing removal outranks it, the one that its verdict names
abbrev pub OutrankedByStanding : Type 0
OutrankedByStanding = (rules : Rules) (links : List Link) → NamesDiffer name_of links → (x : Link) → IsIn x links → (n : Name) → verdict rules links x ≡ Outranked n
    → IsIn x (removals rules links) × ((s : Link) × (s.name ≡ n) × IsOutrankedBy rules links x s)

-- what a removal had seen it doesn't strike: neither a struck link nor the one that its verdict names is in the other's past
abbrev pub SeenIsKept : Type 0
SeenIsKept = (rules : Rules) (links : List Link) → NamesDiffer name_of links → (x s : Link) → IsIn x links → IsIn s links
    → verdict rules links x ≡ Struck s.name → (IsIn x (past_of links s) → ⊥) × (IsIn s (past_of links x) → ⊥)

-- a lawful removal stands, or one that stands and is more senior takes it out. So of two that strike each other the more senior
-- stands, unless one still more senior takes it out
abbrev pub SeniorStands : Type 0
SeniorStands = (rules : Rules) (links : List Link) → NamesDiffer name_of links → (x : Link) → IsIn x (removals rules links)
    → IsIn x (standing_removals rules links) ⊎ ((s : Link) × IsTakenOutBy rules links x s)

-- an unlawful link has no effect
abbrev pub UnlawfulHasNoEffect : Type 0
UnlawfulHasNoEffect = (rules : Rules) (links : List Link) (x : Link) (r : Reason) → unlawful_reason rules links x ≡ Some r → HasNoEffect rules links x

-- a lawful link that isn't a removal is resolved exactly where no standing removal strikes it
abbrev pub ResolvedUnlessStruck : Type 0
ResolvedUnlessStruck = (rules : Rules) (links : List Link) (x : Link) → IsIn x (lawful rules links) → is_striking x.entry.act ≡ false
    → IsIn x (resolved rules links) ↔ ((s : Link) → IsStruckBy rules links x s → ⊥)

-- a lawful removal is resolved exactly where it stands
abbrev pub StandingAreResolved : Type 0
StandingAreResolved = (rules : Rules) (links : List Link) → NamesDiffer name_of links → (x : Link) → IsIn x (removals rules links)
    → IsIn x (resolved rules links) ↔ IsIn x (standing_removals rules links)

-- where a late removal takes others out, what they alone had struck comes back. The others hold all of the links; none that strikes
-- a lawful link x in the links stands in the others, and each that strikes it in the others stood in the links: then x is resolved
abbrev pub GivesBack : Type 0
GivesBack = (rules : Rules) (links others : List Link) → NamesDiffer name_of others → ((y : Link) → IsIn y links → IsIn y others)
    → (x : Link) → IsIn x (lawful rules links) → is_striking x.entry.act ≡ false
    → ((s : Link) → IsStruckBy rules links x s → IsIn s (standing_removals rules others) → ⊥)
    → ((s : Link) → IsStruckBy rules others x s → IsIn s (standing_removals rules links))
    → IsIn x (resolved rules others)
