-- What holds of each link that counts, and that each lawful link has a user whom a lawful link brings in.
use Rattle.std.specs.Prelude.{◌≡◌, ◌⊎◌, ◌↔◌, ℕ, true, false, List, None}
use Rattle.team_sets.specs.Names.{Name}
use Rattle.team_sets.specs.Members.{IsIn}
use Rattle.team_sets.specs.OrderLaws.{NamesDiffer}
use Rattle.acts.specs.declared.entry.Entry.{Entry}
use Rattle.team_model.specs.ActTable.{is_found}
use Rattle.team_model.specs.State.{State, lists_device, lists_user}
use Rattle.team_model.specs.Strikes.{brings_user, is_striking}
use Rattle.team_model.specs.Judging.{Rules, before_turn, fold_team, lawful, name_of, order_of, place_of, resolved, rules_by, seniority, standing_strikers, strikes_among, unlawful_reason, verdict}
use Rattle.team_model.specs.declared.terms.Link.{Link}
use Rattle.team_model.specs.declared.terms.Verdict.TheVariants.{Counts}

module _ (rules : Rules) (links : List Link) where
  -- a link counts rightly: it is connected, and permitted in the team of its past; no standing striker strikes it, and where it
  -- strikes, it stands; so it is in the resolved list; and it is permitted in the state that those before its turn leave
  pub record CountsRightly (x : Link) : Type 0 where
    pub connected : IsIn x (order_of links)
    pub permitted_before : unlawful_reason rules links x ≡ None
    pub unstruck : (s : Link) → IsIn s (standing_strikers rules links (lawful rules links)) → strikes_among rules.device_of links s x ≡ false
    pub stands : is_striking x.entry.act ≡ true → IsIn x (standing_strikers rules links (lawful rules links))
    pub in_turn : IsIn x (resolved rules links)
    pub permitted : rules.refusal (fold_team rules (before_turn rules links x)) x.entry ≡ None

-- the links that count are exactly those that do so rightly
abbrev pub CountingIsRight : Type 0
CountingIsRight = (rules : Rules) (links : List Link) → NamesDiffer name_of links → (x : Link) → IsIn x links
    → (verdict rules links x ≡ Counts) ↔ CountsRightly rules links x

-- no standing striker strikes another
abbrev pub StandersAreApart : Type 0
StandersAreApart = (rules : Rules) (links : List Link) → NamesDiffer name_of links
    → (s t : Link) → IsIn s (standing_strikers rules links (lawful rules links)) → IsIn t (standing_strikers rules links (lawful rules links))
    → strikes_among rules.device_of links s t ≡ false

-- an entry founds the team, or its author is listed, and its device is listed for the author
abbrev pub IsByListed : State → Entry → Type 0
IsByListed s e = (is_found e.act ≡ true) ⊎ ((lists_user s e.user ≡ true) × (lists_device s e.user e.device ≡ true))

-- each link that counts is by a device that is listed for its author in the state at its turn, or founds the team
abbrev pub CountingAreByListed : Type 0
CountingAreByListed = (device_of : List ℕ → Name) (links : List Link) → NamesDiffer name_of links → (x : Link) → IsIn x links
    → verdict (rules_by device_of) links x ≡ Counts → IsByListed (fold_team (rules_by device_of) (before_turn (rules_by device_of) links x)) x.entry

-- who may write is listed or brings itself in, and who is listed after an entry was listed before or is brought in by it
pub record BringIn (rules : Rules) : Type 0 where
  pub authors : (s : State) (e : Entry) → rules.refusal s e ≡ None → (lists_user s e.user ≡ true) ⊎ (brings_user e e.user ≡ true)
  pub users : (s : State) (e : Entry) (u : Name) → lists_user (rules.after s e) u ≡ true → (lists_user s u ≡ true) ⊎ (brings_user e u ≡ true)

abbrev pub TeamRulesBringIn : Type 0
TeamRulesBringIn = (device_of : List ℕ → Name) → BringIn (rules_by device_of)

module _ (rules : Rules) (links : List Link) where
  -- y is a lawful link that brings the user in, and the user's seniority is its place
  pub record GivesSeniority (u : Name) (y : Link) : Type 0 where
    pub is_lawful : IsIn y (lawful rules links)
    pub brings : brings_user y.entry u ≡ true
    pub place : seniority links (lawful rules links) u ≡ place_of links y

-- the user of each lawful link has a seniority, which is the place of a lawful link: so each rank is defined
abbrev pub RankIsDefined : Type 0
RankIsDefined = (rules : Rules) → BringIn rules → (links : List Link) → NamesDiffer name_of links → (x : Link) → IsIn x (lawful rules links)
    → (y : Link) × GivesSeniority rules links x.entry.user y
