-- Which links are lawful, which stand, the team of a set of links, and what became of each link.
-- A set of links is a list of them in any order; `order` gives its connected links in the order of the team.
use Rattle.std.specs.Prelude.{ℕ, zero, suc, Bool, not, ◌&&◌, ◌||◌, if◌then◌else◌, List, [], map, length, filter, fold, find, take_while, Option, is_none, unwrap_or}
use Rattle.std.specs.List.{list_any}
use Rattle.std.specs.Option.{option_map_or}
use Rattle.sha2.specs.Sha256.{sha256}
use Rattle.team_sets.specs.Names.{Name, same_name, has_name}
use Rattle.team_sets.specs.Order.{order}
use Rattle.team_sets.specs.Places.{place_lt, least_place}
use Rattle.team_sets.specs.Ancestry.{past, are_concurrent, height}
use Rattle.team_sets.specs.Settlement.{standing, decision, Decided, stands, struck, lost}
use Rattle.team_model.specs.Strikes.{is_striking, brings_user, strikes_by}
use Rattle.team_model.specs.State.{State, empty_state}
use Rattle.team_model.specs.ActTable.{after_by, refusal_by}
use Rattle.acts.specs.declared.entry.Entry.{Entry}
use Rattle.team_model.specs.declared.terms.Link.{Link}
use Rattle.team_model.specs.declared.terms.Reason.{Reason}
use Rattle.team_model.specs.declared.terms.Verdict.{Verdict}
use Rattle.team_model.specs.declared.terms.Verdict.TheVariants.{Counts, Unlawful, Struck, Outranked, Refused, Waiting}

-- the rules of acts: why an entry is refused in a state, the state after it, and the id of the device that has a key
pub record Rules : Type 0 where
  pub refusal : State → Entry → Option Reason
  pub after : State → Entry → State
  pub device_of : List ℕ → Name

abbrev pub rules_by : (List ℕ → Name) → Rules
rules_by device_of = record { refusal = refusal_by device_of; after = after_by device_of; device_of = device_of }

-- the rules of a team: the id of a device is the SHA-256 of its key
abbrev pub team_rules : Rules
team_rules = rules_by sha256

abbrev pub name_of : Link → Name
name_of x = x.name

abbrev pub prev_of : Link → List Name
prev_of x = x.prev

abbrev pub order_of : List Link → List Link
order_of links = order name_of prev_of links

abbrev pub past_of : List Link → Link → List Link
past_of links x = past name_of prev_of links x

-- a link's place in the graph: its height and its name
abbrev pub place_of : List Link → Link → ℕ × Name
place_of links x = (height name_of prev_of links x, x.name)

-- whether x strikes y in a set of links, where both are lawful
abbrev pub strikes_among : (List ℕ → Name) → List Link → Link → Link → Bool
strikes_among device_of links x y = are_concurrent name_of prev_of links x y && strikes_by device_of x.entry y.entry

-- the same in a team
abbrev pub strikes_in : List Link → Link → Link → Bool
strikes_in links x y = strikes_among sha256 links x y

-- what follows is over a set of links and the lawful ones among its connected links, in their order
module _ (links lawful : List Link) where
  -- the least place of a lawful link that brings the user in
  abbrev pub seniority : Name → ℕ × Name
  seniority u = unwrap_or (least_place (map (place_of links) (filter (λ x. brings_user x.entry u) lawful))) (0, [])

  -- whether the rank of x is smaller: by the seniority of its user, and then by its own place
  abbrev pub is_senior : Link → Link → Bool
  is_senior x y = place_lt (seniority x.entry.user) (seniority y.entry.user)
      || (not (place_lt (seniority y.entry.user) (seniority x.entry.user)) && place_lt (place_of links x) (place_of links y))

  abbrev pub strikers : List Link
  strikers = filter (λ x. is_striking x.entry.act) lawful

module _ (rules : Rules) (links lawful : List Link) where
  abbrev pub standing_strikers : List Link
  standing_strikers = standing (is_senior links lawful) (strikes_among rules.device_of links) (strikers links lawful)

  abbrev pub decision_in : Link → Decided Link
  decision_in x = decision (is_senior links lawful) (strikes_among rules.device_of links) (strikers links lawful) x

  -- a striker has to stand, and no standing striker may strike the link
  abbrev pub stays : List Link → Link → Bool
  stays stand x = (not (is_striking x.entry.act) || has_name (map name_of stand) x.name)
      && not (list_any (λ s. strikes_among rules.device_of links s x) stand)

  abbrev pub resolved_from : List Link
  resolved_from = filter (stays standing_strikers) lawful

  -- the first standing striker, in the order, that strikes x
  abbrev pub first_striker : Link → Option Link
  first_striker x = find (λ s. has_name (map name_of standing_strikers) s.name && strikes_among rules.device_of links s x) lawful

module _ (rules : Rules) where
  abbrev pub fold_team : List Link → State
  fold_team xs = fold (λ s x. rules.after s x.entry) empty_state xs

  -- the lawful ones of the connected links, in their order, by the team of each one's past
  abbrev pub lawful_by : (List Link → State) → List Link → List Link
  lawful_by team links = filter (λ x. is_none (rules.refusal (team (past_of links x)) x.entry)) (order_of links)

  -- the team of a set of at most n links
  abbrev pub team_within : ℕ → List Link → State
  team_within zero links = empty_state
  team_within (suc n) links = fold_team (resolved_from rules links (lawful_by (team_within n) links))

  abbrev pub team : List Link → State
  team links = team_within (length links) links

  abbrev pub unlawful_reason : List Link → Link → Option Reason
  unlawful_reason links x = rules.refusal (team (past_of links x)) x.entry

  abbrev pub lawful : List Link → List Link
  lawful links = lawful_by team links

  abbrev pub resolved : List Link → List Link
  resolved links = resolved_from rules links (lawful links)

  -- the part of the resolved list that stands before x
  abbrev pub before_turn : List Link → Link → List Link
  before_turn links x = take_while (λ y. not (same_name y.name x.name)) (resolved links)

  abbrev pub at_turn : List Link → Link → Verdict
  at_turn links x = option_map_or (λ r. Refused r) (rules.refusal (fold_team (before_turn links x)) x.entry) Counts

  abbrev pub striker_verdict : List Link → Link → Decided Link → Verdict
  striker_verdict links x stands = at_turn links x
  striker_verdict links x (struck s) = Struck s.name
  striker_verdict links x (lost s) = Outranked s.name

  abbrev pub lawful_verdict : List Link → Link → Verdict
  lawful_verdict links x =
      if is_striking x.entry.act then striker_verdict links x (decision_in rules links (lawful links) x)
      else option_map_or (λ s. Struck s.name) (first_striker rules links (lawful links) x) (at_turn links x)

  abbrev pub verdict : List Link → Link → Verdict
  verdict links x =
      if has_name (map name_of (order_of links)) x.name
      then option_map_or (λ r. Unlawful r) (unlawful_reason links x) (lawful_verdict links x)
      else Waiting
