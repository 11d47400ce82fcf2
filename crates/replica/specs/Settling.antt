-- Settlement of the strikers among some links, by position. Only private contracts cite it.
use Rattle.std.specs.Prelude.{◌≡◌, ◌↔◌, ◌<◌, ℕ, Bool, true, false, not, ◌&&◌, ◌||◌, ◌==◌, if◌then◌else◌, All, List, [], ◌∷◌, ◌++◌, length, map, filter, find, position, slice_get, slice_index_or, Option, Some, option_map, unwrap_or}
use Rattle.std.specs.List.{list_any}
use Rattle.std.specs.Option.{option_map_or}
use Rattle.team_sets.specs.Names.{Name, has_name, same_name}
use Rattle.team_sets.specs.Members.{IsIn}
use Rattle.team_sets.specs.Order.{names}
use Rattle.team_sets.specs.OrderLaws.{IsSet}
use Rattle.team_sets.specs.Places.{least_place, lesser_place}
use Rattle.team_sets.specs.Settlement.{Decided, stands, struck, lost}
use Rattle.settlement.specs.declared.striker.Place.{Place}
use Rattle.settlement.specs.declared.striker.Striker.{Striker}
use Rattle.settlement.specs.declared.striker.Decision.{Decision}
use Rattle.settlement.specs.declared.striker.Decision.TheVariants.{Stands, Struck, Lost}
use Rattle.link_graph.specs.Held.{arrived_of}
use Rattle.strikes.specs.Noted.{rank_of}
use Rattle.team_model.specs.Strikes.{brings_user, is_striking}
use Rattle.team_model.specs.Judging.{decision_in, name_of, place_of, seniority, standing_strikers, strikers, strikes_in, team_rules}
use Rattle.team_model.specs.declared.terms.Link.{Link}
use Rattle.team_model.specs.declared.terms.Reason.{Reason}
use Rattle.replica.specs.Judged.{is_picked}
use Rattle.replica.specs.Striking.{link_strikes, strikes_any}
use Rattle.replica.specs.declared.settling.Settled.{Settled}

-- the position of the link of this name
abbrev pub position_of : List Link → Name → ℕ
position_of links n = unwrap_or (position (same_name n) (names name_of (arrived_of links))) 0

-- the least place of some links that bring the user in
abbrev pub first_brought : List Link → List Link → Name → Option (ℕ × Name)
first_brought links xs u = least_place (map (place_of links) (filter (λ x. brings_user x.entry u) xs))

-- a table has those of all users
abbrev pub HasFirsts : List Link → List Link → List (Name × (ℕ × Name)) → Type 0
HasFirsts links xs table = (u : Name) → rank_of table u ≡ first_brought links xs u

-- the place of the link of a position is noted for the user whom it brings in
abbrev pub NotesBringing : List Link → ℕ → List (Name × (ℕ × Name)) → List (Name × (ℕ × Name)) → Type 0
NotesBringing links p old new = (x : Link) → slice_get (arrived_of links) p ≡ Some x
    → (u : Name) → rank_of new u ≡ (if brings_user x.entry u then lesser_place (place_of links x) (rank_of old u) else rank_of old u)

-- the user of each of the links was brought in by one of them
abbrev pub AllBrought : List Link → List Link → Type 0
AllBrought links xs = (x : Link) → IsIn x xs → (y : Link) × IsIn y xs × (first_brought links xs x.entry.user ≡ Some (place_of links y))

-- the links of a set that are marked and lawful, each once; and the user of each was brought in by one of them
pub record AreLawful (links : List Link) (reasons : List (Option Reason)) (marked : List Bool) (xs : List Link) : Type 0 where
  pub set : IsSet name_of xs
  pub picked : (i : ℕ) (x : Link) → slice_get (arrived_of links) i ≡ Some x → IsIn x xs ↔ (is_picked marked reasons i ≡ true)
  pub connected : (x : Link) → IsIn x xs → IsIn x (arrived_of links)
  pub brought : AllBrought links xs

abbrev pub place_in : ℕ × Name → Place
place_in p = record { height = p.0; name = p.1 }

-- a link as a striker that is settled, where its user is as senior as this place. The position of the link there tells the user
abbrev pub striker_since : List Link → ℕ × Name → Link → Striker
striker_since links p x = record {
  id = position_of links x.name;
  by = position_of links p.1;
  since = place_in p;
  place = place_in (place_of links x);
}

-- a table has the place of a connected link for the user of the link of a position
abbrev pub IsRanked : List Link → List (Name × (ℕ × Name)) → ℕ → Type 0
IsRanked links table p = (x : Link) → slice_get (arrived_of links) p ≡ Some x
    → (y : Link) × IsIn y (arrived_of links) × (rank_of table x.entry.user ≡ Some (place_of links y))

-- a link as a striker, where a table has the place that its user's seniority is
abbrev pub striker_by : List Link → List (Name × (ℕ × Name)) → Link → Striker
striker_by links table x = striker_since links (unwrap_or (rank_of table x.entry.user) (0, [])) x

-- the link of a position is added, if it strikes
abbrev pub AddsStriker : List Link → List (Name × (ℕ × Name)) → ℕ → List Striker → List Striker → Type 0
AddsStriker links table p old new =
    (x : Link) → slice_get (arrived_of links) p ≡ Some x → new ≡ (if is_striking x.entry.act then old ++ striker_by links table x ∷ [] else old)

-- a link as a striker among some links
abbrev pub striker_of : List Link → List Link → Link → Striker
striker_of links xs x = striker_since links (seniority links xs x.entry.user) x

-- the acts are the strikers among the lawful links that are marked
pub record AreActsOf (links : List Link) (reasons : List (Option Reason)) (marked : List Bool) (xs : List Link) (found : List Striker) : Type 0 where
  pub lawful : AreLawful links reasons marked xs
  pub acts : found ≡ map (striker_of links xs) (strikers links xs)

-- a decision, with the position of the link that decides it
abbrev pub by_position : List Link → Decided Link → Decision
by_position links stands = Stands
by_position links (struck s) = Struck (position_of links s.name)
by_position links (lost s) = Lost (position_of links s.name)

-- both positions of a pair are below n
abbrev pub IsPairWithin : ℕ → ℕ × ℕ → Type 0
IsPairWithin n p = (p.0 < n) × (p.1 < n)

-- whether both links of a pair are marked, and the second strikes too
abbrev pub is_between : List Link → List Bool → ℕ × ℕ → Bool
is_between links marked p = (slice_index_or marked p.0 false && slice_index_or marked p.1 false) && strikes_any links p.1

abbrev pub is_standing : Decision → Bool
is_standing Stands = true
is_standing (Struck p) = false
is_standing (Lost p) = false

-- whether the act of a place is decided to stand
abbrev pub stands_at : List Decision → ℕ → Bool
stands_at ds k = option_map_or is_standing (slice_get ds k) false

-- the names of the acts that are decided to stand
abbrev pub standing_names : List Striker → List Decision → List Name
standing_names [] ds = []
standing_names (a ∷ rest) [] = []
standing_names (a ∷ rest) (d ∷ ds) = if is_standing d then a.place.name ∷ standing_names rest ds else standing_names rest ds

-- whether a pair says that one of these that stand strikes the position
abbrev pub is_struck_at : List (ℕ × ℕ) → List Bool → ℕ → Bool
is_struck_at pairs standing i = list_any (λ p. slice_index_or standing p.0 false && (p.1 == i)) pairs

-- what is decided of the act of a position, if it is one of these
abbrev pub decided_at : ℕ → List Striker → List Decision → Decision
decided_at p [] ds = Stands
decided_at p (a ∷ rest) [] = Stands
decided_at p (a ∷ rest) (d ∷ ds) = if a.id == p then d else decided_at p rest ds

-- the position of the first of these acts that stands and strikes the position
abbrev pub first_standing : List Link → List Bool → List Striker → ℕ → Option ℕ
first_standing links standing acts p = option_map (λ a. a.id) (find (λ a. slice_index_or standing a.id false && link_strikes links a.id p) acts)

-- the link of a position stays: a striker has to stand, and none that stands may strike it
abbrev pub stays_at : List Link → Settled → ℕ → Bool
stays_at links settled p =
    (not (strikes_any links p) || slice_index_or settled.standing.items p false) && not (slice_index_or settled.struck.items p false)

-- there is one decision for each act, and there are flags for all positions
pub record HasSizes (n : ℕ) (settled : Settled) : Type 0 where
  pub decisions : length settled.decisions.items ≡ length settled.acts.items
  pub standing : length settled.standing.items ≡ n
  pub struck : length settled.struck.items ≡ n
  pub acts : All (λ a. a.id < n) settled.acts.items

-- the strikers among some links, what is decided of each, and by position which stand and whether one that stands strikes the link
pub record IsSettled (links xs : List Link) (settled : Settled) : Type 0 where
  pub acts : settled.acts.items ≡ map (striker_of links xs) (strikers links xs)
  pub decisions : settled.decisions.items ≡ map (λ x. by_position links (decision_in team_rules links xs x)) (strikers links xs)
  pub sizes : HasSizes (length (arrived_of links)) settled
  pub standing : (i : ℕ) (x : Link) → slice_get (arrived_of links) i ≡ Some x
      → slice_index_or settled.standing.items i false ≡ has_name (names name_of (standing_strikers team_rules links xs)) x.name
  pub struck : (i : ℕ) (x : Link) → slice_get (arrived_of links) i ≡ Some x → IsIn x xs
      → slice_index_or settled.struck.items i false ≡ list_any (λ s. strikes_in links s x) (standing_strikers team_rules links xs)
