-- Ranks of acts that strike, and what settlement decides of each, by the acts' ids.
use Rattle.std.specs.Prelude.{◌≡◌, ◌≢◌, ℕ, Bool, true, ◌&&◌, ◌==◌, List, map, nat_eq}
use Rattle.std.specs.List.{All, IsDistinct, list_any}
use Rattle.std.specs.Ordering.{eq_by_cmp, is_lt, nat_cmp, ordering_then}
use Rattle.std.specs.declared.cmp.Ordering.{Ordering}
use Rattle.std.specs.Cmp.Lexicographic.{slice_cmp}
use Rattle.team_sets.specs.Members.{IsIn}
use Rattle.team_sets.specs.Settlement.{Decided, stands, struck, lost, decision}
use Rattle.settlement.specs.declared.striker.Place.{Place}
use Rattle.settlement.specs.declared.striker.Striker.{Striker}
use Rattle.settlement.specs.declared.striker.Decision.{Decision}
use Rattle.settlement.specs.declared.striker.Decision.TheVariants.{Stands, Struck, Lost}

-- places compare by height and then by name
abbrev pub place_cmp : Place → Place → Ordering
place_cmp a b = ordering_then (nat_cmp a.height b.height) (slice_cmp nat_cmp a.name b.name)

-- ranks compare by the seniority of the act's user, and then by the act's own place. A smaller rank is more senior
abbrev pub rank_cmp : Striker → Striker → Ordering
rank_cmp x y = ordering_then (place_cmp x.since y.since) (place_cmp x.place y.place)

abbrev pub is_senior : Striker → Striker → Bool
is_senior x y = is_lt (rank_cmp x y)

-- whether a pair of ids is one of the list
abbrev pub has_pair : List (ℕ × ℕ) → ℕ → ℕ → Bool
has_pair pairs a b = list_any (λ p. (p.0 == a) && (p.1 == b)) pairs

abbrev pub strikes_by : List (ℕ × ℕ) → Striker → Striker → Bool
strikes_by pairs x y = has_pair pairs x.id y.id

-- what is decided, by the id of the act that decides it
abbrev pub by_id : Decided Striker → Decision
by_id stands = Stands
by_id (struck x) = Struck x.id
by_id (lost x) = Lost x.id

-- what settlement of the acts decides of y
abbrev pub decision_of : List (ℕ × ℕ) → List Striker → Striker → Decision
decision_of pairs acts y = by_id (decision is_senior (strikes_by pairs) acts y)

-- ids and places differ, what one user does has one seniority, and each pair names two different ids of the list
pub record AreStrikers (acts : List Striker) (pairs : List (ℕ × ℕ)) : Type 0 where
  pub ids : IsDistinct nat_eq (map (λ a. a.id) acts)
  pub places : IsDistinct (eq_by_cmp place_cmp) (map (λ a. a.place) acts)
  pub seniorities : (x y : Striker) → IsIn x acts → IsIn y acts → x.by ≡ y.by → x.since ≡ y.since
  pub named : All (λ p. (list_any (nat_eq p.0) (map (λ a. a.id) acts) ≡ true) × (list_any (nat_eq p.1) (map (λ a. a.id) acts) ≡ true) × (p.0 ≢ p.1)) pairs
