-- A rank is smaller by the seniority of the act's user, and where users are as senior, by the act's own place.
use Rattle.std.specs.Prelude.{◌≡◌, ◌&&◌, ◌||◌, ℕ, List, not}
use Rattle.team_sets.specs.Names.{Name}
use Rattle.team_sets.specs.Places.{place_lt}
use Rattle.settlement.specs.declared.striker.Place.{Place}
use Rattle.settlement.specs.declared.striker.Striker.{Striker}
use Rattle.team_sets.specs.SortedLaws.{AreApart, IsStrict}
use Rattle.settlement.specs.Ranks.{AreStrikers, is_senior}

abbrev pub pair_of : Place → ℕ × Name
pair_of p = (p.height, p.name)

abbrev pub RankIsBySeniority : Type 0
RankIsBySeniority = (x y : Striker) → is_senior x y
    ≡ (place_lt (pair_of x.since) (pair_of y.since) || (not (place_lt (pair_of y.since) (pair_of x.since)) && place_lt (pair_of x.place) (pair_of y.place)))

-- ranks are a strict order, and tell apart acts whose places differ
pub record RanksAreStrict : Type 0 where
  pub strict : IsStrict is_senior
  pub apart : (acts : List Striker) (pairs : List (ℕ × ℕ)) → AreStrikers acts pairs → AreApart is_senior acts
