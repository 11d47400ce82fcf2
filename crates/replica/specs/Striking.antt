-- Which links strike which, by position. Only private contracts cite it.
use Rattle.std.specs.Prelude.{◌≡◌, ℕ, Bool, false, ◌&&◌, ◌||◌, ◌==◌, List, nat_lt, slice_get, Option}
use Rattle.std.specs.List.{list_any}
use Rattle.std.specs.Option.{option_map_or}
use Rattle.settlement.specs.Ranks.{has_pair}
use Rattle.link_graph.specs.Held.{arrived_of}
use Rattle.team_model.specs.Strikes.{is_striking}
use Rattle.team_model.specs.Judging.{strikes_in}
use Rattle.team_model.specs.declared.terms.Link.{Link}
use Rattle.team_model.specs.declared.terms.Reason.{Reason}
use Rattle.replica.specs.Judged.{AreJudged, is_lawful_at}
use Rattle.replica.specs.declared.judged.Judged.{Judged}

-- whether the link of a position strikes
abbrev pub strikes_any : List Link → ℕ → Bool
strikes_any links p = option_map_or (λ x. is_striking x.entry.act) (slice_get (arrived_of links) p) false

-- whether the link of position a strikes that of position b, where both are lawful
abbrev pub link_strikes : List Link → ℕ → ℕ → Bool
link_strikes links a b =
    option_map_or (λ x. option_map_or (λ y. strikes_in links x y) (slice_get (arrived_of links) b) false) (slice_get (arrived_of links) a) false

-- whether both are judged and lawful, and the one strikes the other
abbrev pub strikes_between : List Link → List (Option Reason) → ℕ → ℕ → Bool
strikes_between links reasons a b = (is_lawful_at reasons a && is_lawful_at reasons b) && link_strikes links a b

-- the pairs are those of judged and lawful links of which the first strikes the second
abbrev pub AreStrikes : List Link → List (Option Reason) → List (ℕ × ℕ) → Type 0
AreStrikes links reasons pairs = (a b : ℕ) → has_pair pairs a b ≡ strikes_between links reasons a b

-- those of them whose positions are below n
abbrev pub AreStrikesBefore : List Link → List (Option Reason) → ℕ → List (ℕ × ℕ) → Type 0
AreStrikesBefore links reasons n pairs = (a b : ℕ) → has_pair pairs a b ≡ ((nat_lt a n && nat_lt b n) && strikes_between links reasons a b)

-- whether both positions are below n, or one of them is n and the other below k
abbrev pub is_noted : ℕ → ℕ → ℕ → ℕ → Bool
is_noted n k a b = (nat_lt a n && nat_lt b n) || (((a == n) && nat_lt b k) || ((b == n) && nat_lt a k))

-- the strikes between the links before position n, and those of its link with the links before k
abbrev pub AreNoted : List Link → List (Option Reason) → ℕ → ℕ → List (ℕ × ℕ) → Type 0
AreNoted links reasons n k pairs = (a b : ℕ) → has_pair pairs a b ≡ (is_noted n k a b && strikes_between links reasons a b)

-- the pair is added where the one strikes the other
abbrev pub NotesStrike : List Link → ℕ → ℕ → List (ℕ × ℕ) → List (ℕ × ℕ) → Type 0
NotesStrike links striker other old new =
    (a b : ℕ) → has_pair new a b ≡ (has_pair old a b || (((striker == a) && (other == b)) && link_strikes links striker other))

-- whether a position is one of these
abbrev pub has_position : List ℕ → ℕ → Bool
has_position ps p = list_any (λ q. q == p) ps

-- the strikes between the links before position n, and those on its link by the links of some positions
abbrev pub AreNotedOf : List Link → List (Option Reason) → ℕ → List ℕ → List (ℕ × ℕ) → Type 0
AreNotedOf links reasons n ps pairs = (a b : ℕ) → has_pair pairs a b
    ≡ (((nat_lt a n && nat_lt b n) && strikes_between links reasons a b) || ((has_position ps a && (n == b)) && link_strikes links a b))

-- whether the link of a position is judged and lawful, and strikes
abbrev pub is_striker_at : List Link → List (Option Reason) → ℕ → Bool
is_striker_at links reasons p = is_lawful_at reasons p && strikes_any links p

-- the positions are those of judged and lawful links that strike
abbrev pub AreStriking : List Link → List (Option Reason) → List ℕ → Type 0
AreStriking links reasons ps = (p : ℕ) → has_position ps p ≡ is_striker_at links reasons p

-- those of them below n
abbrev pub AreStrikingBefore : List Link → List (Option Reason) → ℕ → List ℕ → Type 0
AreStrikingBefore links reasons n ps = (p : ℕ) → has_position ps p ≡ (nat_lt p n && is_striker_at links reasons p)

-- what was found of the links of the first positions is so
pub record IsJudged (links : List Link) (judged : Judged) : Type 0 where
  pub reasons : AreJudged links judged.reasons.items
  pub strikers : AreStriking links judged.reasons.items judged.strikers.items
  pub strikes : AreStrikes links judged.reasons.items judged.strikes.items
