-- What is found on the way to a view, by position. Only private contracts cite it.
use Rattle.std.specs.Prelude.{◌≡◌, ℕ, ◌-◌, ◌<◌, Bool, true, false, ◌&&◌, List, [], ◌∷◌, length, take, drop, map, set, slice_get, slice_index_or, Option, Some, None, is_none, IfSome}
use Rattle.std.specs.Option.{option_map_or}
use Rattle.std.specs.List.{list_all}
use Rattle.team_sets.specs.Names.{Name, has_name}
use Rattle.team_sets.specs.Members.{IsIn}
use Rattle.team_sets.specs.Order.{names}
use Rattle.team_sets.specs.PartLaws.{HasParents}
use Rattle.link_graph.specs.Held.{arrived_of}
use Rattle.team_model.specs.Judging.{Rules, name_of, past_of, prev_of, team, team_rules}
use Rattle.team_model.specs.State.{State}
use Rattle.team_model.specs.declared.terms.Link.{Link}
use Rattle.team_model.specs.declared.terms.Reason.{Reason}
use Rattle.team_model.specs.declared.terms.Verdict.{Verdict}
use Rattle.team_model.specs.declared.terms.Verdict.TheVariants.{Refused}
use Rattle.replica.specs.Views.{judgements}

-- these are the judgements of the first positions
abbrev pub AreJudged : List Link → List (Option Reason) → Type 0
AreJudged links judged = judged ≡ take (length judged) (judgements links)

-- whether the link of a position is judged, and lawful
abbrev pub is_lawful_at : List (Option Reason) → ℕ → Bool
is_lawful_at judged p = option_map_or (λ o. is_none o) (slice_get judged p) false

-- whether the position is marked, and its link is lawful
abbrev pub is_picked : List Bool → List (Option Reason) → ℕ → Bool
is_picked marked judged p = slice_index_or marked p false && is_lawful_at judged p

-- the names are those of links of the first n positions
abbrev pub AreGiven : List Link → ℕ → List Name → Type 0
AreGiven links n ns = list_all (has_name (names name_of (take n (arrived_of links)))) ns ≡ true

-- the flags say which of the positions belong to a part of the set that has the parents of each of its links; those of no link
-- after the first n positions do
pub record ArePartOf (links : List Link) (n : ℕ) (part : Link → Bool) (flags : List Bool) : Type 0 where
  pub flags_are : flags ≡ map part (arrived_of links)
  pub parents : HasParents name_of prev_of links part
  pub early : (y : Link) → IsIn y (drop n (arrived_of links)) → part y ≡ false

-- the link of a position has the one before it as its only parent
abbrev pub FollowsOne : List Link → ℕ → Type 0
FollowsOne links p = (x y : Link) → slice_get (arrived_of links) p ≡ Some x → slice_get (arrived_of links) (p - 1) ≡ Some y → x.prev ≡ y.name ∷ []

-- the state is the team of the past of the link of a position
abbrev pub IsPastOf : List Link → ℕ → State → Type 0
IsPastOf links p s = (x : Link) → slice_get (arrived_of links) p ≡ Some x → s ≡ team team_rules (past_of links x)

-- it is that of the past of the last of the first n positions, if it is there
abbrev pub IsLast : List Link → ℕ → Option State → Type 0
IsLast links n o = IfSome o (λ s. (0 < n) × IsPastOf links (n - 1) s)

-- what becomes of the link of a position at its turn
abbrev pub noted : List Verdict → ℕ → Option Reason → List Verdict
noted verdicts p None = verdicts
noted verdicts p (Some r) = set verdicts p (Refused r)

-- what becomes of the links at these positions, one after the other from a state on
module _ (rules : Rules) (placed : List Link) where
  abbrev pub turned : State → List ℕ → List Verdict → List Verdict
  turned s [] verdicts = verdicts
  turned s (p ∷ ps) verdicts =
      option_map_or (λ x. turned (rules.after s x.entry) ps (noted verdicts p (rules.refusal s x.entry))) (slice_get placed p) (turned s ps verdicts)
