-- What settlement and the resolved list make of links, by position. Only private contracts cite it.
use Rattle.std.specs.Prelude.{◌≡◌, ◌<◌, ⊤, ℕ, Bool, if◌then◌else◌, All, List, filter, length, slice_get}
use Rattle.std.specs.Option.{option_map_or}
use Rattle.team_sets.specs.Settlement.{Decided, stands, struck, lost}
use Rattle.settlement.specs.declared.striker.Decision.{Decision}
use Rattle.settlement.specs.declared.striker.Decision.TheVariants.{Stands as decided_standing, Struck as decided_struck, Lost as decided_lost}
use Rattle.link_graph.specs.Held.{arrived_of}
use Rattle.link_graph.specs.Positions.{at_places}
use Rattle.team_model.specs.Strikes.{is_striking}
use Rattle.team_model.specs.Judging.{decision_in, first_striker, lawful, resolved, team_rules, unlawful_reason}
use Rattle.team_model.specs.declared.terms.Link.{Link}
use Rattle.team_model.specs.declared.terms.Verdict.{Verdict}
use Rattle.team_model.specs.declared.terms.Verdict.TheVariants.{Counts, Unlawful, Struck, Outranked}
use Rattle.replica.specs.Judged.{ArePartOf}
use Rattle.replica.specs.Settling.{IsSettled}
use Rattle.replica.specs.declared.resolving.Resolved.{Resolved}

-- the flags are those of a part of the set, and what is resolved is the resolved list of each such part
pub record IsResolved (links : List Link) (n : ℕ) (flags : List Bool) (found : Resolved) : Type 0 where
  pub given : All (λ p. p < length (arrived_of links)) found.positions.items
  pub positions : (part : Link → Bool) → ArePartOf links n part flags → at_places (arrived_of links) found.positions.items ≡ resolved team_rules (filter part links)
  pub settled : (part : Link → Bool) → ArePartOf links n part flags → IsSettled links (filter part (lawful team_rules links)) found.settled

-- what a decision makes of a striker before its turn
abbrev pub decided_first : Decided Link → Verdict
decided_first stands = Counts
decided_first (struck s) = Struck s.name
decided_first (lost s) = Outranked s.name

-- what becomes of a lawful link before its turn: whether it is refused then isn't known yet
abbrev pub first_lawful : List Link → Link → Verdict
first_lawful links x =
    if is_striking x.entry.act then decided_first (decision_in team_rules links (lawful team_rules links) x)
    else option_map_or (λ s. Struck s.name) (first_striker team_rules links (lawful team_rules links) x) Counts

-- what becomes of a link before its turn
abbrev pub first_verdict : List Link → Link → Verdict
first_verdict links x = option_map_or (λ r. Unlawful r) (unlawful_reason team_rules links x) (first_lawful links x)

-- what a decision makes of a striker, by the position of the link that decides it
abbrev pub verdict_by : List Link → Decision → Verdict
verdict_by links decided_standing = Counts
verdict_by links (decided_struck p) = option_map_or (λ s. Struck s.name) (slice_get (arrived_of links) p) Counts
verdict_by links (decided_lost p) = option_map_or (λ s. Outranked s.name) (slice_get (arrived_of links) p) Counts

-- the position is below n, if the decision names one
abbrev pub IsDecidedWithin : ℕ → Decision → Type 0
IsDecidedWithin n decided_standing = ⊤
IsDecidedWithin n (decided_struck p) = p < n
IsDecidedWithin n (decided_lost p) = p < n
