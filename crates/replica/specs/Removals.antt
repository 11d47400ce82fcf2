-- What holds of the removals of a held set: which stand, what they strike, what has no effect, and what comes back.
use Rattle.std.specs.Prelude.{◌≡◌, ◌⊎◌, ◌↔◌, true, false, List, Some}
use Rattle.team_sets.specs.Names.{Name}
use Rattle.team_sets.specs.Members.{IsIn}
use Rattle.strikes.specs.RemovalLaws.{HasNoEffect, IsOutrankedBy, IsStruckBy, IsTakenOutBy, removals, standing_removals}
use Rattle.team_model.specs.Strikes.{is_striking}
use Rattle.team_model.specs.Judging.{is_senior, lawful, past_of, resolved, strikes_in, team_rules, unlawful_reason, verdict}
use Rattle.team_model.specs.declared.terms.Link.{Link}
use Rattle.team_model.specs.declared.terms.Reason.{Reason}
use Rattle.team_model.specs.declared.terms.Verdict.TheVariants.{Struck, Outranked}
use Rattle.link_text.specs.TeamFile.{IsHeld}

-- x is lawful, and the standing removal of this name strikes it: a more senior one, where x is a removal itself
abbrev pub IsStruckRightly : List Link → Link → Name → Type 0
IsStruckRightly links x n = IsIn x (lawful team_rules links)
    × ((s : Link) × (s.name ≡ n) × IsStruckBy team_rules links x s × (is_striking x.entry.act ≡ true → is_senior links (lawful team_rules links) s x ≡ true))

-- x is a lawful removal, and the standing removal of this name outranks it
abbrev pub IsOutrankedRightly : List Link → Link → Name → Type 0
IsOutrankedRightly links x n = IsIn x (removals team_rules links) × ((s : Link) × (s.name ≡ n) × IsOutrankedBy team_rules links x s)

-- A struck link and an outranked one are so by the standing removal that the verdict names, and neither is in the other's past. A lawful
-- removal stands, or a more senior one that stands takes it out; no two that stand strike each other. An unlawful link has no effect.
-- A lawful removal is resolved exactly where it stands, and another lawful link where no standing removal strikes it. So what was struck
-- in a part of the set is resolved in the set, where none stands that struck it there, and none strikes it that didn't stand there.
pub record HasRightRemovals (links : List Link) : Type 0 where
  pub struck : (x : Link) → IsIn x links → (n : Name) → verdict team_rules links x ≡ Struck n → IsStruckRightly links x n
  pub outranked : (x : Link) → IsIn x links → (n : Name) → verdict team_rules links x ≡ Outranked n → IsOutrankedRightly links x n
  pub seen : (x s : Link) → IsIn x links → IsIn s links → verdict team_rules links x ≡ Struck s.name → (IsIn x (past_of links s) → ⊥) × (IsIn s (past_of links x) → ⊥)
  pub senior : (x : Link) → IsIn x (removals team_rules links) → IsIn x (standing_removals team_rules links) ⊎ ((s : Link) × IsTakenOutBy team_rules links x s)
  pub apart : (s t : Link) → IsIn s (standing_removals team_rules links) → IsIn t (standing_removals team_rules links) → strikes_in links s t ≡ false
  pub unlawful : (x : Link) (r : Reason) → unlawful_reason team_rules links x ≡ Some r → HasNoEffect team_rules links x
  pub standing : (x : Link) → IsIn x (removals team_rules links) → IsIn x (resolved team_rules links) ↔ IsIn x (standing_removals team_rules links)
  pub others : (x : Link) → IsIn x (lawful team_rules links) → is_striking x.entry.act ≡ false
      → IsIn x (resolved team_rules links) ↔ ((s : Link) → IsStruckBy team_rules links x s → ⊥)
  pub given_back : (part : List Link) → ((y : Link) → IsIn y part → IsIn y links) → (x : Link) → IsIn x (lawful team_rules part) → is_striking x.entry.act ≡ false
      → ((s : Link) → IsStruckBy team_rules part x s → IsIn s (standing_removals team_rules links) → ⊥)
      → ((s : Link) → IsStruckBy team_rules links x s → IsIn s (standing_removals team_rules part)) → IsIn x (resolved team_rules links)

-- so it is with each held set
abbrev pub RemovalsAreRight : Type 0
RemovalsAreRight = (team : Name) (links : List Link) → IsHeld team links → HasRightRemovals links
