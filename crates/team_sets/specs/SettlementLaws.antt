-- What settlement is, as one pass; what stands, and what is decided of each act; and what stands of a part.
use Rattle.std.specs.Prelude.{◌≡◌, ◌≢◌, ◌↔◌, Bool, false, List, [], filter, fold}
use Rattle.team_sets.specs.Members.{IsIn}
use Rattle.team_sets.specs.Names.{ascending}
use Rattle.team_sets.specs.Settlement.{conflicts, decision, standing, stand_next, stands}

module _ {A : Type 0} (senior strikes : A → A → Bool) where
  -- the standing acts are those that one pass in order of seniority leaves standing
  abbrev pub StandingIsOnePass : Type 0
  StandingIsOnePass = (acts : List A) → standing senior strikes acts ≡ fold (stand_next senior strikes) [] (ascending senior acts)

  -- no act of the list strikes itself
  abbrev pub NoneStrikesItself : List A → Type 0
  NoneStrikesItself acts = (x : A) → IsIn x acts → conflicts senior strikes x x ≡ false

  -- the standing acts are some of the acts, no two of them have a strike with each other, and an act that is decided to stand does.
  -- The other way it needs that no act strikes itself
  pub record StandsAsDecided (acts : List A) : Type 0 where
    pub members : (x : A) → IsIn x (standing senior strikes acts) → IsIn x acts
    pub apart : (x y : A) → IsIn x (standing senior strikes acts) → IsIn y (standing senior strikes acts) → x ≢ y → conflicts senior strikes x y ≡ false
    pub unmet : (x s : A) → decision senior strikes acts x ≡ stands → IsIn s (standing senior strikes acts) → conflicts senior strikes s x ≡ false
    pub stays : (x : A) → IsIn x acts → decision senior strikes acts x ≡ stands → IsIn x (standing senior strikes acts)
    pub decided : NoneStrikesItself acts → (x : A) → IsIn x acts → (decision senior strikes acts x ≡ stands) ↔ IsIn x (standing senior strikes acts)

  -- no strike between the acts of a part of the list and its others
  abbrev pub NoStrikeAcross : (A → Bool) → List A → Type 0
  NoStrikeAcross part acts = (x y : A) → IsIn x acts → IsIn y acts → part x ≢ part y → conflicts senior strikes x y ≡ false

  -- what stands of a part that has no strike with the others is what stands of it alone
  abbrev pub PartStandsAlone : Type 0
  PartStandsAlone = (part : A → Bool) (ranked : List A) → NoStrikeAcross part ranked
      → filter part (fold (stand_next senior strikes) [] ranked) ≡ fold (stand_next senior strikes) [] (filter part ranked)

module _ {A : Type 0} (senior strikes other_senior other_strikes : A → A → Bool) where
  -- both rank the acts alike, and have the same strikes between them
  pub record RankAlike (acts : List A) : Type 0 where
    pub ranked : (x y : A) → IsIn x acts → IsIn y acts → senior x y ≡ other_senior x y
    pub struck : (x y : A) → IsIn x acts → IsIn y acts → strikes x y ≡ other_strikes x y

  -- settlement depends on the ranks of the acts and the strikes between them alone
  pub record SettleAlike (acts : List A) : Type 0 where
    pub standing : standing senior strikes acts ≡ standing other_senior other_strikes acts
    pub decision : (x : A) → IsIn x acts → decision senior strikes acts x ≡ decision other_senior other_strikes acts x

  abbrev pub SettlementIsOfRanks : Type 0
  SettlementIsOfRanks = (acts : List A) → RankAlike acts → SettleAlike acts
