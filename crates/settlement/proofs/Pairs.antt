-- Strikes as a list of pairs and as a set of them, and what is decided of an act by the first that has a strike with it.
use Rattle.std.proofs.Common.{◌≡◌, ℕ, ◌+◌, ◌<◌, length, get_or, take, Bool, true, false, ◌&&◌, ◌||◌, cond, List, [], ◌∷◌, ◌++◌, Option, Some, None, find, map, refl, sym, ◌∙◌, ap, inl, inr}
use Rattle.std.specs.HashSet.{HashSet, Updates, contains}
use Rattle.std.specs.List.{list_any}
use Rattle.std.proofs.lemmas.List.{map-append, take_more}
use Rattle.std.proofs.lemmas.List.Folds.{list_any-append}
use Rattle.team_sets.specs.Members.{IsIn}
use Rattle.team_sets.specs.Settlement.{conflicts, decision, standing}
use Rattle.team_sets.specs.SettlementLaws.{RankAlike}
use Rattle.team_sets.proofs.SameRanks.{settle-alike}
use Rattle.settlement.specs.Pairs.{HasPairs, decision_from, same_pair, set_strikes}
use Rattle.settlement.specs.Ranks.{by_id, decision_of, has_pair, is_senior, strikes_by}
use Rattle.settlement.specs.declared.striker.Decision.{Decision}
use Rattle.settlement.specs.declared.striker.Striker.{Striker}

-- what is decided of an act is told by the first standing act that has a strike with it
pub decided-from : (strikes : Striker → Striker → Bool) (acts : List Striker) (y : Striker)
    → decision_from strikes (standing is_senior strikes acts) y ≡ by_id (decision is_senior strikes acts y)
decided-from strikes acts y = go (find (λ x. conflicts is_senior strikes x y) (standing is_senior strikes acts)) refl
  where
    either : (x : Striker) (b : Bool) → strikes x y ≡ b → find (λ x. conflicts is_senior strikes x y) (standing is_senior strikes acts) ≡ Some x
        → decision_from strikes (standing is_senior strikes acts) y ≡ by_id (decision is_senior strikes acts y)
    either x true s e = rw (e, s) refl
    either x false s e = rw (e, s) refl

    go : (o : Option Striker) → find (λ x. conflicts is_senior strikes x y) (standing is_senior strikes acts) ≡ o
        → decision_from strikes (standing is_senior strikes acts) y ≡ by_id (decision is_senior strikes acts y)
    go None e = rw e refl
    go (Some x) e = either x (strikes x y) refl e

-- the set decides what the list does
pub decided-alike : {S : Type 0} (pairs : List (ℕ × ℕ)) (set : HashSet (ℕ × ℕ) S) (acts : List Striker) → HasPairs pairs set
    → map (decision_from (set_strikes set) (standing is_senior (set_strikes set) acts)) acts ≡ map (decision_of pairs acts) acts
decided-alike pairs set acts has =
    each acts (λ y k. decided-from (set_strikes set) acts y ∙ ap by_id ((settle-alike is_senior (set_strikes set) is_senior (strikes_by pairs) acts alike).decision y k))
  where
    alike : RankAlike is_senior (set_strikes set) is_senior (strikes_by pairs) acts
    alike = record { ranked = λ x y k j. refl; struck = λ x y k j. has x.id y.id }

    each : (ys : List Striker) → ((y : Striker) → IsIn y ys → decision_from (set_strikes set) (standing is_senior (set_strikes set) acts) y ≡ decision_of pairs acts y)
        → map (decision_from (set_strikes set) (standing is_senior (set_strikes set) acts)) ys ≡ map (decision_of pairs acts) ys
    each [] h = refl
    each (y ∷ ys) h = rw (h y (inl refl), each ys (λ z k. h z (inr k))) refl

or-true : (b : Bool) → (b || true) ≡ true
or-true true = refl
or-true false = refl

or-none : (b : Bool) → (b || false) ≡ b
or-none true = refl
or-none false = refl

any-more : {A : Type 0} (p : A → Bool) (xs : List A) (i : ℕ) (d : A) → i < length xs → list_any p (take (i + 1) xs) ≡ (list_any p (take i xs) || p (get_or xs i d))
any-more p xs i d lt = rw (take_more xs i d lt, list_any-append p (take i xs) (get_or xs i d ∷ [])) (ap (λ b. list_any p (take i xs) || b) (or-none (p (get_or xs i d))))

-- one pair more
pub pairs-more : {S : Type 0} (old new : HashSet (ℕ × ℕ) S) (pairs : List (ℕ × ℕ)) (i : ℕ) (p : ℕ × ℕ) → i < length pairs → p ≡ get_or pairs i p
    → HasPairs (take i pairs) old → Updates same_pair old new p true → HasPairs (take (i + 1) pairs) new
pairs-more old new pairs i p lt at has updates a b =
    updates.0 (a, b) ∙ go (same_pair p (a, b)) ∙ ap (λ r. r || same_pair p (a, b)) (has a b)
    ∙ ap (λ q. has_pair (take i pairs) a b || same_pair q (a, b)) at ∙ sym (any-more (λ q. same_pair q (a, b)) pairs i p lt)
  where
    go : (r : Bool) → cond r true (contains same_pair old (a, b)) ≡ (contains same_pair old (a, b) || r)
    go true = sym (or-true (contains same_pair old (a, b)))
    go false = sym (or-none (contains same_pair old (a, b)))

-- one act more is decided
pub decided-more : {S : Type 0} (set : HashSet (ℕ × ℕ) S) (acts stood told : List Striker) (done new : List Decision) (i : ℕ) (y : Striker) (r : Decision)
    → i < length acts → y ≡ get_or acts i y → stood ≡ told → r ≡ decision_from (set_strikes set) stood y
    → done ≡ map (decision_from (set_strikes set) told) (take i acts) → new ≡ done ++ r ∷ []
    → new ≡ map (decision_from (set_strikes set) told) (take (i + 1) acts)
decided-more set acts stood told done new i y r lt at same is before pushed =
    pushed ∙ ap (λ l. l ++ r ∷ []) before
    ∙ ap (λ d. map (decision_from (set_strikes set) told) (take i acts) ++ d ∷ [])
    (is ∙ ap (λ l. decision_from (set_strikes set) l y) same ∙ ap (λ z. decision_from (set_strikes set) told z) at)
    ∙ sym (ap (λ l. map (decision_from (set_strikes set) told) l) (take_more acts i y lt)
    ∙ map-append (decision_from (set_strikes set) told) (take i acts) (get_or acts i y ∷ []))
