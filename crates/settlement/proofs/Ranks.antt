-- Ranks are a strict order, which the laws of comparing numbers and names give.
use Rattle.std.proofs.Common.{◌≡◌, ℕ, Bool, true, false, not, ◌&&◌, ◌||◌, List, [], ◌∷◌, refl, sym, ◌∙◌, ap, inl, inr, ◌⊎◌, map}
use Rattle.std.specs.Cmp.{IsTotalOrder, nat_cmp_total}
use Rattle.std.specs.Cmp.Lexicographic.{nat_list_cmp_total, slice_cmp}
use Rattle.std.specs.List.{AllByRecursion, IsDistinct}
use Rattle.std.specs.Ordering.{eq_by_cmp, is_eq, is_lt, nat_cmp, ordering_then, ordering_reverse}
use Rattle.std.specs.declared.cmp.Ordering.{Ordering}
use Rattle.std.specs.declared.cmp.Ordering.TheVariants.{Less, Equal, Greater}
use Rattle.std.proofs.lemmas.Bool.{false≢true}
use Rattle.std.proofs.lemmas.Cmp.{then_total}
use Rattle.team_sets.specs.SortedLaws.{AreApart, IsStrict}
use Rattle.settlement.specs.Ranks.{AreStrikers, is_senior, place_cmp, rank_cmp}
use Rattle.settlement.specs.RankLaws.{RankIsBySeniority, RanksAreStrict}
use Rattle.settlement.specs.declared.striker.Place.{Place}
use Rattle.settlement.specs.declared.striker.Striker.{Striker}

through : {K L : Type 0} {R : L → L → Ordering} (f : K → L) → IsTotalOrder R → IsTotalOrder (λ x y. R (f x) (f y))
through f o = record {
  antisymm = λ x y. o.antisymm (f x) (f y);
  trans = λ x y z. o.trans (f x) (f y) (f z);
  congr = λ x y z. o.congr (f x) (f y) (f z);
}

place-total : IsTotalOrder place_cmp
place-total = then_total (through (λ (p : Place). p.height) nat_cmp_total) (through (λ (p : Place). p.name) nat_list_cmp_total)

rank-total : IsTotalOrder rank_cmp
rank-total = then_total (through (λ (x : Striker). x.since) place-total) (through (λ (x : Striker). x.place) place-total)

pub by-seniority : RankIsBySeniority
by-seniority x y = go (place_cmp x.since y.since) (place_cmp y.since x.since) (place_cmp x.place y.place) (place-total.antisymm y.since x.since)
  where
    go : (r t s : Ordering) → t ≡ ordering_reverse r → is_lt (ordering_then r s) ≡ (is_lt r || (not (is_lt t) && is_lt s))
    go Less t s e = refl
    go Equal t s e = rw e refl
    go Greater t s e = rw e refl

less : (r : Ordering) → is_lt r ≡ true → r ≡ Less
less Less e = refl
less Equal e = absurd (false≢true e)
less Greater e = absurd (false≢true e)

strict : IsStrict is_senior
strict = record {
  asymmetric = λ x y h. ap is_lt (rank-total.antisymm y x ∙ ap ordering_reverse (less (rank_cmp x y) h));
  transitive = λ x y z h k. ap is_lt (rank-total.trans x y z (less (rank_cmp x y) h) (less (rank_cmp y z) k));
}

-- acts with different places have different ranks
differ : (x y : Striker) → eq_by_cmp place_cmp x.place y.place ≡ false → (is_senior x y ≡ true) ⊎ (is_senior y x ≡ true)
differ x y fails = go (rank_cmp x y) refl
  where
    same : (r s : Ordering) → is_eq s ≡ false → ordering_then r s ≡ Equal → ⊥
    same Less s e h = false≢true (ap is_eq h)
    same Equal s e h = false≢true (sym e ∙ ap is_eq h)
    same Greater s e h = false≢true (ap is_eq h)

    go : (r : Ordering) → rank_cmp x y ≡ r → (is_senior x y ≡ true) ⊎ (is_senior y x ≡ true)
    go Less e = inl (ap is_lt e)
    go Equal e = absurd (same (place_cmp x.since y.since) (place_cmp x.place y.place) fails e)
    go Greater e = inr (ap is_lt (rank-total.antisymm y x ∙ ap ordering_reverse e))

apart : (acts : List Striker) → IsDistinct (eq_by_cmp place_cmp) (map (λ a. a.place) acts) → AreApart is_senior acts
unfolding IsDistinct
apart [] h = tt
apart (x ∷ xs) h = (all xs h.0, apart xs h.1)
  where
    all : (ys : List Striker) → AllByRecursion (λ p. eq_by_cmp place_cmp x.place p ≡ false) (map (λ a. a.place) ys) → AllByRecursion (λ y. (is_senior x y ≡ true) ⊎ (is_senior y x ≡ true)) ys
    all [] k = tt
    all (y ∷ ys) k = (differ x y k.0, all ys k.1)

pub ranks-strict : RanksAreStrict
ranks-strict = record { strict = strict; apart = λ acts pairs are. apart acts are.places }
