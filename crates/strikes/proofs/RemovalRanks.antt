-- Seniority tells lawful removals apart, so each stands unless a more senior one takes it out.
use Rattle.std.proofs.Common.{◌≡◌, true, not, ◌&&◌, ◌||◌, List, [], ◌∷◌, refl, sym, ◌∙◌, ap, inl, inr, ◌⊎◌, is_none}
use Rattle.std.specs.Cmp.{IsTotalOrder}
use Rattle.std.specs.Cmp.Lexicographic.{nat_list_cmp_total, slice_cmp}
use Rattle.std.specs.List.{AllByRecursion}
use Rattle.std.specs.Ordering.{is_lt, nat_cmp, ordering_then, ordering_reverse}
use Rattle.std.specs.declared.cmp.Ordering.{Ordering}
use Rattle.std.specs.declared.cmp.Ordering.TheVariants.{Less, Equal, Greater}
use Rattle.std.proofs.lemmas.Bool.{false≢true}
use Rattle.std.proofs.lemmas.Cmp.{on_total, then_total}
use Rattle.team_sets.specs.Names.{name_lt}
use Rattle.team_sets.specs.Members.{IsIn}
use Rattle.team_sets.specs.Settlement.{standing}
use Rattle.team_sets.specs.OrderLaws.{IsSet, NamesDiffer}
use Rattle.team_sets.specs.SortedLaws.{AreApart, IsStrict}
use Rattle.team_sets.proofs.Ancestors.{order_first}
use Rattle.team_sets.proofs.Arrivals.{first_set}
use Rattle.team_sets.proofs.Sorted.{set-apart}
use Rattle.team_sets.proofs.SameSet.{set-filter}
use Rattle.team_model.specs.Strikes.{is_striking}
use Rattle.team_model.specs.Judging.{Rules, name_of, prev_of, order_of, place_of, is_senior, seniority, strikers, lawful, strikes_among, unlawful_reason}
use Rattle.team_model.specs.declared.terms.Link.{Link}
use Rattle.settlement.specs.SeniorLaws.{IsUnmet, TakesOut}
use Rattle.settlement.proofs.Seniors.{stands-unless}
use Rattle.strikes.proofs.PlaceOrder.{both-equal, less, place_cmp, place-total}
use Rattle.strikes.specs.RemovalLaws.{IsTakenOutBy, SeniorStands, standing_removals}

module _ (links law : List Link) where
  abbrev rank_cmp : Link → Link → Ordering
  rank_cmp x y = ordering_then (place_cmp (seniority links law x.entry.user) (seniority links law y.entry.user)) (place_cmp (place_of links x) (place_of links y))

  rank-total : IsTotalOrder rank_cmp
  rank-total = then_total (on_total (λ (x : Link). seniority links law x.entry.user) place-total) (on_total (λ (x : Link). place_of links x) place-total)

  by-rank : (x y : Link) → is_senior links law x y ≡ is_lt (rank_cmp x y)
  by-rank x y =
      go (place_cmp (seniority links law x.entry.user) (seniority links law y.entry.user)) (place_cmp (seniority links law y.entry.user) (seniority links law x.entry.user))
      (place_cmp (place_of links x) (place_of links y)) (place-total.antisymm (seniority links law y.entry.user) (seniority links law x.entry.user))
    where
      go : (r t s : Ordering) → t ≡ ordering_reverse r → (is_lt r || (not (is_lt t) && is_lt s)) ≡ is_lt (ordering_then r s)
      go Less t s e = refl
      go Equal t s e = rw e refl
      go Greater t s e = rw e refl

  pub strict : IsStrict (is_senior links law)
  strict = record {
    asymmetric = λ x y h. by-rank y x ∙ ap is_lt (rank-total.antisymm y x ∙ ap ordering_reverse (less (rank_cmp x y) (sym (by-rank x y) ∙ h)));
    transitive = λ x y z h k. by-rank x z ∙ ap is_lt (rank-total.trans x y z (less (rank_cmp x y) (sym (by-rank x y) ∙ h)) (less (rank_cmp y z) (sym (by-rank y z) ∙ k)));
  }

  -- links of different names have different ranks
  differ-rank : (x y : Link) → (name_lt x.name y.name ≡ true) ⊎ (name_lt y.name x.name ≡ true) → (is_senior links law x y ≡ true) ⊎ (is_senior links law y x ≡ true)
  differ-rank x y named = go (rank_cmp x y) refl
    where
      same : rank_cmp x y ≡ Equal → ⊥
      same e =
          let places = (both-equal (place_cmp (seniority links law x.entry.user) (seniority links law y.entry.user)) (place_cmp (place_of links x) (place_of links y)) e).1 in
          let names : slice_cmp nat_cmp x.name y.name ≡ Equal = (both-equal (nat_cmp (place_of links x).0 (place_of links y).0) (slice_cmp nat_cmp x.name y.name) places).1 in
          either named names
        where
          either : (name_lt x.name y.name ≡ true) ⊎ (name_lt y.name x.name ≡ true) → slice_cmp nat_cmp x.name y.name ≡ Equal → ⊥
          either (inl h) k = false≢true (sym (ap is_lt k) ∙ h)
          either (inr h) k = false≢true (sym (ap is_lt (nat_list_cmp_total.antisymm y.name x.name ∙ ap ordering_reverse k)) ∙ h)

      go : (r : Ordering) → rank_cmp x y ≡ r → (is_senior links law x y ≡ true) ⊎ (is_senior links law y x ≡ true)
      go Less e = inl (by-rank x y ∙ ap is_lt e)
      go Equal e = absurd (same e)
      go Greater e = inr (by-rank y x ∙ ap is_lt (rank-total.antisymm y x ∙ ap ordering_reverse e))

  apart : (xs : List Link) → AreApart (λ (a b : Link). name_lt a.name b.name) xs → AreApart (is_senior links law) xs
  apart [] h = tt
  apart (x ∷ xs) h = (all xs h.0, apart xs h.1)
    where
      all : (ys : List Link) → AllByRecursion (λ (y : Link). (name_lt x.name y.name ≡ true) ⊎ (name_lt y.name x.name ≡ true)) ys
          → AllByRecursion (λ y. (is_senior links law x y ≡ true) ⊎ (is_senior links law y x ≡ true)) ys
      all [] k = tt
      all (y ∷ ys) k = (differ-rank x y k.0, all ys k.1)

-- seniority tells the lawful removals apart
pub removals-apart : (rules : Rules) (links : List Link) → NamesDiffer name_of links → AreApart (is_senior links (lawful rules links)) (strikers links (lawful rules links))
removals-apart rules links differ = apart links (lawful rules links) (strikers links (lawful rules links)) (set-apart name_of (strikers links (lawful rules links)) set)
  where
    set : IsSet name_of (strikers links (lawful rules links))
    set = set-filter name_of (λ x. is_striking x.entry.act) (lawful rules links) (set-filter name_of (λ x. is_none (unlawful_reason rules links x)) (order_of links) (first_set name_of prev_of [] (order_of links) (order_first name_of prev_of links differ)))

pub senior-stands : SeniorStands
senior-stands rules links differ x k =
    go (stands-unless (is_senior links (lawful rules links)) (strikes_among rules.device_of links) (strict links (lawful rules links)) (strikers links (lawful rules links)) (removals-apart rules links differ) x k)
  where
    go : (IsIn x (standing (is_senior links (lawful rules links)) (strikes_among rules.device_of links) (strikers links (lawful rules links))) × IsUnmet (is_senior links (lawful rules links)) (strikes_among rules.device_of links) (strikers links (lawful rules links)) x)
        ⊎ ((s : Link) × TakesOut (is_senior links (lawful rules links)) (strikes_among rules.device_of links) (strikers links (lawful rules links)) x s)
        → IsIn x (standing_removals rules links) ⊎ ((s : Link) × IsTakenOutBy rules links x s)
    go (inl r) = inl r.0
    go (inr r) = inr (r.0, record { stands = r.1.stands; outranks = r.1.outranks; meets = r.1.meets })
