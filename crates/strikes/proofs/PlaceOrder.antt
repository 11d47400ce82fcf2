-- Places are in a total order: by height, and then by name.
use Rattle.std.proofs.Common.{◌≡◌, ℕ, true, false, refl, sym, ◌∙◌, ap}
use Rattle.std.specs.Cmp.{IsTotalOrder, nat_cmp_total}
use Rattle.std.specs.Cmp.Lexicographic.{bytes_decides, nat_list_cmp_total, slice_cmp, texts_ties}
use Rattle.std.specs.FinMap.{nat_cmp-IsAntisymmetric}
use Rattle.std.specs.Ordering.{is_eq, is_lt, nat_cmp, ordering_then, ordering_reverse}
use Rattle.std.specs.declared.cmp.Ordering.{Ordering}
use Rattle.std.specs.declared.cmp.Ordering.TheVariants.{Less, Equal, Greater}
use Rattle.std.proofs.lemmas.Bool.{false≢true}
use Rattle.std.proofs.lemmas.Cmp.{on_total, then_total}
use Rattle.team_sets.specs.Names.{Name}
use Rattle.team_sets.specs.Places.{place_lt}

abbrev pub place_cmp : ℕ × Name → ℕ × Name → Ordering
place_cmp a b = ordering_then (nat_cmp a.0 b.0) (slice_cmp nat_cmp a.1 b.1)

pub place-total : IsTotalOrder place_cmp
place-total = then_total (on_total (λ (p : ℕ × Name). p.0) nat_cmp_total) (on_total (λ (p : ℕ × Name). p.1) nat_list_cmp_total)

pub less : (r : Ordering) → is_lt r ≡ true → r ≡ Less
less Less e = refl
less Equal e = absurd (false≢true e)
less Greater e = absurd (false≢true e)

pub both-equal : (r s : Ordering) → ordering_then r s ≡ Equal → (r ≡ Equal) × (s ≡ Equal)
both-equal Less s h = absurd (false≢true (ap is_eq h))
both-equal Equal s h = (refl, h)
both-equal Greater s h = absurd (false≢true (ap is_eq h))

-- of two places that differ, one is smaller
pub same-place : (p q : ℕ × Name) → place_lt p q ≡ false → place_lt q p ≡ false → p ≡ q
same-place p q ahead back = go (place_cmp p q) refl
  where
    go : (r : Ordering) → place_cmp p q ≡ r → p ≡ q
    go Less e = absurd (false≢true (sym ahead ∙ ap is_lt e))
    go Equal e =
        let ties = both-equal (nat_cmp p.0 q.0) (slice_cmp nat_cmp p.1 q.1) e in
        let heights : p.0 ≡ q.0 = nat_cmp-IsAntisymmetric p.0 q.0 ties.0 in
        let names : p.1 ≡ q.1 = (bytes_decides p.1 q.1).0 (texts_ties p.1 q.1 ∙ ap is_eq ties.1) in
        λ i. (heights i, names i)
    go Greater e = absurd (false≢true (sym back ∙ ap is_lt (place-total.antisymm q p ∙ ap ordering_reverse e)))

-- the smaller of two places isn't also the greater
pub not-both : (p q : ℕ × Name) → place_lt p q ≡ true → place_lt q p ≡ false
not-both p q h = ap is_lt (place-total.antisymm q p ∙ ap ordering_reverse (less (place_cmp p q) h))
