-- The order of keys tells all keys apart.
use Rattle.std.proofs.Common.{◌≡◌, ℕ, true, refl, sym, ap, subst}
use Rattle.std.specs.Ordering.{is_eq, nat_cmp, ordering_then}
use Rattle.std.specs.Cmp.Lexicographic.{slice_cmp}
use Rattle.std.specs.Cmp.{nat_cmp_is}
use Rattle.std.specs.FinMap.{nat_cmp-IsAntisymmetric}
use Rattle.std.specs.declared.cmp.Ordering.{Ordering}
use Rattle.std.specs.declared.cmp.Ordering.TheVariants.{Less, Equal, Greater}
use Rattle.std.proofs.lemmas.Bool.{false≢true}
use Rattle.tg_text.specs.Order.{scope_cmp}
use Rattle.tg_text.specs.declared.keys.KeyId.{KeyId}
use Rattle.key_reach.specs.Keys.{same_key}
use Rattle.key_reach.proofs.Meeting.{names_same, names_equal, scope-is, scope-same}

is_equal : (r : Ordering) → is_eq r ≡ true → r ≡ Equal
is_equal Less e = absurd (false≢true e)
is_equal Equal e = refl
is_equal Greater e = absurd (false≢true e)

both_equal : (r s : Ordering) → is_eq (ordering_then r s) ≡ true → (is_eq r ≡ true) × (is_eq s ≡ true)
both_equal Less s e = absurd (false≢true e)
both_equal Equal s e = (refl, e)
both_equal Greater s e = absurd (false≢true e)

equal_both : (r s : Ordering) → is_eq r ≡ true → is_eq s ≡ true → is_eq (ordering_then r s) ≡ true
equal_both Less s e f = absurd (false≢true e)
equal_both Equal s e f = f
equal_both Greater s e f = absurd (false≢true e)

number_equal : (n : ℕ) → is_eq (nat_cmp n n) ≡ true
number_equal n = sym (ap is_eq (nat_cmp_is n n Equal refl))

pub key-is : (a b : KeyId) → same_key a b ≡ true → a ≡ b
key-is a b h =
    let first = both_equal (scope_cmp a.scope b.scope) (ordering_then (nat_cmp a.generation b.generation) (slice_cmp nat_cmp a.public b.public)) h in
    let rest = both_equal (nat_cmp a.generation b.generation) (slice_cmp nat_cmp a.public b.public) first.1 in
    let scopes = scope-is a.scope b.scope first.0 in
    let generations = nat_cmp-IsAntisymmetric a.generation b.generation (is_equal (nat_cmp a.generation b.generation) rest.0) in
    let publics = names_same a.public b.public rest.1 in
    λ i. record { scope = scopes i; generation = generations i; public = publics i }

pub key-same : (a : KeyId) → same_key a a ≡ true
key-same a =
    equal_both (scope_cmp a.scope a.scope) (ordering_then (nat_cmp a.generation a.generation) (slice_cmp nat_cmp a.public a.public)) (scope-same a.scope)
    (equal_both (nat_cmp a.generation a.generation) (slice_cmp nat_cmp a.public a.public) (number_equal a.generation) (names_equal a.public))

pub key-decides : (x y : KeyId) → (same_key x y ≡ true → x ≡ y) × (x ≡ y → same_key x y ≡ true)
key-decides x y = (key-is x y, λ e. subst (λ z. same_key x z ≡ true) e (key-same x))
