-- A name or a scope among others, in the words of a search and in those of the definitions.
use Rattle.std.proofs.Common.{◌≡◌, Bool, true, false, ◌&&◌, ◌||◌, List, [], ◌∷◌, refl, ap}
use Rattle.std.specs.List.{list_any}
use Rattle.std.specs.Cmp.{eq_by_cmp_equiv}
use Rattle.std.specs.Cmp.Lexicographic.{nat_list_eq_equiv}
use Rattle.team_sets.specs.Closure.{has}
use Rattle.team_sets.specs.Names.{Name, has_name, same_name}
use Rattle.tg_text.specs.declared.keys.Scope.{Scope}
use Rattle.key_reach.specs.Keys.{same_scope}
use Rattle.team_state.proofs.Scopes.{scopes-total}

pub any_names : (names : List Name) (n : Name) → list_any (λ m. same_name m n) names ≡ has_name names n
any_names [] n = refl
any_names (m ∷ ms) n = ap (λ b. same_name m n || b) (any_names ms n)

-- the other way round
pub any_contained : (names : List Name) (n : Name) → list_any (λ m. same_name n m) names ≡ has_name names n
any_contained [] n = refl
any_contained (m ∷ ms) n = rw (nat_list_eq_equiv.symm n m, any_contained ms n) refl

pub any_scopes : (scopes : List Scope) (s : Scope) → list_any (λ t. same_scope t s) scopes ≡ has same_scope scopes s
any_scopes [] s = refl
any_scopes (t ∷ ts) s = rw ((eq_by_cmp_equiv scopes-total).symm t s, any_scopes ts s) refl

-- the same conditions in another order
pub listed_first : (listed same user : Bool) → (listed && same && user) ≡ (same && (listed && user))
listed_first true true user = refl
listed_first true false user = refl
listed_first false true user = refl
listed_first false false user = refl

pub and_turned : (a b : Bool) → (a && b) ≡ (b && a)
and_turned true true = refl
and_turned true false = refl
and_turned false true = refl
and_turned false false = refl
