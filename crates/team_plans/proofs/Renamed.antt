-- Keys in the places of others.
use Rattle.std.proofs.Common.{◌≡◌, Bool, true, false, cond, List, [], ◌∷◌, length, map, refl, sym, ◌∙◌, ap, subst, arith}
use Rattle.std.specs.List.Sorted.{IsStrictlySortedBy}
use Rattle.std.specs.declared.cmp.Ordering.TheVariants.{Less}
use Rattle.std.proofs.lemmas.Bool.{false_from_ne_true, or_parts}
use Rattle.team_sets.specs.Closure.{has}
use Rattle.team_sets.specs.Members.{IsIn}
use Rattle.team_sets.proofs.Pasts.{all_at}
use Rattle.tg_text.specs.Order.{scope_cmp}
use Rattle.tg_text.specs.declared.keys.KeyId.{KeyId}
use Rattle.tg_text.specs.declared.keys.Scope.{Scope}
use Rattle.tg_text.specs.declared.keys.Scope.TheVariants.{Team}
use Rattle.key_reach.specs.Keys.{same_key}
use Rattle.key_reach.proofs.Equal.{key-is, key-same}
use Rattle.key_reach.proofs.Meeting.{scope-same}
use Rattle.key_reach.proofs.Numbered.{in-map}
use Rattle.team_plans.specs.Renaming.{renamed}
use Rattle.team_plans.proofs.AllTaken.{not_less}
use Rattle.team_plans.proofs.Mapped.{map_alike}

abbrev pub scopes_in : List KeyId → List Scope
scopes_in ks = map (λ (k : KeyId). k.scope) ks

abbrev first_scope : List Scope → Scope
first_scope [] = Team
first_scope (c ∷ cs) = c

abbrev other_scopes : List Scope → List Scope
other_scopes [] = []
other_scopes (c ∷ cs) = cs

pub renamed_other : (os ns : List KeyId) (k : KeyId) → has same_key os k ≡ false → renamed os ns k ≡ k
renamed_other [] ns k h = refl
renamed_other (o ∷ os) [] k h = refl
renamed_other (o ∷ os) (n ∷ ns) k h =
    let parts = or_parts (same_key k o) (has same_key os k) h in
    ap (λ b. cond b n (renamed os ns k)) parts.0 ∙ renamed_other os ns k parts.1

pub renamed_scope : (os ns : List KeyId) → scopes_in os ≡ scopes_in ns → (k : KeyId) → (renamed os ns k).scope ≡ k.scope
renamed_scope [] ns same k = refl
renamed_scope (o ∷ os) [] same k = refl
renamed_scope (o ∷ os) (n ∷ ns) same k = go (same_key k o) refl (renamed_scope os ns (ap other_scopes same) k)
  where
    go : (b : Bool) → same_key k o ≡ b → (renamed os ns k).scope ≡ k.scope → (cond b n (renamed os ns k)).scope ≡ k.scope
    go true e more = sym (ap first_scope same) ∙ ap (λ (j : KeyId). j.scope) (sym (key-is k o e))
    go false e more = more

pub renamed_all : (os ns : List KeyId) → length os ≡ length ns → IsStrictlySortedBy scope_cmp (scopes_in os) → map (renamed os ns) os ≡ ns
unfolding IsStrictlySortedBy
renamed_all [] [] each up = refl
renamed_all [] (n ∷ ns) each up = absurd (omega (arith, each))
renamed_all (o ∷ os) [] each up = absurd (omega (arith, each))
renamed_all (o ∷ os) (n ∷ ns) each up = λ i. head i ∷ (map_alike (renamed (o ∷ os) (n ∷ ns)) (renamed os ns) os later ∙ renamed_all os ns (omega (arith, each)) up.1) i
  where
    head : cond (same_key o o) n (renamed os ns o) ≡ n
    head = ap (λ b. cond b n (renamed os ns o)) (key-same o)

    apart : (x : KeyId) → IsIn x os → same_key x o ≡ false
    apart x j = false_from_ne_true (same_key x o) (λ h.
        let less = all_at (λ c. scope_cmp o.scope c ≡ Less) (scopes_in os) up.0 x.scope (in-map (λ (k : KeyId). k.scope) x os j) in
        not_less (scope_cmp o.scope o.scope) (scope-same o.scope) (subst (λ (k : KeyId). scope_cmp o.scope k.scope ≡ Less) (key-is x o h) less))

    later : (x : KeyId) → IsIn x os → cond (same_key x o) n (renamed os ns x) ≡ renamed os ns x
    later x j = ap (λ b. cond b n (renamed os ns x)) (apart x j)
