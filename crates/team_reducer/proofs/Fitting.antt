-- Tests on lines, in the words of the code and in those of the definitions.
use Rattle.std.proofs.Common.{◌≡◌, ◌<◌, ℕ, zero, suc, Bool, true, false, not, ◌&&◌, ◌||◌, List, [], ◌∷◌, get_or, length, map, Some, None, refl, sym, ◌∙◌, ap, subst, inl, inr, arith}
use Rattle.std.specs.List.{list_any}
use Rattle.std.proofs.lemmas.Bool.{false≢true}
use Rattle.team_sets.specs.Members.{IsIn}
use Rattle.team_sets.proofs.Agree.{any_in, same_answer}
use Rattle.team_sets.proofs.Decisions.{find_none, find_of}
use Rattle.team_sets.proofs.OrderLeast.{in_filter, of_filter}
use Rattle.team_sets.proofs.Pasts.{any_of}
use Rattle.tg_text.specs.declared.keys.KeyId.{KeyId}
use Rattle.tg_text.specs.declared.keys.Scope.{Scope}
use Rattle.key_reach.specs.Keys.{is_tainted, keys_of, same_scope}
use Rattle.team_model.specs.KeyLines.{wants_key}
use Rattle.team_model.specs.KeyTables.{all_keys, current_key, key_table}
use Rattle.team_model.specs.State.{State}

pub any-map : {A B : Type 0} (p : B → Bool) (f : A → B) (xs : List A) → list_any p (map f xs) ≡ list_any (λ x. p (f x)) xs
any-map p f [] = refl
any-map p f (x ∷ xs) = ap (λ b. p (f x) || b) (any-map p f xs)

-- what stands at a place of a list is in it
pub item-in : {A : Type 0} (xs : List A) (i : ℕ) (x : A) → i < length xs → x ≡ get_or xs i x → IsIn x xs
item-in [] i x lt e = absurd (omega (arith, lt))
item-in (y ∷ ys) zero x lt e = inl (sym e)
item-in (y ∷ ys) (suc i) x lt e = inr (item-in ys i x (omega (arith, lt)) e)

pub regrouped : (a b c d r : Bool) → ((a && (b && (c && d))) && r) ≡ (a && (b && (c && (d && r))))
regrouped true true true true r = refl
regrouped true true true false r = refl
regrouped true true false d r = refl
regrouped true false c d r = refl
regrouped false b c d r = refl

module _ (s : State) (c : Scope) where
  abbrev is_of_scope : KeyId → Bool
  is_of_scope k = same_scope k.scope c

  pub wants-absent : current_key s c ≡ None → wants_key s c ≡ true
  wants-absent e = ap (λ b. not b || list_any (is_tainted (key_table s)) (keys_of (key_table s) c)) none
    where
      none : list_any is_of_scope (all_keys s) ≡ false
      none = same_answer (list_any is_of_scope (all_keys s)) false
          (λ h. let k = any_of is_of_scope (all_keys s) h in sym (find_none is_of_scope (all_keys s) e k.0 k.1) ∙ k.2) (λ h. absurd (false≢true h))

  pub wants-found : (k : KeyId) → current_key s c ≡ Some k → ((j : KeyId) → IsIn j (all_keys s) → same_scope j.scope c ≡ true → current_key s c ≡ Some j)
      → wants_key s c ≡ is_tainted (key_table s) k
  wants-found k e only = (λ i. not (here i) || list_any (is_tainted (key_table s)) (keys_of (key_table s) c)) ∙ alone
    where
      its : IsIn k (all_keys s) × (is_of_scope k ≡ true)
      its = find_of is_of_scope (all_keys s) k e

      here : list_any is_of_scope (all_keys s) ≡ true
      here = any_in is_of_scope (all_keys s) k its.0 its.1

      alone : list_any (is_tainted (key_table s)) (keys_of (key_table s) c) ≡ is_tainted (key_table s) k
      alone = same_answer (list_any (is_tainted (key_table s)) (keys_of (key_table s) c)) (is_tainted (key_table s) k) forth
          (λ h. any_in (is_tainted (key_table s)) (keys_of (key_table s) c) k (in_filter is_of_scope k (all_keys s) its.0 its.1) h)
        where
          forth : list_any (is_tainted (key_table s)) (keys_of (key_table s) c) ≡ true → is_tainted (key_table s) k ≡ true
          forth h =
              let j = any_of (is_tainted (key_table s)) (keys_of (key_table s) c) h in
              let f = of_filter is_of_scope j.0 (all_keys s) j.1 in
              let same : Some k ≡ Some j.0 = sym e ∙ only j.0 f.0 f.1 in
              let is : j.0 ≡ k = cc in
              subst (λ i. is_tainted (key_table s) i ≡ true) is j.2
