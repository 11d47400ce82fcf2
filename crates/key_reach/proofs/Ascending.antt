-- What a team lacks and what it owes stand in order.
use Rattle.std.proofs.Common.{◌≡◌, true, List, [], ◌∷◌, ◌++◌, refl, ap, subst, inl, inr, ◌⊎◌, map, filter, flat_map, not}
use Rattle.std.specs.List.{AllByRecursion}
use Rattle.std.specs.List.Sorted.{IsStrictlySortedBy}
use Rattle.std.specs.Ordering.{is_eq, nat_cmp, ordering_then}
use Rattle.std.specs.Cmp.Lexicographic.{slice_cmp}
use Rattle.std.specs.declared.cmp.Ordering.{Ordering}
use Rattle.std.specs.declared.cmp.Ordering.TheVariants.{Less, Equal, Greater}
use Rattle.std.proofs.lemmas.Bool.{false≢true}
use Rattle.std.proofs.lemmas.List.Kept.{IsStrictlySortedBy-filter}
use Rattle.team_sets.specs.Names.{Name}
use Rattle.team_sets.specs.Members.{IsIn}
use Rattle.tg_text.specs.Order.{key_cmp, scope_cmp}
use Rattle.tg_text.specs.declared.keys.Scope.{Scope}
use Rattle.tg_text.specs.declared.keys.Scope.TheVariants.{Team, Role, User, Device}
use Rattle.tg_text.specs.declared.keys.KeyId.{KeyId}
use Rattle.key_reach.specs.declared.debt.Debt.{Debt}
use Rattle.key_reach.specs.declared.debt.Debt.TheVariants.{NoKey, Tainted, Unreached}
use Rattle.key_reach.specs.Debts.{debt_cmp, debts, device_names, device_of, is_unreached, is_without_key, no_keys, tainted_of, unreached_of}
use Rattle.key_reach.specs.Keys.{Table, clean, current_keys, is_tainted, lacks, lacks_box, lacks_to}
use Rattle.key_reach.specs.Laws.{IsOrdered}
use Rattle.key_reach.specs.Lists.{pair_cmp}
use Rattle.key_reach.proofs.Currents.{current-ascends, of-flat, sorted-append, sorted-flat}
use Rattle.key_reach.proofs.Equal.{key-same}
use Rattle.key_reach.proofs.Numbered.{of-map}
use Rattle.key_reach.proofs.Members.{in-either}

-- what ascends still does when each is changed by what keeps the order
sorted-map : {A B : Type 0} (under : A → A → Ordering) (cmp : B → B → Ordering) (f : A → B) → ((x y : A) → under x y ≡ Less → cmp (f x) (f y) ≡ Less)
    → (xs : List A) → IsStrictlySortedBy under xs → IsStrictlySortedBy cmp (map f xs)
unfolding IsStrictlySortedBy
sorted-map under cmp f keeps [] up = tt
sorted-map under cmp f keeps (x ∷ xs) up = (all xs up.0, sorted-map under cmp f keeps xs up.1)
  where
    all : (ys : List _) → AllByRecursion (λ y. under x y ≡ Less) ys → AllByRecursion (λ y. cmp (f x) y ≡ Less) (map f ys)
    all [] h = tt
    all (y ∷ ys) h = (keeps x y h.0, all ys h.1)

same-first : (r s : Ordering) → is_eq r ≡ true → s ≡ Less → ordering_then r s ≡ Less
same-first Less s e less = absurd (false≢true e)
same-first Equal s e less = less
same-first Greater s e less = absurd (false≢true e)

pair-first : (a b : KeyId × KeyId) → key_cmp a.0 b.0 ≡ Less → pair_cmp a b ≡ Less
pair-first a b less = ap (λ r. ordering_then r (key_cmp a.1 b.1)) less

module _ (t : Table) (law : IsOrdered t) where
  clean-ascends : IsStrictlySortedBy key_cmp (clean t)
  clean-ascends = IsStrictlySortedBy-filter key_cmp (λ k. not (is_tainted t k)) (current_keys t) (current-ascends t law)

  pub lacks-ascend : IsStrictlySortedBy pair_cmp (lacks t)
  lacks-ascend = sorted-flat key_cmp pair_cmp (lacks_to t (clean t)) (clean t) clean-ascends each cross
    where
      each : (to : KeyId) → IsIn to (clean t) → IsStrictlySortedBy pair_cmp (lacks_to t (clean t) to)
      each to k =
          sorted-map key_cmp pair_cmp (λ of. (to, of)) (λ a b less. same-first (key_cmp to to) (key_cmp a b) (key-same to) less) (filter (lacks_box t to) (clean t))
          (IsStrictlySortedBy-filter key_cmp (lacks_box t to) (clean t) clean-ascends)

      cross : (to other : KeyId) (a b : KeyId × KeyId) → key_cmp to other ≡ Less → IsIn a (lacks_to t (clean t) to) → IsIn b (lacks_to t (clean t) other) → pair_cmp a b ≡ Less
      cross to other a b less k j =
          let first = of-map (λ of. (to, of)) a (filter (lacks_box t to) (clean t)) k in
          let second = of-map (λ of. (other, of)) b (filter (lacks_box t other) (clean t)) j in
          pair-first a b (subst (λ x. key_cmp x b.0 ≡ Less) (ap (λ p. p.0) first.2) (subst (λ y. key_cmp to y ≡ Less) (ap (λ p. p.0) second.2) less))

  devices-ascend : IsStrictlySortedBy (slice_cmp nat_cmp) (device_names t)
  unfolding IsStrictlySortedBy
  devices-ascend = sorted-flat scope_cmp (slice_cmp nat_cmp) device_of t.scopes law.ascends each cross
    where
      each : (s : Scope) → IsIn s t.scopes → IsStrictlySortedBy (slice_cmp nat_cmp) (device_of s)
      each Team k = tt
      each (Role r) k = tt
      each (User u) k = tt
      each (Device d) k = (tt, tt)

      cross : (s u : Scope) (a b : Name) → scope_cmp s u ≡ Less → IsIn a (device_of s) → IsIn b (device_of u) → slice_cmp nat_cmp a b ≡ Less
      cross Team u a b less k j = absurd k
      cross (Role r) u a b less k j = absurd k
      cross (User r) u a b less k j = absurd k
      cross (Device d) Team a b less k j = absurd j
      cross (Device d) (Role r) a b less k j = absurd j
      cross (Device d) (User r) a b less k j = absurd j
      cross (Device d) (Device e) a b less (inl p) (inl q) = subst (λ x. slice_cmp nat_cmp x b ≡ Less) p (subst (λ y. slice_cmp nat_cmp d y ≡ Less) q less)
      cross (Device d) (Device e) a b less (inl p) (inr j) = absurd j
      cross (Device d) (Device e) a b less (inr k) j = absurd k

  no-keys-ascend : IsStrictlySortedBy debt_cmp (no_keys t)
  no-keys-ascend = sorted-map scope_cmp debt_cmp (λ s. NoKey s) (λ a b less. less) (filter (is_without_key t) t.scopes) (IsStrictlySortedBy-filter scope_cmp (is_without_key t) t.scopes law.ascends)

  tainted-ascend : IsStrictlySortedBy debt_cmp (tainted_of t (current_keys t))
  tainted-ascend = sorted-map key_cmp debt_cmp (λ k. Tainted k) (λ a b less. less) (filter (is_tainted t) (current_keys t)) (IsStrictlySortedBy-filter key_cmp (is_tainted t) (current_keys t) (current-ascends t law))

  unreached-ascend : IsStrictlySortedBy debt_cmp (flat_map (unreached_of t (device_names t)) (current_keys t))
  unreached-ascend = sorted-flat key_cmp debt_cmp (unreached_of t (device_names t)) (current_keys t) (current-ascends t law) each cross
    where
      each : (k : KeyId) → IsIn k (current_keys t) → IsStrictlySortedBy debt_cmp (unreached_of t (device_names t) k)
      each k j =
          sorted-map (slice_cmp nat_cmp) debt_cmp (λ d. Unreached k d) (λ a b less. same-first (key_cmp k k) (slice_cmp nat_cmp a b) (key-same k) less) (filter (is_unreached t k) (device_names t))
          (IsStrictlySortedBy-filter (slice_cmp nat_cmp) (is_unreached t k) (device_names t) devices-ascend)

      cross : (k l : KeyId) (a b : Debt) → key_cmp k l ≡ Less → IsIn a (unreached_of t (device_names t) k) → IsIn b (unreached_of t (device_names t) l) → debt_cmp a b ≡ Less
      cross k l a b less i j =
          let first = of-map (λ d. Unreached k d) a (filter (is_unreached t k) (device_names t)) i in
          let second = of-map (λ d. Unreached l d) b (filter (is_unreached t l) (device_names t)) j in
          subst (λ x. debt_cmp x b ≡ Less) first.2 (subst (λ y. debt_cmp (Unreached k first.0) y ≡ Less) second.2 (ap (λ r. ordering_then r (slice_cmp nat_cmp first.0 second.0)) less))

  pub debts-ascend : IsStrictlySortedBy debt_cmp (debts t)
  debts-ascend =
      sorted-append debt_cmp (no_keys t) (tainted_of t (current_keys t) ++ flat_map (unreached_of t (device_names t)) (current_keys t)) no-keys-ascend
      (sorted-append debt_cmp (tainted_of t (current_keys t)) (flat_map (unreached_of t (device_names t)) (current_keys t)) tainted-ascend unreached-ascend later) first
    where
      later : (a b : Debt) → IsIn a (tainted_of t (current_keys t)) → IsIn b (flat_map (unreached_of t (device_names t)) (current_keys t)) → debt_cmp a b ≡ Less
      later a b i j =
          let key = of-map (λ k. Tainted k) a (filter (is_tainted t) (current_keys t)) i in
          let other = of-flat (unreached_of t (device_names t)) (current_keys t) b j in
          let device = of-map (λ d. Unreached other.0 d) b (filter (is_unreached t other.0) (device_names t)) other.2 in
          subst (λ x. debt_cmp x b ≡ Less) key.2 (subst (λ y. debt_cmp (Tainted key.0) y ≡ Less) device.2 refl)

      first : (a b : Debt) → IsIn a (no_keys t) → IsIn b (tainted_of t (current_keys t) ++ flat_map (unreached_of t (device_names t)) (current_keys t)) → debt_cmp a b ≡ Less
      first a b i j =
          let scope = of-map (λ s. NoKey s) a (filter (is_without_key t) t.scopes) i in
          subst (λ x. debt_cmp x b ≡ Less) scope.2 (go scope.0 (in-either (tainted_of t (current_keys t)) (flat_map (unreached_of t (device_names t)) (current_keys t)) b j))
        where
          go : (s : Scope) → IsIn b (tainted_of t (current_keys t)) ⊎ IsIn b (flat_map (unreached_of t (device_names t)) (current_keys t)) → debt_cmp (NoKey s) b ≡ Less
          go s (inl k) = let key = of-map (λ k. Tainted k) b (filter (is_tainted t) (current_keys t)) k in subst (λ y. debt_cmp (NoKey s) y ≡ Less) key.2 refl
          go s (inr k) =
              let other = of-flat (unreached_of t (device_names t)) (current_keys t) b k in
              let device = of-map (λ d. Unreached other.0 d) b (filter (is_unreached t other.0) (device_names t)) other.2 in
              subst (λ y. debt_cmp (NoKey s) y ≡ Less) device.2 refl
