-- The current keys of live scopes are the known keys that are live, in the order of keys.
use Rattle.std.proofs.Common.{◌≡◌, Bool, true, false, cond, List, [], ◌∷◌, ◌++◌, refl, sym, ◌∙◌, ap, subst, inl, inr, ◌⊎◌, map, filter, flat_map}
use Rattle.std.specs.List.{AllByRecursion, IsDistinct}
use Rattle.std.specs.List.Sorted.{IsStrictlySortedBy}
use Rattle.std.specs.Cmp.{IsTotalOrder}
use Rattle.std.specs.Ordering.{is_lt, ordering_reverse, ordering_then, nat_cmp}
use Rattle.std.specs.Cmp.Lexicographic.{slice_cmp}
use Rattle.std.specs.declared.cmp.Ordering.{Ordering}
use Rattle.std.specs.declared.cmp.Ordering.TheVariants.{Less, Equal, Greater}
use Rattle.std.proofs.lemmas.Bool.{false≢true}
use Rattle.std.proofs.lemmas.List.Kept.{IsStrictlySortedBy-filter}
use Rattle.team_sets.specs.Members.{IsIn}
use Rattle.team_sets.specs.Closure.{has}
use Rattle.team_sets.specs.SortedLaws.{IsStrict, IsAscending}
use Rattle.team_sets.proofs.Agree.{any_in}
use Rattle.team_sets.proofs.OrderLeast.{in_filter, of_filter}
use Rattle.team_sets.proofs.Pasts.{any_of, all_at}
use Rattle.team_sets.proofs.Sorted.{all_of, ascending-one}
use Rattle.tg_text.specs.Order.{key_cmp, scope_cmp}
use Rattle.tg_text.specs.declared.keys.Scope.{Scope}
use Rattle.tg_text.specs.declared.keys.KeyId.{KeyId}
use Rattle.key_reach.specs.Keys.{Table, current_keys, is_live, keys_of, same_key, same_scope}
use Rattle.key_reach.specs.Laws.{IsOrdered}
use Rattle.key_reach.specs.Lists.{IsListOf}
use Rattle.key_reach.proofs.Equal.{key-is, key-same}
use Rattle.key_reach.proofs.Meeting.{in-has-scope, scope-is, scope-same}
use Rattle.key_reach.proofs.Members.{in-either, in-left, in-right}
use Rattle.key_reach.proofs.Orders.{key-total}

abbrev before : {A : Type 0} → (A → A → Ordering) → A → A → Bool
before cmp x y = is_lt (cmp x y)

module _ {A : Type 0} (cmp : A → A → Ordering) (order : IsTotalOrder cmp) where
  is_less : (r : Ordering) → is_lt r ≡ true → r ≡ Less
  is_less Less e = refl
  is_less Equal e = absurd (false≢true e)
  is_less Greater e = absurd (false≢true e)

  strict : IsStrict (before cmp)
  strict = record {
    asymmetric = λ x y h. ap is_lt (order.antisymm y x ∙ ap ordering_reverse (is_less (cmp x y) h));
    transitive = λ x y z h k. ap is_lt (order.trans x y z (is_less (cmp x y) h) (is_less (cmp y z) k));
  }

  all-before : (x : A) (ys : List A) → AllByRecursion (λ y. cmp x y ≡ Less) ys → AllByRecursion (λ y. before cmp x y ≡ true) ys
  all-before x [] all = tt
  all-before x (y ∷ ys) all = (ap is_lt all.0, all-before x ys all.1)

  ascending : (xs : List A) → IsStrictlySortedBy cmp xs → IsAscending (before cmp) xs
  unfolding IsStrictlySortedBy
  ascending [] up = tt
  ascending (x ∷ xs) up = (all-before x xs up.0, ascending xs up.1)

  -- there is one list of these members that ascends
  pub one-list : (xs ys : List A) → IsStrictlySortedBy cmp xs → IsStrictlySortedBy cmp ys → ((x : A) → IsIn x xs → IsIn x ys) → ((x : A) → IsIn x ys → IsIn x xs) → xs ≡ ys
  one-list xs ys up over to back = ascending-one (before cmp) strict xs ys (ascending xs up) (ascending ys over) to back

pub in-has-key : (ks : List KeyId) (k : KeyId) → has same_key ks k ≡ true → IsIn k ks
in-has-key ks k h = let f = any_of (same_key k) ks h in subst (λ y. IsIn y ks) (sym (key-is k f.0 f.2)) f.1

pub has-in-key : (ks : List KeyId) (k : KeyId) → IsIn k ks → has same_key ks k ≡ true
has-in-key ks k j = any_in (same_key k) ks k j (key-same k)

pub has-in-scope : (ss : List Scope) (s : Scope) → IsIn s ss → has same_scope ss s ≡ true
has-in-scope ss s j = any_in (same_scope s) ss s j (scope-same s)

pub in-flat : {A B : Type 0} (f : A → List B) (xs : List A) (x : A) (y : B) → IsIn x xs → IsIn y (f x) → IsIn y (flat_map f xs)
in-flat f [] x y k j = absurd k
in-flat f (z ∷ zs) x y (inl e) j = in-left (f z) (flat_map f zs) y (subst (λ w. IsIn y (f w)) (sym e) j)
in-flat f (z ∷ zs) x y (inr k) j = in-right (f z) (flat_map f zs) y (in-flat f zs x y k j)

pub of-flat : {A B : Type 0} (f : A → List B) (xs : List A) (y : B) → IsIn y (flat_map f xs) → (x : A) × IsIn x xs × IsIn y (f x)
of-flat f [] y k = absurd k
of-flat f (z ∷ zs) y k = go (in-either (f z) (flat_map f zs) y k) (of-flat f zs y)
  where
    go : IsIn y (f z) ⊎ IsIn y (flat_map f zs) → (IsIn y (flat_map f zs) → (x : _) × IsIn x zs × IsIn y (f x)) → (x : _) × IsIn x (z ∷ zs) × IsIn y (f x)
    go (inl h) more = (z, inl refl, h)
    go (inr h) more = let r = more h in (r.0, inr r.1, r.2)

-- two lists that ascend, the second behind the first
pub sorted-append : {A : Type 0} (cmp : A → A → Ordering) (xs ys : List A) → IsStrictlySortedBy cmp xs → IsStrictlySortedBy cmp ys
    → ((x y : A) → IsIn x xs → IsIn y ys → cmp x y ≡ Less) → IsStrictlySortedBy cmp (xs ++ ys)
unfolding IsStrictlySortedBy
sorted-append cmp [] ys up over cross = over
sorted-append cmp (x ∷ xs) ys up over cross = (
  all_of (λ y. cmp x y ≡ Less) (xs ++ ys) (λ y k. go y (in-either xs ys y k)),
  sorted-append cmp xs ys up.1 over (λ z y k j. cross z y (inr k) j),
)
  where
    go : (y : _) → IsIn y xs ⊎ IsIn y ys → cmp x y ≡ Less
    go y (inl k) = all_at (λ z. cmp x z ≡ Less) xs up.0 y k
    go y (inr k) = cross x y (inl refl) k

-- lists that ascend, one behind the other, in the order of what they come from
pub sorted-flat : {A B : Type 0} (under : A → A → Ordering) (cmp : B → B → Ordering) (f : A → List B) (xs : List A) → IsStrictlySortedBy under xs
    → ((x : A) → IsIn x xs → IsStrictlySortedBy cmp (f x)) → ((x y : A) (a b : B) → under x y ≡ Less → IsIn a (f x) → IsIn b (f y) → cmp a b ≡ Less) → IsStrictlySortedBy cmp (flat_map f xs)
unfolding IsStrictlySortedBy
sorted-flat under cmp f [] up each cross = tt
sorted-flat under cmp f (x ∷ xs) up each cross =
    sorted-append cmp (f x) (flat_map f xs) (each x (inl refl)) (sorted-flat under cmp f xs up.1 (λ y k. each y (inr k)) cross)
    (λ a b k j. let r = of-flat f xs b j in cross x r.0 a b (all_at (λ y. under x y ≡ Less) xs up.0 r.0 r.1) k r.2)

-- where scopes are distinct, each has at most one key
none_left : (s : Scope) (k : KeyId) → k.scope ≡ s → (js : List KeyId) → AllByRecursion (λ t. same_scope k.scope t ≡ false) (map (λ j. j.scope) js) → filter (λ j. same_scope j.scope s) js ≡ []
none_left s k e [] all = refl
none_left s k e (j ∷ js) all = by (same_scope j.scope s) refl (none_left s k e js all.1)
  where
    by : (b : Bool) → same_scope j.scope s ≡ b → filter (λ j. same_scope j.scope s) js ≡ [] → cond b (j ∷ filter (λ i. same_scope i.scope s) js) (filter (λ i. same_scope i.scope s) js) ≡ []
    by true h rest = absurd (false≢true (sym all.0 ∙ subst (λ t. same_scope k.scope t ≡ true) (e ∙ sym (scope-is j.scope s h)) (scope-same k.scope)))
    by false h rest = rest

at_most_one : (s : Scope) (ks : List KeyId) → IsDistinct same_scope (map (λ k. k.scope) ks) → IsStrictlySortedBy key_cmp (filter (λ k. same_scope k.scope s) ks)
unfolding IsDistinct IsStrictlySortedBy
at_most_one s [] apart = tt
at_most_one s (k ∷ ks) apart = go (same_scope k.scope s) refl (at_most_one s ks apart.1)
  where
    go : (b : Bool) → same_scope k.scope s ≡ b → IsStrictlySortedBy key_cmp (filter (λ j. same_scope j.scope s) ks) → IsStrictlySortedBy key_cmp (cond b (k ∷ filter (λ j. same_scope j.scope s) ks) (filter (λ j. same_scope j.scope s) ks))
    go true h rest = subst (λ l. AllByRecursion (λ y. key_cmp k y ≡ Less) l × IsStrictlySortedBy key_cmp l) (sym (none_left s k (scope-is k.scope s h) ks apart.0)) (tt, tt)
    go false h rest = rest

module _ (t : Table) (law : IsOrdered t) where
  of-scope : (s : Scope) (k : KeyId) → IsIn k (keys_of t s) → IsIn k t.currents × (k.scope ≡ s)
  of-scope s k j = let f = of_filter (λ i. same_scope i.scope s) k t.currents j in (f.0, scope-is k.scope s f.1)

  pub in-scope : (k : KeyId) → IsIn k t.currents → IsIn k (keys_of t k.scope)
  in-scope k j = in_filter (λ i. same_scope i.scope k.scope) k t.currents j (scope-same k.scope)

  -- the current keys ascend
  pub current-ascends : IsStrictlySortedBy key_cmp (current_keys t)
  current-ascends = sorted-flat scope_cmp key_cmp (keys_of t) t.scopes law.ascends (λ s j. at_most_one s t.currents law.one_each) cross
    where
      cross : (s u : Scope) (a b : KeyId) → scope_cmp s u ≡ Less → IsIn a (keys_of t s) → IsIn b (keys_of t u) → key_cmp a b ≡ Less
      cross s u a b less k j =
          let first : scope_cmp a.scope b.scope ≡ Less =
          subst (λ v. scope_cmp v b.scope ≡ Less) (sym (of-scope s a k).1) (subst (λ v. scope_cmp s v ≡ Less) (sym (of-scope u b j).1) less) in
          ap (λ r. ordering_then r (ordering_then (nat_cmp a.generation b.generation) (slice_cmp nat_cmp a.public b.public))) first

  pub of-current : (k : KeyId) → IsIn k (current_keys t) → IsIn k t.currents × (is_live t k.scope ≡ true)
  of-current k j =
      let r = of-flat (keys_of t) t.scopes k j in
      let f = of-scope r.0 k r.2 in
      (f.0, subst (λ s. is_live t s ≡ true) (sym f.1) (has-in-scope t.scopes r.0 r.1))

  pub in-current : (k : KeyId) → IsIn k t.currents → is_live t k.scope ≡ true → IsIn k (current_keys t)
  in-current k j live = in-flat (keys_of t) t.scopes k.scope k (in-has-scope t.scopes k.scope live) (in-scope k j)

  pub current-keys-are : (known : List KeyId) → IsListOf key_cmp t.currents known → filter (λ k. has same_scope t.scopes k.scope) known ≡ current_keys t
  current-keys-are known list =
      one-list key_cmp key-total (filter (λ k. is_live t k.scope) known) (current_keys t)
      (IsStrictlySortedBy-filter key_cmp (λ k. is_live t k.scope) known list.ascends) current-ascends forth back
    where
      forth : (k : KeyId) → IsIn k (filter (λ k. is_live t k.scope) known) → IsIn k (current_keys t)
      forth k j =
          let f = of_filter (λ k. is_live t k.scope) k known j in
          in-current k (in-has-key t.currents k (sym (list.exact k) ∙ has-in-key known k f.0)) f.1

      back : (k : KeyId) → IsIn k (current_keys t) → IsIn k (filter (λ k. is_live t k.scope) known)
      back k j =
          let f = of-current k j in
          in_filter (λ k. is_live t k.scope) k known (in-has-key known k (list.exact k ∙ has-in-key t.currents k f.0)) f.1
