-- The keys of opened pairs, each once.
use Rattle.std.proofs.Common.{◌≡◌, ◌⊎◌, ◌∙◌, inl, inr, ℕ, Bool, true, false, cond, List, [], ◌∷◌, ◌++◌, map, refl, sym, ap, subst}
use Rattle.std.specs.List.Sorted.{IsStrictlySortedBy}
use Rattle.std.specs.Cmp.Lexicographic.{slice_cmp}
use Rattle.std.specs.Ordering.{is_eq, nat_cmp, ordering_then}
use Rattle.std.specs.declared.cmp.Ordering.{Ordering}
use Rattle.std.specs.declared.cmp.Ordering.TheVariants.{Less, Equal, Greater}
use Rattle.std.proofs.lemmas.Bool.{false≢true}
use Rattle.team_sets.specs.Closure.{has}
use Rattle.team_sets.specs.Members.{IsIn}
use Rattle.team_sets.proofs.Pasts.{all_at}
use Rattle.tg_text.specs.Order.{key_cmp}
use Rattle.tg_text.specs.declared.keys.KeyId.{KeyId}
use Rattle.key_reach.specs.Keys.{same_key}
use Rattle.key_reach.proofs.Currents.{has-in-key, in-has-key, sorted-append}
use Rattle.key_reach.proofs.Equal.{key-is}
use Rattle.key_reach.proofs.Members.{in-either, in-left, in-right}
use Rattle.key_reach.proofs.Numbered.{in-map, of-map}
use Rattle.lockboxes.specs.Keeping.{IsOpened}
use Rattle.lockboxes.specs.Opening.{opened_cmp}
use Rattle.lockboxes.specs.declared.opened.Opened.{Opened}
use Rattle.team_report.specs.KeysLaws.{OpenedKeysAreExact}
use Rattle.team_report.specs.KeysText.{opened_keys, with_all, with_one}

-- one more key
one_more : (xs : List KeyId) (y k : KeyId) → IsIn k (with_one same_key xs y) → IsIn k xs ⊎ (y ≡ k)
one_more xs y k = go (has same_key xs y)
  where
    last : IsIn k (y ∷ []) → y ≡ k
    last (inl e) = e
    last (inr none) = absurd none

    parts : IsIn k xs ⊎ IsIn k (y ∷ []) → IsIn k xs ⊎ (y ≡ k)
    parts (inl j) = inl j
    parts (inr j) = inr (last j)

    go : (b : Bool) → IsIn k (cond b xs (xs ++ y ∷ [])) → IsIn k xs ⊎ (y ≡ k)
    go true j = inl j
    go false j = parts (in-either xs (y ∷ []) k j)

still_in : (xs : List KeyId) (y k : KeyId) → IsIn k xs → IsIn k (with_one same_key xs y)
still_in xs y k j = go (has same_key xs y)
  where
    go : (b : Bool) → IsIn k (cond b xs (xs ++ y ∷ []))
    go true = j
    go false = in-left xs (y ∷ []) k j

now_in : (xs : List KeyId) (y : KeyId) → IsIn y (with_one same_key xs y)
now_in xs y = go (has same_key xs y) refl
  where
    go : (b : Bool) → has same_key xs y ≡ b → IsIn y (cond b xs (xs ++ y ∷ []))
    go true e = in-has-key xs y e
    go false e = in-right xs (y ∷ []) y (inl refl)

-- and many
kept_in : (xs ys : List KeyId) (k : KeyId) → IsIn k xs → IsIn k (with_all same_key xs ys)
kept_in xs [] k j = j
kept_in xs (y ∷ ys) k j = kept_in (with_one same_key xs y) ys k (still_in xs y k j)

added_in : (xs ys : List KeyId) (k : KeyId) → IsIn k ys → IsIn k (with_all same_key xs ys)
added_in xs [] k j = absurd j
added_in xs (y ∷ ys) k (inl e) = kept_in (with_one same_key xs y) ys k (subst (λ (z : KeyId). IsIn z (with_one same_key xs y)) e (now_in xs y))
added_in xs (y ∷ ys) k (inr j) = added_in (with_one same_key xs y) ys k j

in_either_all : (xs ys : List KeyId) (k : KeyId) → IsIn k (with_all same_key xs ys) → IsIn k xs ⊎ IsIn k ys
in_either_all xs [] k j = inl j
in_either_all xs (y ∷ ys) k j = go (in_either_all (with_one same_key xs y) ys k j)
  where
    first : IsIn k xs ⊎ (y ≡ k) → IsIn k xs ⊎ IsIn k (y ∷ ys)
    first (inl h) = inl h
    first (inr e) = inr (inl e)

    go : IsIn k (with_one same_key xs y) ⊎ IsIn k ys → IsIn k xs ⊎ IsIn k (y ∷ ys)
    go (inl h) = first (one_more xs y k h)
    go (inr h) = inr (inr h)

-- a key stands before another, or is the same
abbrev IsUpTo : KeyId → KeyId → Type 0
IsUpTo x y = (key_cmp x y ≡ Less) ⊎ (x ≡ y)

by_pair : (a b : Opened) → opened_cmp a b ≡ Less → IsUpTo a.key b.key
by_pair a b less = go (key_cmp a.key b.key) refl less
  where
    go : (r : Ordering) → key_cmp a.key b.key ≡ r → ordering_then r (slice_cmp nat_cmp a.secret b.secret) ≡ Less → IsUpTo a.key b.key
    go Less e h = inl e
    go Equal e h = inr (key-is a.key b.key (ap is_eq e))
    go Greater e h = absurd (false≢true (ap is_less h))
      where
        is_less : Ordering → Bool
        is_less Less = true
        is_less Equal = false
        is_less Greater = false

-- they ascend, since the pairs do
ascend : (xs : List KeyId) (os : List Opened) → IsStrictlySortedBy key_cmp xs → IsStrictlySortedBy opened_cmp os
    → ((x : KeyId) (o : Opened) → IsIn x xs → IsIn o os → IsUpTo x o.key) → IsStrictlySortedBy key_cmp (with_all same_key xs (map (λ o. o.key) os))
unfolding IsStrictlySortedBy
ascend xs [] up over before = up
ascend xs (o ∷ os) up over before = ascend (with_one same_key xs o.key) os (next (has same_key xs o.key) refl) over.1 later
  where
    apart : has same_key xs o.key ≡ false → (x y : KeyId) → IsIn x xs → IsIn y (o.key ∷ []) → key_cmp x y ≡ Less
    apart none x y j (inr k) = absurd k
    apart none x y j (inl e) = subst (λ (z : KeyId). key_cmp x z ≡ Less) e (less (before x o j (inl refl)))
      where
        less : IsUpTo x o.key → key_cmp x o.key ≡ Less
        less (inl h) = h
        less (inr same) = absurd (false≢true (sym none ∙ has-in-key xs o.key (subst (λ (z : KeyId). IsIn z xs) same j)))

    next : (b : Bool) → has same_key xs o.key ≡ b → IsStrictlySortedBy key_cmp (cond b xs (xs ++ o.key ∷ []))
    next true e = up
    next false e = sorted-append key_cmp xs (o.key ∷ []) up (tt, tt) (apart e)

    later : (x : KeyId) (p : Opened) → IsIn x (with_one same_key xs o.key) → IsIn p os → IsUpTo x p.key
    later x p j k = go (one_more xs o.key x j)
      where
        go : IsIn x xs ⊎ (o.key ≡ x) → IsUpTo x p.key
        go (inl h) = before x p h (inr k)
        go (inr e) = subst (λ (z : KeyId). IsUpTo z p.key) e (by_pair o p (all_at (λ (q : Opened). opened_cmp o q ≡ Less) os over.0 p k))

pub opened_exact : OpenedKeysAreExact
unfolding IsStrictlySortedBy
opened_exact keeper boxes device secret pairs are = record {
  ascends = ascend [] pairs tt are.ascends (λ x o j k. absurd j);
  exact = λ k. (forth k, back k);
}
  where
    of_pair : (k : KeyId) → ((o : Opened) × IsIn o pairs × (o.key ≡ k)) → (s : List ℕ) × IsOpened keeper boxes device secret k s
    of_pair k (o, j, e) = (o.secret, subst (λ (z : KeyId). IsOpened keeper boxes device secret z o.secret) e ((are.exact o).0 j))

    from : (k : KeyId) → IsIn k [] ⊎ IsIn k (map (λ (o : Opened). o.key) pairs) → (s : List ℕ) × IsOpened keeper boxes device secret k s
    from k (inl none) = absurd none
    from k (inr j) = of_pair k (of-map (λ (o : Opened). o.key) k pairs j)

    forth : (k : KeyId) → IsIn k (opened_keys pairs) → (s : List ℕ) × IsOpened keeper boxes device secret k s
    forth k j = from k (in_either_all [] (map (λ (o : Opened). o.key) pairs) k j)

    back : (k : KeyId) → ((s : List ℕ) × IsOpened keeper boxes device secret k s) → IsIn k (opened_keys pairs)
    back k (s, is) =
        let pair : Opened = record { key = k; secret = s } in
        added_in [] (map (λ (o : Opened). o.key) pairs) k (in-map (λ (o : Opened). o.key) pair pairs ((are.exact pair).1 is))
