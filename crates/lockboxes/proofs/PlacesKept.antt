-- An index of places, as values come one by one.
use Rattle.std.proofs.Common.{◌≡◌, ℕ, suc, ◌+◌, Bool, true, false, cond, List, [], ◌∷◌, ◌++◌, append_assoc, append-nil, Option, Some, None, ◌<◌, length, get_or, drop, drop-cons, add-one, refl, sym, ◌∙◌, ap, subst, if◌then◌else◌}
use Rattle.std.specs.Global.{Vec}
use Rattle.std.specs.HashMap.{HashMap, get}
use Rattle.std.specs.Option.{option_map_or}
use Rattle.lockboxes.specs.Indexes.{places_in, places_of}

module _ {K : Type 0} (same : K → K → Bool) (tells : (x y : K) → same x y ≡ true → x ≡ y) where
  list_of : Option (Vec ℕ) → List ℕ
  list_of o = option_map_or (λ (u : Vec ℕ). u.items) o []

  -- one place more of a value that has places
  pub places_push : {S R : Type 0} (lists : HashMap K (Vec ℕ) S) (new : HashMap K (Vec ℕ) R) (p : K) (v w : Vec ℕ) (place : ℕ)
      → ((q : K) → get same new q ≡ cond (same p q) (Some w) (get same lists q)) → Some v ≡ get same lists p → w.items ≡ v.items ++ place ∷ []
      → (k : K) → places_of same new k ≡ places_of same lists k ++ (if same p k then place ∷ [] else [])
  unfolding list_of
  places_push lists new p v w place has old more k = go (same p k) refl (has k)
    where
      go : (b : Bool) → same p k ≡ b → get same new k ≡ cond b (Some w) (get same lists k) → places_of same new k ≡ places_of same lists k ++ (if b then place ∷ [] else [])
      go true e h = ap list_of h ∙ more ∙ ap (λ o. list_of o ++ place ∷ []) (subst (λ (m : K). Some v ≡ get same lists m) (tells p k e) old)
      go false e h = ap list_of h ∙ sym (append-nil (places_of same lists k))

  -- the first place of a value
  pub places_insert : {S R : Type 0} (lists : HashMap K (Vec ℕ) S) (new : HashMap K (Vec ℕ) R) (p : K) (v : Vec ℕ) (place : ℕ)
      → ((q : K) → get same new q ≡ cond (same p q) (Some v) (get same lists q)) → None ≡ get same lists p → v.items ≡ place ∷ []
      → (k : K) → places_of same new k ≡ places_of same lists k ++ (if same p k then place ∷ [] else [])
  unfolding list_of
  places_insert lists new p v place has none one k = go (same p k) refl (has k)
    where
      go : (b : Bool) → same p k ≡ b → get same new k ≡ cond b (Some v) (get same lists k) → places_of same new k ≡ places_of same lists k ++ (if b then place ∷ [] else [])
      go true e h = ap list_of h ∙ one ∙ ap (λ o. list_of o ++ place ∷ []) (subst (λ (m : K). None ≡ get same lists m) (tells p k e) none)
      go false e h = ap list_of h ∙ sym (append-nil (places_of same lists k))

  -- one value more is taken
  pub places_next : (k : K) (old new : List ℕ) (xs : List K) (i : ℕ) (x : K) → i < length xs → x ≡ get_or xs i x → new ≡ old ++ (if same x k then i ∷ [] else [])
      → new ++ places_in same (i + 1) (drop (i + 1) xs) k ≡ old ++ places_in same i (drop i xs) k
  places_next k old new xs i x within at is = ap (λ l. l ++ places_in same (i + 1) (drop (i + 1) xs) k) is ∙ go (same x k) ∙ ap (λ l. old ++ places_in same i l k) (sym rest)
    where
      rest : drop i xs ≡ x ∷ drop (i + 1) xs
      rest = rw (add-one) (drop-cons xs i x within ∙ ap (λ q. q ∷ drop (suc i) xs) (sym at))

      go : (b : Bool) → (old ++ (if b then i ∷ [] else [])) ++ places_in same (i + 1) (drop (i + 1) xs) k ≡ old ++ cond b (i ∷ places_in same (suc i) (drop (i + 1) xs) k) (places_in same (suc i) (drop (i + 1) xs) k)
      go true = append_assoc old (i ∷ []) (places_in same (i + 1) (drop (i + 1) xs) k) ∙ ap (λ n. old ++ i ∷ places_in same n (drop (i + 1) xs) k) (add-one i)
      go false = ap (λ l. l ++ places_in same (i + 1) (drop (i + 1) xs) k) (append-nil old) ∙ ap (λ n. old ++ places_in same n (drop (i + 1) xs) k) (add-one i)
