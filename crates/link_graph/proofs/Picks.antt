-- Links at_places by their places.
use Rattle.std.proofs.Common.{◌≡◌, ℕ, zero, suc, ◌+◌, ◌<◌, Bool, true, false, cond, List, [], ◌∷◌, ◌++◌, Option, Some, None, refl, sym, ◌∙◌, ap, length, take, drop, filter, get_or, slice_get, All, add-one, arith}
use Rattle.std.specs.List.{cons_option}
use Rattle.team_model.specs.declared.terms.Link.{Link}
use Rattle.link_graph.specs.Positions.{at_places}

pub some_at : {A : Type 0} (xs : List A) (p : ℕ) → p < length xs → (x : A) × (slice_get xs p ≡ Some x)
some_at [] p h = absurd (omega arith)
some_at (y ∷ ys) zero h = (y, refl)
some_at (y ∷ ys) (suc p) h = some_at ys p (omega arith)

pub take_next : {A : Type 0} (xs : List A) (k : ℕ) (x : A) → slice_get xs k ≡ Some x → take (k + 1) xs ≡ take k xs ++ x ∷ []
take_next {A = A} [] k x e = absurd (let bad : ◌≡◌ {A = Option A} None (Some x) = e in cc)
take_next (y ∷ ys) zero x e = let same : y ≡ x = cc in rw same refl
take_next (y ∷ ys) (suc k) x e = rw add-one (ap (λ l. y ∷ l) (rw add-one at (take_next ys k x e)))

pub drop_here : {A : Type 0} (xs : List A) (k : ℕ) (x : A) → slice_get xs k ≡ Some x → drop k xs ≡ x ∷ drop (k + 1) xs
drop_here {A = A} [] k x e = absurd (let bad : ◌≡◌ {A = Option A} None (Some x) = e in cc)
drop_here (y ∷ ys) zero x e = let same : y ≡ x = cc in rw same refl
drop_here (y ∷ ys) (suc k) x e = rw add-one (rw add-one at (drop_here ys k x e))

module _ (links : List Link) where
  within_rest : (p : ℕ) (ps : List ℕ) → All (λ i. i < length links) (p ∷ ps) → All (λ i. i < length links) ps
  within_rest p ps range i d h = range (suc i) d (omega arith)

  pub picked_slice : (places : List ℕ) → All (λ i. i < length links) places → (k : ℕ) → k < length places → slice_get (at_places links places) k ≡ slice_get links (get_or places k 0)
  picked_slice [] range k h = absurd (omega arith)
  picked_slice (p ∷ ps) range zero h =
      let x = some_at links p (range 0 0 (omega arith)) in
      rw x.1 refl
  picked_slice (p ∷ ps) range (suc k) h =
      let x = some_at links p (range 0 0 (omega arith)) in
      rw x.1 (picked_slice ps (within_rest p ps range) k (omega arith))

  pub length-at_places : (places : List ℕ) → All (λ i. i < length links) places → length (at_places links places) ≡ length places
  length-at_places [] range = refl
  length-at_places (p ∷ ps) range =
      let x = some_at links p (range 0 0 (omega arith)) in
      rw x.1 (ap suc (length-at_places ps (within_rest p ps range)))

  pub picked_more : (places : List ℕ) (p : ℕ) (x : Link) → slice_get links p ≡ Some x → at_places links (places ++ p ∷ []) ≡ at_places links places ++ x ∷ []
  picked_more [] p x e = rw e refl
  picked_more (q ∷ qs) p x e = go (slice_get links q) (picked_more qs p x e)
    where
      go : (o : Option Link) → at_places links (qs ++ p ∷ []) ≡ at_places links qs ++ x ∷ [] → cons_option o (at_places links (qs ++ p ∷ [])) ≡ cons_option o (at_places links qs) ++ x ∷ []
      go None h = h
      go (Some y) h = ap (λ l. y ∷ l) h

  -- what a test of places picks is what the same test of links leaves
  pub picked_filter : (p : ℕ → Bool) (q : Link → Bool) (places : List ℕ) → ((i d : ℕ) (x : Link) → i < length places → slice_get links (get_or places i d) ≡ Some x → p (get_or places i d) ≡ q x)
      → at_places links (filter p places) ≡ filter q (at_places links places)
  picked_filter p q [] same = refl
  picked_filter p q (i ∷ is) same = go (slice_get links i) refl (p i) refl (picked_filter p q is (λ k d x h e. same (suc k) d x (omega arith) e))
    where
      go : (o : Option Link) → slice_get links i ≡ o → (b : Bool) → p i ≡ b → at_places links (filter p is) ≡ filter q (at_places links is)
          → at_places links (cond b (i ∷ filter p is) (filter p is)) ≡ filter q (cons_option o (at_places links is))
      go None e true t more = rw e more
      go None e false t more = more
      go (Some x) e true t more = let there : q x ≡ true = sym (same 0 0 x (omega arith) e) ∙ t in rw (e, there) (ap (λ l. x ∷ l) more)
      go (Some x) e false t more = let gone : q x ≡ false = sym (same 0 0 x (omega arith) e) ∙ t in rw gone more
