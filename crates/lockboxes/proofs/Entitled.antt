-- Keys that a device opens are its own, or tainted, or of scopes to which it is entitled.
use Rattle.std.proofs.Common.{◌≡◌, ℕ, Bool, true, false, ◌&&◌, not, List, Contains, map, filter, refl, sym, ◌∙◌, ap, subst, inl, inr, ◌⊎◌}
use Rattle.std.proofs.lemmas.Bool.{false≢true}
use Rattle.team_sets.specs.Members.{IsIn}
use Rattle.team_sets.specs.Closure.{Reaches, is_given, follows}
use Rattle.team_sets.proofs.Closures.{closure-reaches}
use Rattle.team_sets.proofs.OrderLeast.{in_filter}
use Rattle.tg_text.specs.declared.keys.KeyId.{KeyId}
use Rattle.tg_text.specs.declared.keys.BoxLine.{BoxLine}
use Rattle.key_reach.specs.EntitledLaws.{IsMet, own, led}
use Rattle.key_reach.specs.Keys.{Table, box_arrows, is_device, is_entitled, is_live, is_tainted, leaked, same_key}
use Rattle.key_reach.specs.Laws.{IsKeyTable}
use Rattle.key_reach.proofs.Equal.{key-decides}
use Rattle.key_reach.proofs.Members.{in-right}
use Rattle.key_reach.proofs.MetScopes.{entitled-least}
use Rattle.key_reach.proofs.Numbered.{in-map}
use Rattle.lockboxes.specs.Keeping.{Keeper, IsOpened, Opens, is_own, opens, own_key}
use Rattle.lockboxes.proofs.Opens.{in_slice, slice_contains}

module _ (keeper : Keeper) (t : Table) (law : IsKeyTable t) (device secret : List ℕ) where
  abbrev mine : KeyId
  mine = own_key keeper device secret

  -- the arrow of a held box
  arrow : (b : BoxLine) → Contains t.boxes b → IsIn (b.to, b.of) (box_arrows t.boxes)
  arrow b held = in-map (λ (c : BoxLine). (c.to, c.of)) b t.boxes (in_slice t.boxes held.0 b (slice_contains t.boxes b held))

  reaches : (k : KeyId) → is_tainted t k ≡ true → Reaches (box_arrows t.boxes) (leaked t) k
  reaches k h = (closure-reaches same_key key-decides (box_arrows t.boxes) (leaked t) k).0 h

  tainted_of : (k : KeyId) → Reaches (box_arrows t.boxes) (leaked t) k → is_tainted t k ≡ true
  tainted_of k r = (closure-reaches same_key key-decides (box_arrows t.boxes) (leaked t) k).1 r

  -- the content of a box that isn't allowed is tainted, and so is that of a box to a tainted key
  by_leak : (b : BoxLine) → Contains t.boxes b → t.allowed b.to.scope b.of.scope ≡ false → is_tainted t b.of ≡ true
  by_leak b held e =
      tainted_of b.of (is_given b.of (in-right (filter (λ k. is_device k.scope && not (is_live t k.scope)) t.currents) (map (λ c. c.of) (filter (λ c. not (t.allowed c.to.scope c.of.scope)) t.boxes)) b.of
      (in-map (λ (c : BoxLine). c.of) b (filter (λ c. not (t.allowed c.to.scope c.of.scope)) t.boxes)
      (in_filter (λ c. not (t.allowed c.to.scope c.of.scope)) b t.boxes (in_slice t.boxes held.0 b (slice_contains t.boxes b held)) (ap not e)))))

  by_taint : (b : BoxLine) → Contains t.boxes b → is_tainted t b.to ≡ true → is_tainted t b.of ≡ true
  by_taint b held h = tainted_of b.of (follows b.to b.of (arrow b held) (reaches b.to h))

  -- what is opened
  abbrev IsPlaced : KeyId → Type 0
  IsPlaced k = (k ≡ mine) ⊎ ((is_tainted t k ≡ true) ⊎ IsMet t device k.scope)

  by_box : (b : BoxLine) → Contains t.boxes b → (r : Bool) → t.allowed b.to.scope b.of.scope ≡ r → IsPlaced b.to → IsPlaced b.of
  by_box b held false e before = inr (inl (by_leak b held e))
  by_box b held true e (inl is) =
      let live = (law.joins_live b.to.scope b.of.scope e).0 in
      let of_device = ap (λ (k : KeyId). k.scope) is in
      inr (inr (led b.to.scope b.of.scope e (subst (λ s. IsMet t device s) (sym of_device) (own (subst (λ s. is_live t s ≡ true) of_device live)))))
  by_box b held true e (inr (inl h)) = inr (inl (by_taint b held h))
  by_box b held true e (inr (inr met)) = inr (inr (led b.to.scope b.of.scope e met))

  placed : (k : KeyId) (s : List ℕ) → Opens keeper t.boxes mine secret k s → IsPlaced k
  placed _ _ is_own = inl refl
  placed _ _ (opens b m s held r unseals names) = by_box b held (t.allowed b.to.scope b.of.scope) refl (placed b.to m r)

  pub opened_entitled : (k : KeyId) (s : List ℕ) → IsOpened keeper t.boxes device secret k s → is_tainted t k ≡ false → (k ≡ mine) ⊎ (is_entitled t device k.scope ≡ true)
  opened_entitled k s r clean = go (placed k s r)
    where
      go : IsPlaced k → (k ≡ mine) ⊎ (is_entitled t device k.scope ≡ true)
      go (inl e) = inl e
      go (inr (inl h)) = absurd (false≢true (sym clean ∙ h))
      go (inr (inr met)) = inr (((entitled-least t law device).met k.scope).1 met)
