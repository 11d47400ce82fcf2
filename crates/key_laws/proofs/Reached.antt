-- What more arrows reach, and what a tainted key comes from.
use Rattle.std.proofs.Common.{◌≡◌, Bool, true, false, ◌&&◌, not, List, ◌++◌, map, filter, refl, sym, ap, subst, inl, inr, ◌⊎◌}
use Rattle.std.proofs.lemmas.Bool.{false≢true}
use Rattle.team_sets.specs.Members.{IsIn}
use Rattle.team_sets.specs.Closure.{Reaches, is_given, follows}
use Rattle.team_sets.proofs.Closures.{closure-reaches}
use Rattle.team_sets.proofs.OrderLeast.{of_filter}
use Rattle.tg_text.specs.declared.keys.KeyId.{KeyId}
use Rattle.tg_text.specs.declared.keys.BoxLine.{BoxLine}
use Rattle.key_reach.specs.Keys.{Table, box_arrows, is_device, is_live, is_tainted, leaked, same_key}
use Rattle.key_reach.proofs.Equal.{key-decides}
use Rattle.key_reach.proofs.Members.{in-either, in-left}
use Rattle.key_reach.proofs.Numbered.{in-map, of-map}

module _ {A : Type 0} where
  pub unreached_nothing : (arrows more : List (A × A)) (given : List A) → ((a : A × A) → IsIn a more → Reaches arrows given a.0 → ⊥) → (x : A) → Reaches (arrows ++ more) given x → Reaches arrows given x
  unreached_nothing arrows more given none _ (is_given x k) = is_given x k
  unreached_nothing arrows more given none _ (follows x y k r) = go (in-either arrows more (x, y) k) (unreached_nothing arrows more given none x r)
    where
      go : IsIn (x, y) arrows ⊎ IsIn (x, y) more → Reaches arrows given x → Reaches arrows given y
      go (inl j) before = follows x y j before
      go (inr j) before = absurd (none (x, y) j before)

  pub reaches_more : (arrows more : List (A × A)) (given : List A) (x : A) → Reaches arrows given x → Reaches (arrows ++ more) given x
  reaches_more arrows more given _ (is_given x k) = is_given x k
  reaches_more arrows more given _ (follows x y k r) = follows x y (in-left arrows more (x, y) k) (reaches_more arrows more given x r)

  pub reached_head : (arrows : List (A × A)) (given : List A) (x : A) → Reaches arrows given x → IsIn x given ⊎ ((from : A) × IsIn (from, x) arrows × Reaches arrows given from)
  reached_head arrows given _ (is_given x k) = inl k
  reached_head arrows given _ (follows x y k r) = inr (x, k, r)

pub both_true : (p q : Bool) → (p && q) ≡ true → (p ≡ true) × (q ≡ true)
both_true true q e = (refl, e)
both_true false q e = absurd (false≢true e)

pub not_true : (p : Bool) → not p ≡ true → p ≡ false
not_true true e = absurd (false≢true e)
not_true false e = refl

-- the box of an arrow
pub box_of : (boxes : List BoxLine) (to of : KeyId) → IsIn (to, of) (box_arrows boxes) → (b : BoxLine) × IsIn b boxes × (b.to ≡ to) × (b.of ≡ of)
box_of boxes to of k =
    let r = of-map (λ (b : BoxLine). (b.to, b.of)) (to, of) boxes k in
    (r.0, r.1, ap (λ (p : KeyId × KeyId). p.0) r.2, ap (λ (p : KeyId × KeyId). p.1) r.2)

pub arrow_of : (boxes : List BoxLine) (b : BoxLine) → IsIn b boxes → IsIn (b.to, b.of) (box_arrows boxes)
arrow_of boxes b k = in-map (λ (c : BoxLine). (c.to, c.of)) b boxes k

module _ (t : Table) where
  pub taint_reaches : (k : KeyId) → is_tainted t k ≡ true → Reaches (box_arrows t.boxes) (leaked t) k
  taint_reaches k h = (closure-reaches same_key key-decides (box_arrows t.boxes) (leaked t) k).0 h

  pub reaches_taint : (k : KeyId) → Reaches (box_arrows t.boxes) (leaked t) k → is_tainted t k ≡ true
  reaches_taint k r = (closure-reaches same_key key-decides (box_arrows t.boxes) (leaked t) k).1 r

  -- a leaked key is that of a device that isn't live, or the content of a box that isn't allowed
  pub record OfDevice (k : KeyId) : Type 0 where
    pub device : is_device k.scope ≡ true
    pub dead : is_live t k.scope ≡ false

  pub record OfBox (k : KeyId) : Type 0 where
    pub box : BoxLine
    pub held : IsIn box t.boxes
    pub unlawful : t.allowed box.to.scope box.of.scope ≡ false
    pub content : box.of ≡ k

  pub of_leaked : (k : KeyId) → IsIn k (leaked t) → OfDevice k ⊎ OfBox k
  of_leaked k j = go (in-either (filter (λ l. is_device l.scope && not (is_live t l.scope)) t.currents) (map (λ b. b.of) (filter (λ b. not (t.allowed b.to.scope b.of.scope)) t.boxes)) k j)
    where
      go : IsIn k (filter (λ l. is_device l.scope && not (is_live t l.scope)) t.currents) ⊎ IsIn k (map (λ b. b.of) (filter (λ b. not (t.allowed b.to.scope b.of.scope)) t.boxes)) → OfDevice k ⊎ OfBox k
      go (inl m) =
          let tests = both_true (is_device k.scope) (not (is_live t k.scope)) (of_filter (λ l. is_device l.scope && not (is_live t l.scope)) k t.currents m).1 in
          inl (record { device = tests.0; dead = not_true (is_live t k.scope) tests.1 })
      go (inr m) =
          let r = of-map (λ (b : BoxLine). b.of) k (filter (λ b. not (t.allowed b.to.scope b.of.scope)) t.boxes) m in
          let f = of_filter (λ b. not (t.allowed b.to.scope b.of.scope)) r.0 t.boxes r.1 in
          inr (record { box = r.0; held = f.0; unlawful = not_true (t.allowed r.0.to.scope r.0.of.scope) f.1; content = r.2 })

  -- a tainted key is leaked, or is the content of a box to a tainted key
  pub record ByBox (k : KeyId) : Type 0 where
    pub box : BoxLine
    pub held : IsIn box t.boxes
    pub tainted : is_tainted t box.to ≡ true
    pub content : box.of ≡ k

  pub of_tainted : (k : KeyId) → is_tainted t k ≡ true → IsIn k (leaked t) ⊎ ByBox k
  of_tainted k h = go (reached_head (box_arrows t.boxes) (leaked t) k (taint_reaches k h))
    where
      go : IsIn k (leaked t) ⊎ ((from : KeyId) × IsIn (from, k) (box_arrows t.boxes) × Reaches (box_arrows t.boxes) (leaked t) from) → IsIn k (leaked t) ⊎ ByBox k
      go (inl j) = inl j
      go (inr r) =
          let b = box_of t.boxes r.0 k r.1 in
          inr (record { box = b.0; held = b.1; tainted = reaches_taint b.0.to (subst (λ j. Reaches (box_arrows t.boxes) (leaked t) j) (sym b.2) r.2); content = b.3 })
