-- A box holds one key for another where their pair is among the pairs of boxes.
use Rattle.std.proofs.Common.{◌≡◌, Bool, true, false, ◌&&◌, ◌||◌, cond, List, [], ◌∷◌, map, filter, refl, ◌∙◌, subst}
use Rattle.std.specs.Ordering.{eq_by_cmp, is_eq, ordering_then}
use Rattle.std.specs.declared.cmp.Ordering.{Ordering}
use Rattle.std.specs.declared.cmp.Ordering.TheVariants.{Less, Equal, Greater}
use Rattle.team_sets.specs.Closure.{has}
use Rattle.team_sets.proofs.Agree.{same_answer}
use Rattle.tg_text.specs.Order.{key_cmp}
use Rattle.tg_text.specs.declared.keys.KeyId.{KeyId}
use Rattle.tg_text.specs.declared.keys.BoxLine.{BoxLine}
use Rattle.key_reach.specs.Keys.{box_arrows, has_box, same_key}
use Rattle.key_reach.specs.Lists.{pair_cmp}
use Rattle.key_reach.proofs.Equal.{key-is, key-same}

both : (r s : Ordering) → is_eq (ordering_then r s) ≡ (is_eq r && is_eq s)
both Less s = refl
both Equal s = refl
both Greater s = refl

key-turned : (a b : KeyId) → same_key a b ≡ same_key b a
key-turned a b = same_answer (same_key a b) (same_key b a) (λ h. turn a b (key-is a b h)) (λ h. turn b a (key-is b a h))
  where
    turn : (x y : KeyId) → x ≡ y → same_key y x ≡ true
    turn x y e = subst (λ z. same_key z x ≡ true) e (key-same x)

pub boxed-is : (boxes : List BoxLine) (to of : KeyId) → has (eq_by_cmp pair_cmp) (box_arrows boxes) (to, of) ≡ has_box boxes to of
boxed-is [] to of = refl
boxed-is (b ∷ bs) to of =
    (λ i. both (key_cmp to b.to) (key_cmp of b.of) i || boxed-is bs to of i)
    ∙ (λ i. (key-turned to b.to i && same_key of b.of) || has_box bs to of) ∙ go (same_key b.to to)
  where
    go : (c : Bool) → ((c && same_key of b.of) || has_box bs to of) ≡ has same_key (map (λ b. b.of) (cond c (b ∷ filter (λ d. same_key d.to to) bs) (filter (λ d. same_key d.to to) bs))) of
    go true = refl
    go false = refl
