-- From nothing nothing is reached.
use Rattle.std.proofs.Common.{◌≡◌, ℕ, zero, suc, List, [], ◌∷◌, filter, length, map, arith, refl, sym, ◌∙◌, ap}
use Rattle.std.specs.List.Sorted.{IsStrictlySortedBy}
use Rattle.team_sets.specs.Closure.{grown, has, leads_out}
use Rattle.tg_text.specs.Order.{key_cmp}
use Rattle.tg_text.specs.declared.keys.BoxLine.{BoxLine}
use Rattle.tg_text.specs.declared.keys.KeyId.{KeyId}
use Rattle.key_reach.specs.Keys.{box_arrows, reach, same_key}
use Rattle.key_reach.specs.Lists.{IsListOf}

none_out : (arrows : List (KeyId × KeyId)) → filter (leads_out same_key []) arrows ≡ []
none_out [] = refl
none_out (a ∷ rest) = none_out rest

stays : (n : ℕ) (arrows : List (KeyId × KeyId)) → grown same_key n arrows [] ≡ []
stays zero arrows = refl
stays (suc n) arrows = ap (λ heads. grown same_key n arrows (map (λ (a : KeyId × KeyId). a.1) heads)) (none_out arrows) ∙ stays n arrows

no_members : (ks : List KeyId) → length ks ≡ 0 → ks ≡ []
no_members [] e = refl
no_members (k ∷ ks) e = absurd (omega (arith, e))

pub none-reached : (boxes : List BoxLine) (from : List KeyId) → length from ≡ 0 → (keys : List KeyId) → keys ≡ [] → IsListOf key_cmp (reach boxes from) keys
unfolding IsStrictlySortedBy
none-reached boxes from none keys empty = record { ascends = up keys empty; exact = λ k. ap (λ ks. has same_key ks k) (empty ∙ sym (ap (reach boxes) (no_members from none) ∙ stays (length (box_arrows boxes)) (box_arrows boxes))) }
  where
    up : (ks : List KeyId) → ks ≡ [] → IsStrictlySortedBy key_cmp ks
    up [] e = tt
    up (k ∷ ks) e = absurd (let bad : ◌≡◌ {A = List KeyId} (k ∷ ks) [] = e in cc)
