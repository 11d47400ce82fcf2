-- Going back from a key finds the devices that are entitled to it and don't reach it.
use Rattle.std.proofs.Common.{◌≡◌, Bool, true, false, not, ◌&&◌, ◌||◌, cond, get_or, List, [], ◌∷◌, ◌++◌, refl, sym, ◌∙◌, ap, subst, inl, inr, map, filter, flat_map}
use Rattle.std.specs.List.{All, list_any}
use Rattle.std.proofs.lemmas.List.Folds.{list_any_at}
use Rattle.std.proofs.lemmas.List.{map-append}
use Rattle.std.proofs.lemmas.List.Kept.{IsStrictlySortedBy-filter}
use Rattle.team_sets.specs.Names.{Name}
use Rattle.team_sets.specs.Members.{IsIn}
use Rattle.team_sets.specs.Closure.{has, closure, Reaches, is_given, follows}
use Rattle.team_sets.proofs.Agree.{same_answer}
use Rattle.team_sets.proofs.Closures.{closure-reaches}
use Rattle.team_sets.proofs.OrderLeast.{in_filter, of_filter}
use Rattle.tg_text.specs.Order.{key_cmp, scope_cmp}
use Rattle.tg_text.specs.declared.keys.Scope.{Scope}
use Rattle.tg_text.specs.declared.keys.Scope.TheVariants.{Team, Role, User, Device}
use Rattle.tg_text.specs.declared.keys.KeyId.{KeyId}
use Rattle.key_reach.specs.declared.debt.Debt.TheVariants.{Unreached}
use Rattle.key_reach.specs.Backwards.{unreached_by}
use Rattle.key_reach.specs.Debts.{device_of, device_names, is_unreached, unreached_of}
use Rattle.key_reach.specs.Graphs.{turned}
use Rattle.key_reach.specs.Keys.{Table, box_arrows, current_keys, is_entitled, is_live, keys_of, reach, same_key, same_scope, scope_arrows}
use Rattle.key_reach.specs.Laws.{IsOrdered}
use Rattle.key_reach.specs.Lists.{IsListOf}
use Rattle.key_reach.specs.Steps.{turned_arrows, turned_from}
use Rattle.key_reach.proofs.Currents.{in-current, in-has-key, has-in-key, has-in-scope, in-scope, of-current, of-flat, one-list}
use Rattle.key_reach.proofs.Equal.{key-decides, key-same}
use Rattle.key_reach.proofs.Meeting.{in-has-scope, scope-decides, scope-is, scope-same}
use Rattle.key_reach.proofs.Numbered.{in-map, of-map}
use Rattle.key_reach.proofs.Orders.{scope-total}
use Rattle.key_reach.proofs.Turned.{origin, back-reaches}

-- turned one by one, or all at once
turned-each : (t : Table) (ss : List Scope) → flat_map (turned_from t) ss ≡ turned (flat_map (λ a. map (λ b. (a, b)) (filter (t.allowed a) t.scopes)) ss)
turned-each t [] = refl
turned-each t (s ∷ ss) =
    ap (λ l. turned_from t s ++ l) (turned-each t ss)
    ∙ ap (λ l. l ++ turned (flat_map (λ a. map (λ b. (a, b)) (filter (t.allowed a) t.scopes)) ss)) (twice (filter (t.allowed s) t.scopes))
    ∙ sym (map-append (λ (a : Scope × Scope). (a.1, a.0)) (map (λ b. (s, b)) (filter (t.allowed s) t.scopes)) (flat_map (λ a. map (λ b. (a, b)) (filter (t.allowed a) t.scopes)) ss))
  where
    twice : (bs : List Scope) → map (λ b. (b, s)) bs ≡ turned (map (λ b. (s, b)) bs)
    twice [] = refl
    twice (b ∷ bs) = ap (λ l. (b, s) ∷ l) (twice bs)

turned-is : (t : Table) → turned_arrows t ≡ turned (scope_arrows t)
turned-is t = turned-each t t.scopes

-- each of a list's keys is among them
pub keys-there : (ks : List KeyId) → All (λ k. has same_key ks k ≡ true) ks
keys-there ks i d lt = list_any_at (same_key (get_or ks i d)) ks i d lt (key-same (get_or ks i d))

same-turned : (a b : Scope) → same_scope a b ≡ same_scope b a
same-turned a b = same_answer (same_scope a b) (same_scope b a) (λ h. turn a b (scope-is a b h)) (λ h. turn b a (scope-is b a h))
  where
    turn : (x y : Scope) → x ≡ y → same_scope y x ≡ true
    turn x y e = subst (λ z. same_scope z x ≡ true) e (scope-same x)

-- the scopes of keys have a scope where one of the keys is of it
pub scopes-have : (ks : List KeyId) (s : Scope) → has same_scope (map (λ k. k.scope) ks) s ≡ list_any (λ k. same_scope k.scope s) ks
scopes-have [] s = refl
scopes-have (k ∷ ks) s = λ i. same-turned s k.scope i || scopes-have ks s i

pub device-without : (holding : List Scope) (k : KeyId) (s : Scope) (d : Name) → s ≡ Device d → has same_scope holding s ≡ false → unreached_by holding k s ≡ Unreached k d ∷ []
device-without holding k s d is none =
    ap (λ u. unreached_by holding k u) is ∙ ap (λ b. cond b [] (Unreached k d ∷ [])) (subst (λ u. has same_scope holding u ≡ false) is none)

pub device-held : (holding : List Scope) (k : KeyId) (s : Scope) (d : Name) → s ≡ Device d → has same_scope holding s ≡ true → unreached_by holding k s ≡ []
device-held holding k s d is some =
    ap (λ u. unreached_by holding k u) is ∙ ap (λ b. cond b [] (Unreached k d ∷ [])) (subst (λ u. has same_scope holding u ≡ true) is some)

module _ (t : Table) (law : IsOrdered t) (k : KeyId) (current : IsIn k (current_keys t)) where
  module _ (meeting : List Scope) (met : IsListOf scope_cmp (closure same_scope (turned_arrows t) (k.scope ∷ [])) meeting) where
    met-forth : (s : Scope) → has same_scope meeting s ≡ true → Reaches (turned (scope_arrows t)) (k.scope ∷ []) s
    met-forth s h =
        subst (λ arrows. Reaches arrows (k.scope ∷ []) s) (turned-is t)
        ((closure-reaches same_scope scope-decides (turned_arrows t) (k.scope ∷ []) s).0 (sym (met.exact s) ∙ h))

    met-back : (s : Scope) → Reaches (turned (scope_arrows t)) (k.scope ∷ []) s → has same_scope meeting s ≡ true
    met-back s r =
        met.exact s ∙ (closure-reaches same_scope scope-decides (turned_arrows t) (k.scope ∷ []) s).1 (subst (λ arrows. Reaches arrows (k.scope ∷ []) s) (sym (turned-is t)) r)

    met-live : (s : Scope) → Reaches (turned_arrows t) (k.scope ∷ []) s → IsIn s t.scopes
    met-live _ (is_given s (inl e)) = subst (λ u. IsIn u t.scopes) e (in-has-scope t.scopes k.scope (of-current t law k current).1)
    met-live _ (is_given s (inr j)) = absurd j
    met-live _ (follows u s j r) =
        let from = of-flat (turned_from t) t.scopes (u, s) j in
        let to = of-map (λ b. (b, from.0)) (u, s) (filter (t.allowed from.0) t.scopes) from.2 in
        subst (λ w. IsIn w t.scopes) (ap (λ p. p.1) to.2) from.1

    -- a live device is entitled to the key where it is met
    entitled-is : (d : Name) → IsIn (Device d) t.scopes → has same_scope meeting (Device d) ≡ is_entitled t d k.scope
    entitled-is d live = same_answer (has same_scope meeting (Device d)) (is_entitled t d k.scope) forth back
      where
        given : List Scope
        given = filter (same_scope (Device d)) t.scopes

        forth : has same_scope meeting (Device d) ≡ true → is_entitled t d k.scope ≡ true
        forth h =
            let start : Reaches (scope_arrows t) (filter (same_scope (Device d)) t.scopes) (Device d) = is_given (Device d) (in_filter (same_scope (Device d)) (Device d) t.scopes live (scope-same (Device d))) in
            (closure-reaches same_scope scope-decides (scope_arrows t) (filter (same_scope (Device d)) t.scopes) k.scope).1
            (back-reaches (scope_arrows t) (filter (same_scope (Device d)) t.scopes) k.scope (Device d) (met-forth (Device d) h) start)

        back : is_entitled t d k.scope ≡ true → has same_scope meeting (Device d) ≡ true
        back h =
            let r = (closure-reaches same_scope scope-decides (scope_arrows t) (filter (same_scope (Device d)) t.scopes) k.scope).0 h in
            let from = origin (scope_arrows t) (filter (same_scope (Device d)) t.scopes) k.scope r in
            let found = of_filter (same_scope (Device d)) from.0 t.scopes from.1 in
            met-back (Device d) (subst (λ s. Reaches (turned (scope_arrows t)) (k.scope ∷ []) s) (sym (scope-is (Device d) from.0 found.1)) from.2)

    -- those that are met are the live ones that are met, in order
    met-are : meeting ≡ filter (has same_scope meeting) t.scopes
    met-are = one-list scope_cmp scope-total meeting (filter (has same_scope meeting) t.scopes) met.ascends (IsStrictlySortedBy-filter scope_cmp (has same_scope meeting) t.scopes law.ascends) forth back
      where
        forth : (s : Scope) → IsIn s meeting → IsIn s (filter (has same_scope meeting) t.scopes)
        forth s j =
            let h = has-in-scope meeting s j in
            in_filter (has same_scope meeting) s t.scopes (met-live s ((closure-reaches same_scope scope-decides (turned_arrows t) (k.scope ∷ []) s).0 (sym (met.exact s) ∙ h))) h

        back : (s : Scope) → IsIn s (filter (has same_scope meeting) t.scopes) → IsIn s meeting
        back s j = in-has-scope meeting s (of_filter (has same_scope meeting) s t.scopes j).1

  module _ (holders : List KeyId) (held : IsListOf key_cmp (closure same_key (turned (box_arrows t.boxes)) (k ∷ [])) holders)
      (holding : List Scope) (list : IsListOf scope_cmp (map (λ h. h.scope) (filter (has same_key (current_keys t)) holders)) holding) where
    -- a live device's own key reaches the key where the device is among those that hold it
    reached-is : (d : Name) → IsIn (Device d) t.scopes → has same_scope holding (Device d) ≡ has same_key (reach t.boxes (keys_of t (Device d))) k
    reached-is d live = same_answer (has same_scope holding (Device d)) (has same_key (reach t.boxes (keys_of t (Device d))) k) forth back
      where
        forth : has same_scope holding (Device d) ≡ true → has same_key (reach t.boxes (keys_of t (Device d))) k ≡ true
        forth h =
            let there = in-has-scope (map (λ h. h.scope) (filter (has same_key (current_keys t)) holders)) (Device d) (sym (list.exact (Device d)) ∙ h) in
            let holder = of-map (λ h. h.scope) (Device d) (filter (has same_key (current_keys t)) holders) there in
            let found = of_filter (has same_key (current_keys t)) holder.0 holders holder.1 in
            let known = of-current t law holder.0 (in-has-key (current_keys t) holder.0 found.1) in
            let own : IsIn holder.0 (keys_of t (Device d)) = subst (λ s. IsIn holder.0 (keys_of t s)) holder.2 (in-scope t law holder.0 known.0) in
            let back = (closure-reaches same_key key-decides (turned (box_arrows t.boxes)) (k ∷ []) holder.0).0 (sym (held.exact holder.0) ∙ has-in-key holders holder.0 found.0) in
            (closure-reaches same_key key-decides (box_arrows t.boxes) (keys_of t (Device d)) k).1
            (back-reaches (box_arrows t.boxes) (keys_of t (Device d)) k holder.0 back (is_given holder.0 own))

        back : has same_key (reach t.boxes (keys_of t (Device d))) k ≡ true → has same_scope holding (Device d) ≡ true
        back h =
            let r = (closure-reaches same_key key-decides (box_arrows t.boxes) (keys_of t (Device d)) k).0 h in
            let from = origin (box_arrows t.boxes) (keys_of t (Device d)) k r in
            let found = of_filter (λ i. same_scope i.scope (Device d)) from.0 t.currents from.1 in
            let own : from.0.scope ≡ Device d = scope-is from.0.scope (Device d) found.1 in
            let here = in-current t law from.0 found.0 (subst (λ s. is_live t s ≡ true) (sym own) (has-in-scope t.scopes (Device d) live)) in
            let holder = in-has-key holders from.0 (held.exact from.0 ∙ (closure-reaches same_key key-decides (turned (box_arrows t.boxes)) (k ∷ []) from.0).1 from.2) in
            let kept = in_filter (has same_key (current_keys t)) from.0 holders holder (has-in-key (current_keys t) from.0 here) in
            list.exact (Device d) ∙ has-in-scope (map (λ h. h.scope) (filter (has same_key (current_keys t)) holders)) (Device d)
            (subst (λ s. IsIn s (map (λ h. h.scope) (filter (has same_key (current_keys t)) holders))) own (in-map (λ h. h.scope) from.0 (filter (has same_key (current_keys t)) holders) kept))

    module _ (meeting : List Scope) (met : IsListOf scope_cmp (closure same_scope (turned_arrows t) (k.scope ∷ [])) meeting) where
      step : (d : Name) (ss : List Scope) (ds : List Name) (b c p : Bool) → has same_scope holding (Device d) ≡ c → (b && not c) ≡ p
          → flat_map (unreached_by holding k) ss ≡ map (λ d. Unreached k d) ds
          → flat_map (unreached_by holding k) (cond b (Device d ∷ ss) ss) ≡ map (λ d. Unreached k d) (cond p (d ∷ ds) ds)
      step d ss ds false c p e f rest = subst (λ q. flat_map (unreached_by holding k) ss ≡ map (λ d. Unreached k d) (cond q (d ∷ ds) ds)) f rest
      step d ss ds true true p e f rest =
          subst (λ q. unreached_by holding k (Device d) ++ flat_map (unreached_by holding k) ss ≡ map (λ d. Unreached k d) (cond q (d ∷ ds) ds)) f
          (ap (λ c. cond c [] (Unreached k d ∷ []) ++ flat_map (unreached_by holding k) ss) e ∙ rest)
      step d ss ds true false p e f rest =
          subst (λ q. unreached_by holding k (Device d) ++ flat_map (unreached_by holding k) ss ≡ map (λ d. Unreached k d) (cond q (d ∷ ds) ds)) f
          (ap (λ c. cond c [] (Unreached k d ∷ []) ++ flat_map (unreached_by holding k) ss) e ∙ ap (λ l. Unreached k d ∷ l) rest)

      each : (ss : List Scope) → ((s : Scope) → IsIn s ss → IsIn s t.scopes)
          → flat_map (unreached_by holding k) (filter (has same_scope meeting) ss) ≡ map (λ d. Unreached k d) (filter (is_unreached t k) (flat_map device_of ss))
      each [] all = refl
      each (Team ∷ ss) all = skip (has same_scope meeting Team) (each ss (λ s j. all s (inr j)))
        where
          skip : (b : Bool) → flat_map (unreached_by holding k) (filter (has same_scope meeting) ss) ≡ map (λ d. Unreached k d) (filter (is_unreached t k) (flat_map device_of ss))
              → flat_map (unreached_by holding k) (cond b (Team ∷ filter (has same_scope meeting) ss) (filter (has same_scope meeting) ss)) ≡ map (λ d. Unreached k d) (filter (is_unreached t k) (flat_map device_of ss))
          skip true e = e
          skip false e = e
      each (Role r ∷ ss) all = skip (has same_scope meeting (Role r)) (each ss (λ s j. all s (inr j)))
        where
          skip : (b : Bool) → flat_map (unreached_by holding k) (filter (has same_scope meeting) ss) ≡ map (λ d. Unreached k d) (filter (is_unreached t k) (flat_map device_of ss))
              → flat_map (unreached_by holding k) (cond b (Role r ∷ filter (has same_scope meeting) ss) (filter (has same_scope meeting) ss)) ≡ map (λ d. Unreached k d) (filter (is_unreached t k) (flat_map device_of ss))
          skip true e = e
          skip false e = e
      each (User u ∷ ss) all = skip (has same_scope meeting (User u)) (each ss (λ s j. all s (inr j)))
        where
          skip : (b : Bool) → flat_map (unreached_by holding k) (filter (has same_scope meeting) ss) ≡ map (λ d. Unreached k d) (filter (is_unreached t k) (flat_map device_of ss))
              → flat_map (unreached_by holding k) (cond b (User u ∷ filter (has same_scope meeting) ss) (filter (has same_scope meeting) ss)) ≡ map (λ d. Unreached k d) (filter (is_unreached t k) (flat_map device_of ss))
          skip true e = e
          skip false e = e
      each (Device d ∷ ss) all =
          step d (filter (has same_scope meeting) ss) (filter (is_unreached t k) (flat_map device_of ss)) (has same_scope meeting (Device d)) (has same_scope holding (Device d)) (is_unreached t k d) refl
          (λ i. entitled-is meeting met d (all (Device d) (inl refl)) i && not (reached-is d (all (Device d) (inl refl)) i)) (each ss (λ s j. all s (inr j)))

      pub unreached-are : flat_map (unreached_by holding k) meeting ≡ unreached_of t (device_names t) k
      unreached-are = ap (λ l. flat_map (unreached_by holding k) l) (met-are meeting met) ∙ each t.scopes (λ s j. j)
