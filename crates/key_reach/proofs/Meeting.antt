-- Four steps along allowed arrows meet all that a device is entitled to.
use Rattle.std.proofs.Common.{◌≡◌, ℕ, zero, suc, ◌-◌, ◌<◌, ◌≤◌, Bool, true, false, not, ◌&&◌, ◌||◌, cond, List, [], ◌∷◌, map, filter, flat_map, refl, sym, ap, subst, inl, inr, ◌⊎◌, codes, arith}
use Rattle.std.specs.List.{list_any}
use Rattle.std.specs.Ordering.{is_eq, is_lt, nat_cmp, ordering_reverse}
use Rattle.std.specs.Cmp.Lexicographic.{slice_cmp, nat_list_cmp_total}
use Rattle.std.specs.FinMap.{slice_cmp-IsAntisymmetric, nat_cmp-IsAntisymmetric}
use Rattle.std.specs.declared.cmp.Ordering.{Ordering}
use Rattle.std.specs.declared.cmp.Ordering.TheVariants.{Less, Equal, Greater}
use Rattle.std.proofs.lemmas.Bool.{false≢true, and_parts, and_from, or_cases, or_left, or_right, not-true}
use Rattle.team_sets.specs.Names.{Name, same_name}
use Rattle.team_sets.specs.Members.{IsIn}
use Rattle.team_sets.specs.Closure.{has, Reaches, is_given, follows}
use Rattle.team_sets.proofs.Agree.{any_in, same_answer}
use Rattle.team_sets.proofs.Closures.{closure-reaches}
use Rattle.team_sets.proofs.OrderLeast.{in_filter, of_filter}
use Rattle.team_sets.proofs.Pasts.{any_of}
use Rattle.tg_text.specs.declared.keys.Scope.{Scope}
use Rattle.tg_text.specs.declared.keys.Scope.TheVariants.{Team, Role, User, Device}
use Rattle.key_reach.specs.Keys.{Table, same_scope, scope_arrows, is_entitled, is_live}
use Rattle.key_reach.specs.Laws.{IsKeyTable, may_lead}
use Rattle.key_reach.specs.Steps.{met}
use Rattle.key_reach.proofs.Members.{in-either, in-left, in-right}

pub names_same : (a b : Name) → is_eq (slice_cmp nat_cmp a b) ≡ true → a ≡ b
names_same a b h = go (slice_cmp nat_cmp a b) refl h
  where
    go : (r : Ordering) → slice_cmp nat_cmp a b ≡ r → is_eq r ≡ true → a ≡ b
    go Less e k = absurd (false≢true k)
    go Equal e k = slice_cmp-IsAntisymmetric nat_cmp-IsAntisymmetric a b e
    go Greater e k = absurd (false≢true k)

pub names_equal : (a : Name) → is_eq (slice_cmp nat_cmp a a) ≡ true
names_equal a = go (slice_cmp nat_cmp a a) (nat_list_cmp_total.antisymm a a)
  where
    go : (r : Ordering) → r ≡ ordering_reverse r → is_eq r ≡ true
    go Less e = absurd (false≢true (sym (ap is_lt e)))
    go Equal e = refl
    go Greater e = absurd (false≢true (ap is_lt e))

pub scope-is : (a b : Scope) → same_scope a b ≡ true → a ≡ b
scope-is Team Team h = refl
scope-is Team (Role b) h = absurd (false≢true h)
scope-is Team (User b) h = absurd (false≢true h)
scope-is Team (Device b) h = absurd (false≢true h)
scope-is (Role a) Team h = absurd (false≢true h)
scope-is (Role a) (Role b) h = ap Role (names_same a b h)
scope-is (Role a) (User b) h = absurd (false≢true h)
scope-is (Role a) (Device b) h = absurd (false≢true h)
scope-is (User a) Team h = absurd (false≢true h)
scope-is (User a) (Role b) h = absurd (false≢true h)
scope-is (User a) (User b) h = ap User (names_same a b h)
scope-is (User a) (Device b) h = absurd (false≢true h)
scope-is (Device a) Team h = absurd (false≢true h)
scope-is (Device a) (Role b) h = absurd (false≢true h)
scope-is (Device a) (User b) h = absurd (false≢true h)
scope-is (Device a) (Device b) h = ap Device (names_same a b h)

pub scope-same : (a : Scope) → same_scope a a ≡ true
scope-same Team = refl
scope-same (Role a) = names_equal a
scope-same (User a) = names_equal a
scope-same (Device a) = names_equal a

pub scope-decides : (x y : Scope) → (same_scope x y ≡ true → x ≡ y) × (x ≡ y → same_scope x y ≡ true)
scope-decides x y = (scope-is x y, λ e. subst (λ z. same_scope x z ≡ true) e (scope-same x))

pub in-has-scope : (xs : List Scope) (x : Scope) → has same_scope xs x ≡ true → IsIn x xs
in-has-scope xs x h = let found = any_of (same_scope x) xs h in subst (λ y. IsIn y xs) (sym (scope-is x found.0 found.2)) found.1

module _ (allowed : Scope → Scope → Bool) (scopes : List Scope) where
  heads : Scope → List Scope → List (Scope × Scope)
  heads a bs = map (λ b. (a, b)) bs

  in_heads : (a b : Scope) (bs : List Scope) → IsIn b bs → IsIn {A = Scope × Scope} (a, b) (map (λ b. (a, b)) bs)
  in_heads a b [] k = absurd k
  in_heads a b (x ∷ xs) (inl e) = inl (ap (λ y. (a, y)) e)
  in_heads a b (x ∷ xs) (inr k) = inr (in_heads a b xs k)

  of_heads : (a : Scope) (p : Scope × Scope) (bs : List Scope) → IsIn {A = Scope × Scope} p (map (λ b. (a, b)) bs) → (a ≡ p.0) × IsIn p.1 bs
  of_heads a p [] k = absurd k
  of_heads a p (x ∷ xs) (inl e) = (ap (λ q. q.0) e, inl (ap (λ q. q.1) e))
  of_heads a p (x ∷ xs) (inr k) = let h = of_heads a p xs k in (h.0, inr h.1)

  pub in_arrows : (a b : Scope) (from : List Scope) → IsIn a from → IsIn b scopes → allowed a b ≡ true
      → IsIn {A = Scope × Scope} (a, b) (flat_map (λ a. map (λ b. (a, b)) (filter (allowed a) scopes)) from)
  in_arrows a b [] k j h = absurd k
  in_arrows a b (x ∷ xs) (inl e) j h =
      in-left (map (λ b. (x, b)) (filter (allowed x) scopes)) (flat_map (λ a. map (λ b. (a, b)) (filter (allowed a) scopes)) xs) (a, b)
      (subst (λ y. IsIn {A = Scope × Scope} (a, b) (map (λ b. (y, b)) (filter (allowed y) scopes))) (sym e) (in_heads a b (filter (allowed a) scopes) (in_filter (allowed a) b scopes j h)))
  in_arrows a b (x ∷ xs) (inr k) j h =
      in-right (map (λ b. (x, b)) (filter (allowed x) scopes)) (flat_map (λ a. map (λ b. (a, b)) (filter (allowed a) scopes)) xs) (a, b) (in_arrows a b xs k j h)

  pub of_arrows : (p : Scope × Scope) (from : List Scope) → IsIn {A = Scope × Scope} p (flat_map (λ a. map (λ b. (a, b)) (filter (allowed a) scopes)) from) → (allowed p.0 p.1 ≡ true) × IsIn p.1 scopes
  of_arrows p [] k = absurd k
  of_arrows p (x ∷ xs) k = go (in-either (map (λ b. (x, b)) (filter (allowed x) scopes)) (flat_map (λ a. map (λ b. (a, b)) (filter (allowed a) scopes)) xs) p k) (of_arrows p xs)
    where
      go : IsIn {A = Scope × Scope} p (map (λ b. (x, b)) (filter (allowed x) scopes)) ⊎ IsIn {A = Scope × Scope} p (flat_map (λ a. map (λ b. (a, b)) (filter (allowed a) scopes)) xs)
          → (IsIn {A = Scope × Scope} p (flat_map (λ a. map (λ b. (a, b)) (filter (allowed a) scopes)) xs) → (allowed p.0 p.1 ≡ true) × IsIn p.1 scopes) → (allowed p.0 p.1 ≡ true) × IsIn p.1 scopes
      go (inl h) more =
          let at = of_heads x p (filter (allowed x) scopes) h in
          let found = of_filter (allowed x) p.1 scopes at.1 in
          (subst (λ y. allowed y p.1 ≡ true) at.0 found.1, found.0)
      go (inr h) more = more h

-- how far down a scope stands: each allowed arrow leads further
abbrev rank : Scope → ℕ
rank (Device d) = 0
rank (User u) = 1
rank (Role r) = cond (same_name r (codes "admin")) 2 3
rank Team = 4

ranks : (a b : Scope) → may_lead a b ≡ true → rank a < rank b
ranks Team Team h = absurd (false≢true h)
ranks Team (Role b) h = absurd (false≢true h)
ranks Team (User b) h = absurd (false≢true h)
ranks Team (Device b) h = absurd (false≢true h)
ranks (Role a) Team h = go (same_name a (codes "admin"))
  where
    go : (b : Bool) → cond b 2 3 < 4
    go true = omega arith
    go false = omega arith
ranks (Role a) (Role b) h =
    let parts = and_parts (same_name a (codes "admin")) (not (same_name b (codes "admin"))) h in
    let other : same_name b (codes "admin") ≡ false = not-true (same_name b (codes "admin")) parts.1 in
    rw (parts.0, other) (omega arith)
ranks (Role a) (User b) h = absurd (false≢true h)
ranks (Role a) (Device b) h = absurd (false≢true h)
ranks (User a) Team h = omega arith
ranks (User a) (Role b) h = go (same_name b (codes "admin"))
  where
    go : (c : Bool) → 1 < cond c 2 3
    go true = omega arith
    go false = omega arith
ranks (User a) (User b) h = absurd (false≢true h)
ranks (User a) (Device b) h = absurd (false≢true h)
ranks (Device a) Team h = absurd (false≢true h)
ranks (Device a) (Role b) h = absurd (false≢true h)
ranks (Device a) (User b) h = omega arith
ranks (Device a) (Device b) h = absurd (false≢true h)

rank_within : (a : Scope) → rank a ≤ 4
rank_within Team = omega arith
rank_within (Role a) = go (same_name a (codes "admin"))
  where
    go : (b : Bool) → cond b 2 3 ≤ 4
    go true = omega arith
    go false = omega arith
rank_within (User a) = omega arith
rank_within (Device a) = omega arith

module _ (t : Table) (law : IsKeyTable t) where
  step : ℕ → Scope → Scope → Scope → Bool
  step n x z m = t.allowed x m && met t n m z

  met_here : (n : ℕ) (x y : Scope) → same_scope x y ≡ true → met t n x y ≡ true
  met_here zero x y h = h
  met_here (suc n) x y h = or_left (same_scope x y) (list_any (λ m. t.allowed x m && met t n m y) t.scopes) h

  met_by : (n : ℕ) (x m z : Scope) → t.allowed x m ≡ true → met t n m z ≡ true → met t (suc n) x z ≡ true
  met_by n x m z h k =
      or_right (same_scope x z) (list_any (λ m. t.allowed x m && met t n m z) t.scopes)
      (any_in (λ m. t.allowed x m && met t n m z) t.scopes m (in-has-scope t.scopes m (law.joins_live x m h).1) (and_from (t.allowed x m) (met t n m z) h k))

  met_more : (n m : ℕ) (x y : Scope) → n ≤ m → met t n x y ≡ true → met t m x y ≡ true
  met_more zero m x y le h = met_here m x y h
  met_more (suc n) zero x y le h = absurd (omega (arith, le))
  met_more (suc n) (suc m) x y le h = go (or_cases (same_scope x y) (list_any (λ k. t.allowed x k && met t n k y) t.scopes) h) (λ k. met_more n m k y (omega (arith, le)))
    where
      go : (same_scope x y ≡ true) ⊎ (list_any (λ k. t.allowed x k && met t n k y) t.scopes ≡ true) → ((k : Scope) → met t n k y ≡ true → met t m k y ≡ true) → met t (suc m) x y ≡ true
      go (inl e) more = met_here (suc m) x y e
      go (inr k) more =
          let found = any_of (λ k. t.allowed x k && met t n k y) t.scopes k in
          let parts = and_parts (t.allowed x found.0) (met t n found.0 y) found.2 in
          met_by m x found.0 y parts.0 (more found.0 parts.1)

  met_then : (n : ℕ) (x y z : Scope) → met t n x y ≡ true → t.allowed y z ≡ true → met t (suc n) x z ≡ true
  met_then zero x y z h a = met_by zero x z z (subst (λ w. t.allowed w z ≡ true) (sym (scope-is x y h)) a) (scope-same z)
  met_then (suc n) x y z h a = go (or_cases (same_scope x y) (list_any (λ k. t.allowed x k && met t n k y) t.scopes) h) (λ k j. met_then n k y z j a)
    where
      go : (same_scope x y ≡ true) ⊎ (list_any (λ k. t.allowed x k && met t n k y) t.scopes ≡ true) → ((k : Scope) → met t n k y ≡ true → met t (suc n) k z ≡ true) → met t (suc (suc n)) x z ≡ true
      go (inl e) more = met_by (suc n) x z z (subst (λ w. t.allowed w z ≡ true) (sym (scope-is x y e)) a) (met_here (suc n) z z (scope-same z))
      go (inr k) more =
          let found = any_of (λ k. t.allowed x k && met t n k y) t.scopes k in
          let parts = and_parts (t.allowed x found.0) (met t n found.0 y) found.2 in
          met_by (suc n) x found.0 z parts.0 (more found.0 parts.1)

  met_reached : (given : List Scope) (n : ℕ) (x y : Scope) → met t n x y ≡ true → Reaches (scope_arrows t) given x → Reaches (scope_arrows t) given y
  met_reached given zero x y h r = subst (λ w. Reaches (scope_arrows t) given w) (scope-is x y h) r
  met_reached given (suc n) x y h r = go (or_cases (same_scope x y) (list_any (λ k. t.allowed x k && met t n k y) t.scopes) h) (λ k. met_reached given n k y)
    where
      go : (same_scope x y ≡ true) ⊎ (list_any (λ k. t.allowed x k && met t n k y) t.scopes ≡ true)
          → ((k : Scope) → met t n k y ≡ true → Reaches (scope_arrows t) given k → Reaches (scope_arrows t) given y) → Reaches (scope_arrows t) given y
      go (inl e) more = subst (λ w. Reaches (scope_arrows t) given w) (scope-is x y e) r
      go (inr k) more =
          let found = any_of (λ k. t.allowed x k && met t n k y) t.scopes k in
          let parts = and_parts (t.allowed x found.0) (met t n found.0 y) found.2 in
          more found.0 parts.1
          (follows x found.0 (in_arrows t.allowed t.scopes x found.0 t.scopes (in-has-scope t.scopes x (law.joins_live x found.0 parts.0).0) found.1 parts.0) r)

  reached_met : (d : Name) (y : Scope) → Reaches (scope_arrows t) (filter (same_scope (Device d)) t.scopes) y → met t (rank y) (Device d) y ≡ true
  reached_met d _ (is_given x k) = met_here (rank x) (Device d) x (of_filter (same_scope (Device d)) x t.scopes k).1
  reached_met d _ (follows x y k r) =
      let arrow = (of_arrows t.allowed t.scopes (x, y) t.scopes k).0 in
      let further : rank x < rank y = ranks x y (law.leads x y arrow) in
      met_more (suc (rank x)) (rank y) (Device d) y (omega (arith, further)) (met_then (rank x) (Device d) x y (reached_met d x r) arrow)

  -- whoever is met has a start that is live
  reached_live : (d : Name) (y : Scope) → Reaches (scope_arrows t) (filter (same_scope (Device d)) t.scopes) y → is_live t (Device d) ≡ true
  reached_live d _ (is_given x k) =
      let found = of_filter (same_scope (Device d)) x t.scopes k in any_in (same_scope (Device d)) t.scopes x found.0 found.1
  reached_live d _ (follows x y k r) = reached_live d x r

  pub entitled-met : (d : Name) (s : Scope) → (is_live t (Device d) && met t 4 (Device d) s) ≡ is_entitled t d s
  entitled-met d s = same_answer (is_live t (Device d) && met t 4 (Device d) s) (is_entitled t d s) forth back
    where
      given : List Scope
      given = filter (same_scope (Device d)) t.scopes

      forth : (is_live t (Device d) && met t 4 (Device d) s) ≡ true → is_entitled t d s ≡ true
      forth h =
          let parts = and_parts (is_live t (Device d)) (met t 4 (Device d) s) h in
          let start = in_filter (same_scope (Device d)) (Device d) t.scopes (in-has-scope t.scopes (Device d) parts.0) (scope-same (Device d)) in
          (closure-reaches same_scope scope-decides (scope_arrows t) given s).1 (met_reached given 4 (Device d) s parts.1 (is_given (Device d) start))

      back : is_entitled t d s ≡ true → (is_live t (Device d) && met t 4 (Device d) s) ≡ true
      back h =
          let r = (closure-reaches same_scope scope-decides (scope_arrows t) given s).0 h in
          and_from (is_live t (Device d)) (met t 4 (Device d) s) (reached_live d s r) (met_more (rank s) 4 (Device d) s (rank_within s) (reached_met d s r))

-- one step of the search
pub met-step : (t : Table) (n : ℕ) (from to : Scope) → (n ≡ 0 → ⊥) → met t n from to ≡ (same_scope from to || list_any (λ m. t.allowed from m && met t (n - 1) m to) t.scopes)
met-step t zero from to some = absurd (some refl)
met-step t (suc n) from to some = let e : suc n - 1 ≡ n = omega arith in rw e refl
