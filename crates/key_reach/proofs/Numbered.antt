-- What a graph with numbered nodes reaches is what the graph reaches.
use Rattle.std.proofs.Common.{◌≡◌, ℕ, zero, suc, ◌<◌, ◌≤◌, Bool, true, false, List, [], ◌∷◌, refl, sym, ◌∙◌, ap, subst, inl, inr, ◌⊎◌, length, get_or, map, fold, Option, Some, None, arith}
use Rattle.std.specs.List.{All, slice_get, AllByRecursion}
use Rattle.std.specs.List.Sorted.{IsStrictlySortedBy}
use Rattle.std.specs.Cmp.{IsTotalOrder, nat_cmp_is, nat_cmp_total}
use Rattle.std.specs.FinMap.{nat_cmp-IsAntisymmetric}
use Rattle.std.proofs.lemmas.List.Elements.{recursion_from_All}
use Rattle.std.specs.Ordering.{eq_by_cmp, is_eq, nat_cmp, ordering_reverse}
use Rattle.std.specs.declared.cmp.Ordering.{Ordering}
use Rattle.std.specs.declared.cmp.Ordering.TheVariants.{Less, Equal, Greater}
use Rattle.std.proofs.lemmas.Bool.{false≢true, cases_lt}
use Rattle.std.proofs.lemmas.Option.{get_or_from_slice_get, slice_get_within}
use Rattle.std.proofs.lemmas.Map.Keys.{Less-from_sorted}
use Rattle.team_sets.specs.Members.{IsIn}
use Rattle.team_sets.specs.Closure.{has, closure, Reaches, is_given, follows}
use Rattle.team_sets.proofs.Agree.{any_in, same_answer}
use Rattle.team_sets.proofs.Pasts.{any_of, all_at}
use Rattle.team_sets.proofs.Closures.{closure-reaches}
use Rattle.key_reach.specs.Numbers.{added, AreReached}
use Rattle.key_reach.specs.Graphs.{found, IsGraph, nodes_with}
use Rattle.key_reach.specs.Lists.{IsListOf}
use Rattle.key_reach.proofs.Walked.{has-all, of-all}

pub in-map : {A B : Type 0} (f : A → B) (x : A) (xs : List A) → IsIn x xs → IsIn (f x) (map f xs)
in-map f x [] k = absurd k
in-map f x (y ∷ ys) (inl e) = inl (ap f e)
in-map f x (y ∷ ys) (inr k) = inr (in-map f x ys k)

pub of-map : {A B : Type 0} (f : A → B) (y : B) (xs : List A) → IsIn y (map f xs) → (x : A) × IsIn x xs × (f x ≡ y)
of-map f y [] k = absurd k
of-map f y (x ∷ xs) (inl e) = (x, inl refl, e)
of-map f y (x ∷ xs) (inr k) = let r = of-map f y xs k in (r.0, inr r.1, r.2)

abbrev is_less : Ordering → Bool
is_less Less = true
is_less Equal = false
is_less Greater = false

nat_less : (a b : ℕ) → nat_cmp a b ≡ Less → a < b
nat_less a b e = go (cases_lt a b) (cases_lt b a)
  where
    go : (a < b) ⊎ (b ≤ a) → (b < a) ⊎ (a ≤ b) → a < b
    go (inl lt) other = lt
    go (inr le) (inl gt) = absurd (false≢true (ap is_less (nat_cmp_is a b Greater gt ∙ e)))
    go (inr le) (inr ge) = absurd (false≢true (ap is_less (nat_cmp_is a b Equal (omega (arith, le, ge)) ∙ e)))

nat_tells : (a b : ℕ) → eq_by_cmp nat_cmp a b ≡ true → a ≡ b
nat_tells a b h = nat_cmp-IsAntisymmetric a b (is_equal (nat_cmp a b) h)
  where
    is_equal : (r : Ordering) → is_eq r ≡ true → r ≡ Equal
    is_equal Less e = absurd (false≢true e)
    is_equal Equal e = refl
    is_equal Greater e = absurd (false≢true e)

abbrev or_else : {A : Type 0} → A → Option A → A
or_else d (Some x) = x
or_else d None = d

pub same-some : {A : Type 0} (x y : A) → Some x ≡ Some y → x ≡ y
same-some x y e = ap (λ o. or_else x o) e

pub reaches-given : {A : Type 0} (arrows : List (A × A)) (given others : List A) → ((x : A) → IsIn x given → IsIn x others) → (x : A) → Reaches arrows given x → Reaches arrows others x
reaches-given arrows given others more _ (is_given x k) = is_given x (more x k)
reaches-given arrows given others more _ (follows x y k r) = follows x y k (reaches-given arrows given others more x r)

module _ {A : Type 0} (cmp : A → A → Ordering) (order : IsTotalOrder cmp) where
  pub same-itself : (x : A) → eq_by_cmp cmp x x ≡ true
  same-itself x = go (cmp x x) (order.antisymm x x)
    where
      go : (r : Ordering) → r ≡ ordering_reverse r → is_eq r ≡ true
      go Less e = absurd (false≢true (ap is_greater e))
        where
          is_greater : Ordering → Bool
          is_greater Less = false
          is_greater Equal = false
          is_greater Greater = true
      go Equal e = refl
      go Greater e = absurd (false≢true (ap is_less e))

  not-below-itself : (x : A) → cmp x x ≡ Less → ⊥
  not-below-itself x e = false≢true (sym (ap is_eq e) ∙ same-itself x)

  rises : (nodes : List A) → IsStrictlySortedBy cmp nodes → (i j : ℕ) (x y : A) → i < j → slice_get nodes i ≡ Some x → slice_get nodes j ≡ Some y → cmp x y ≡ Less
  rises nodes up i j x y lt at there =
      let less = Less-from_sorted cmp nodes i j x up lt (slice_get_within nodes j y there) in
      rw (get_or_from_slice_get nodes i x x at, get_or_from_slice_get nodes j y x there) at less

  one-place : (nodes : List A) → IsStrictlySortedBy cmp nodes → (i j : ℕ) (x : A) → slice_get nodes i ≡ Some x → slice_get nodes j ≡ Some x → i ≡ j
  one-place nodes up i j x at there = go (cases_lt i j) (cases_lt j i)
    where
      go : (i < j) ⊎ (j ≤ i) → (j < i) ⊎ (i ≤ j) → i ≡ j
      go (inl lt) other = absurd (not-below-itself x (rises nodes up i j x x lt at there))
      go (inr le) (inl lt) = absurd (not-below-itself x (rises nodes up j i x x lt there at))
      go (inr le) (inr ge) = omega (arith, le, ge)

  module _ (tells : (x y : A) → eq_by_cmp cmp x y ≡ true → x ≡ y) where
    pub decides-by : (x y : A) → (eq_by_cmp cmp x y ≡ true → x ≡ y) × (x ≡ y → eq_by_cmp cmp x y ≡ true)
    decides-by x y = (tells x y, λ e. subst (λ z. eq_by_cmp cmp x z ≡ true) e (same-itself x))

    pub has-here : (xs : List A) (x : A) → IsIn x xs → has (eq_by_cmp cmp) xs x ≡ true
    has-here xs x k = any_in (eq_by_cmp cmp x) xs x k (same-itself x)

    pub here-has : (xs : List A) (x : A) → has (eq_by_cmp cmp) xs x ≡ true → IsIn x xs
    here-has xs x h = let f = any_of (eq_by_cmp cmp x) xs h in subst (λ y. IsIn y xs) (sym (tells x f.0 f.2)) f.1

pub places-within : (size : ℕ) (members places : List ℕ) → All (λ n. n < size) members → IsListOf nat_cmp members places → All (λ n. n < size) places
places-within size members places all list k d lt =
    let here = has-here nat_cmp nat_cmp_total nat_tells places (get_or places k d) (at places k d lt) in
    let there = here-has nat_cmp nat_cmp_total nat_tells members (get_or places k d) (sym (list.exact (get_or places k d)) ∙ here) in
    all_at (λ n. n < size) members (recursion_from_All (λ n. n < size) members all) (get_or places k d) there
  where
    at : (xs : List ℕ) (k d : ℕ) → k < length xs → IsIn (get_or xs k d) xs
    at [] k d lt = absurd (omega (arith, lt))
    at (x ∷ xs) zero d lt = inl refl
    at (x ∷ xs) (suc k) d lt = inr (at xs k d (omega (arith, lt)))

module _ {A : Type 0} (cmp : A → A → Ordering) (order : IsTotalOrder cmp) where
  module _ (arrows : List (A × A)) (nodes : List A) (numbers : List (ℕ × ℕ)) (is : IsGraph cmp arrows nodes numbers) (starts : List ℕ) (from : List A) (named : nodes_with nodes starts ≡ found from) where
    reached-forth : (i : ℕ) → Reaches numbers starts i → (x : A) → slice_get nodes i ≡ Some x → Reaches arrows from x
    reached-forth _ (is_given i k) x at =
        let there = subst (λ l. IsIn (slice_get nodes i) l) named (in-map (λ n. slice_get nodes n) i starts k) in
        let given = of-map (λ y. Some y) (slice_get nodes i) from there in
        is_given x (subst (λ y. IsIn y from) (same-some given.0 x (given.2 ∙ at)) given.1)
    reached-forth _ (follows i j k r) x at =
        let there = is.named.forth (slice_get nodes i, slice_get nodes j) (in-map (λ a. (slice_get nodes a.0, slice_get nodes a.1)) (i, j) numbers k) in
        let arrow = of-map (λ a. (Some a.0, Some a.1)) (slice_get nodes i, slice_get nodes j) arrows there in
        let tail : slice_get nodes i ≡ Some arrow.0.0 = sym (ap (λ p. p.0) arrow.2) in
        let head : arrow.0.1 ≡ x = same-some arrow.0.1 x (ap (λ p. p.1) arrow.2 ∙ at) in
        subst (λ y. Reaches arrows from y) head (follows arrow.0.0 arrow.0.1 arrow.1 (reached-forth i r arrow.0.0 tail))

    reached-back : (x : A) → Reaches arrows from x → (i : ℕ) × (slice_get nodes i ≡ Some x) × Reaches numbers starts i
    reached-back _ (is_given x k) =
        let there = subst (λ l. IsIn (Some x) l) (sym named) (in-map (λ y. Some y) x from k) in
        let start = of-map (λ n. slice_get nodes n) (Some x) starts there in
        (start.0, start.2, is_given start.0 start.1)
    reached-back _ (follows x y k r) =
        let before = reached-back x r in
        let there = is.named.back (Some x, Some y) (in-map (λ a. (Some a.0, Some a.1)) (x, y) arrows k) in
        let arrow = of-map (λ a. (slice_get nodes a.0, slice_get nodes a.1)) (Some x, Some y) numbers there in
        let same : before.0 ≡ arrow.0.0 = one-place cmp order nodes is.ascends before.0 arrow.0.0 x before.1 (ap (λ p. p.0) arrow.2) in
        (arrow.0.1, ap (λ p. p.1) arrow.2, follows arrow.0.0 arrow.0.1 arrow.1 (subst (λ n. Reaches numbers starts n) same before.2))

  nil-cons : {B : Type 0} (x : B) (xs : List B) → [] ≡ x ∷ xs → ⊥
  nil-cons x xs e = let l : 0 ≡ suc (length xs) = ap length e in omega (arith, l)

  abbrev tail_of : List (Option A) → List (Option A)
  tail_of [] = []
  tail_of (x ∷ xs) = xs

  abbrev head_of : List (Option A) → Option A
  head_of [] = None
  head_of (x ∷ xs) = x

  module _ (nodes : List A) (up : IsStrictlySortedBy cmp nodes) where
    all-above : (p : ℕ) (v : A) → slice_get nodes p ≡ Some v → (values : List A) (places : List ℕ) → found values ≡ nodes_with nodes places
        → AllByRecursion (λ q. nat_cmp p q ≡ Less) places → AllByRecursion (λ y. cmp v y ≡ Less) values
    all-above p v at [] places e all = tt
    all-above p v at (y ∷ ys) [] e all = absurd (nil-cons (Some y) (found ys) (sym e))
    all-above p v at (y ∷ ys) (q ∷ qs) e all =
        let there : slice_get nodes q ≡ Some y = sym (ap head_of e) in
        (rises cmp order nodes up p q v y (nat_less p q all.0) at there, all-above p v at ys qs (ap tail_of e) all.1)

    pub ascends-by : (values : List A) (places : List ℕ) → found values ≡ nodes_with nodes places → IsStrictlySortedBy nat_cmp places → IsStrictlySortedBy cmp values
    unfolding IsStrictlySortedBy
    ascends-by [] places e sorted = tt
    ascends-by (v ∷ vs) [] e sorted = absurd (nil-cons (Some v) (found vs) (sym e))
    ascends-by (v ∷ vs) (p ∷ ps) e sorted =
        let at : slice_get nodes p ≡ Some v = sym (ap head_of e) in
        (all-above p v at vs ps (ap tail_of e) sorted.0, ascends-by vs ps (ap tail_of e) sorted.1)

  module _ (tells : (x y : A) → eq_by_cmp cmp x y ≡ true → x ≡ y) where
    pub reached-list : (arrows : List (A × A)) (nodes : List A) (numbers : List (ℕ × ℕ)) → IsGraph cmp arrows nodes numbers → (starts : List ℕ) (from : List A) → nodes_with nodes starts ≡ found from
        → (members : List ℕ) → AreReached numbers (fold added [] starts) members → (places : List ℕ) → IsListOf nat_cmp members places
        → (values : List A) → found values ≡ nodes_with nodes places → IsListOf cmp (closure (eq_by_cmp cmp) arrows from) values
    reached-list arrows nodes numbers is starts from named members walked places list values at = record {
      ascends = ascends-by nodes is.ascends values places at list.ascends;
      exact = λ x. same_answer (has (eq_by_cmp cmp) values x) (has (eq_by_cmp cmp) (closure (eq_by_cmp cmp) arrows from) x) (forth x) (back x);
    }
      where
        start : (i : ℕ) → IsIn i (fold added [] starts) → IsIn i starts
        start i k = go (of-all starts [] i k)
          where
            go : ⊥ ⊎ IsIn i starts → IsIn i starts
            go (inl j) = absurd j
            go (inr j) = j

        placed : (i : ℕ) → IsIn i places → IsIn i members
        placed i k = here-has nat_cmp nat_cmp_total nat_tells members i (sym (list.exact i) ∙ has-here nat_cmp nat_cmp_total nat_tells places i k)

        in_places : (i : ℕ) → IsIn i members → IsIn i places
        in_places i k = here-has nat_cmp nat_cmp_total nat_tells places i (list.exact i ∙ has-here nat_cmp nat_cmp_total nat_tells members i k)

        forth : (x : A) → has (eq_by_cmp cmp) values x ≡ true → has (eq_by_cmp cmp) (closure (eq_by_cmp cmp) arrows from) x ≡ true
        forth x h =
            let there = subst (λ l. IsIn (Some x) l) at (in-map (λ y. Some y) x values (here-has cmp order tells values x h)) in
            let place = of-map (λ n. slice_get nodes n) (Some x) places there in
            let reached = reaches-given numbers (fold added [] starts) starts start place.0 (walked.forth place.0 (placed place.0 place.1)) in
            (closure-reaches (eq_by_cmp cmp) (decides-by cmp order tells) arrows from x).1 (reached-forth arrows nodes numbers is starts from named place.0 reached x place.2)

        back : (x : A) → has (eq_by_cmp cmp) (closure (eq_by_cmp cmp) arrows from) x ≡ true → has (eq_by_cmp cmp) values x ≡ true
        back x h =
            let reached = reached-back arrows nodes numbers is starts from named x ((closure-reaches (eq_by_cmp cmp) (decides-by cmp order tells) arrows from x).0 h) in
            let member = walked.back reached.0 (reaches-given numbers starts (fold added [] starts) (λ i k. has-all starts [] i k) reached.0 reached.2) in
            let there = subst (λ l. IsIn l (nodes_with nodes places)) reached.1 (in-map (λ n. slice_get nodes n) reached.0 places (in_places reached.0 member)) in
            let value = of-map (λ y. Some y) (Some x) values (subst (λ l. IsIn (Some x) l) (sym at) there) in
            has-here cmp order tells values x (subst (λ y. IsIn y values) (same-some value.0 x value.2) value.1)
