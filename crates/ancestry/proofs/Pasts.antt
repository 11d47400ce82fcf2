-- The ancestors of a position: its parents and theirs, which are smaller, and stay when another position comes.
use Rattle.std.proofs.Common.{◌≡◌, ℕ, zero, suc, ◌+◌, Bool, true, false, ◌||◌, List, [], ◌∷◌, ◌++◌, map, filter, refl, sym, ◌∙◌, ap, subst, inl, inr, ◌⊎◌, length, get_or, ◌≤◌, ◌<◌, arith, eqb}
use Rattle.std.specs.List.{enumerate_from, list_any, range_with_len, AllByRecursion}
use Rattle.std.proofs.lemmas.Bool.{false≢true, or_cases, or_left, or_right, eqb-true, eq-eqb}
use Rattle.std.proofs.lemmas.List.{append-nil, get_or_append_left, length-append}
use Rattle.std.proofs.lemmas.List.Elements.{filter-append}
use Rattle.std.proofs.Math.Nat.{eq-or-lt_of_le}
use Rattle.team_sets.specs.Names.{has_name, same_name}
use Rattle.team_sets.specs.Members.{IsIn}
use Rattle.team_sets.specs.Ancestry.{height, is_before, named}
use Rattle.team_sets.proofs.Agree.{same_ancestors}
use Rattle.team_sets.proofs.Ancestors.{all_of, unrolled}
use Rattle.team_sets.proofs.Lists.{filter_alike}
use Rattle.team_sets.proofs.Heights.{same_heights}
use Rattle.team_sets.proofs.OrderLeast.{in_filter, of_filter}
use Rattle.team_sets.proofs.Parts.{has_of_in}
use Rattle.team_sets.proofs.Pasts.{any_of}
use Rattle.team_sets.proofs.SameSet.{same_bools}
use Rattle.ancestry.specs.Positions.{Parents, comes_before, height_of, name_at, node, node_name, node_parents, nodes, past_of, positions}
use Rattle.ancestry.specs.Rows.{has_number}
use Rattle.ancestry.proofs.Nodes.{AreFirst, differ, earlier, first-front, in-map, in-nodes, in-order, node-is, nodes-append, same-number}

-- ---- membership of numbers

pub number-in : (ns : List ℕ) (n : ℕ) → has_number ns n ≡ true → IsIn n ns
number-in [] n h = absurd (false≢true h)
number-in (m ∷ ns) n h = go (or_cases (eqb n m) (has_number ns n) h) (number-in ns n)
  where
    go : (eqb n m ≡ true) ⊎ (has_number ns n ≡ true) → (has_number ns n ≡ true → IsIn n ns) → (m ≡ n) ⊎ IsIn n ns
    go (inl e) more = inl (sym (eqb-true n m e))
    go (inr k) more = inr (more k)

pub in-number : (ns : List ℕ) (n : ℕ) → IsIn n ns → has_number ns n ≡ true
in-number [] n k = absurd k
in-number (m ∷ ns) n (inl e) = or_left (eqb n m) (has_number ns n) (eq-eqb n m (sym e))
in-number (m ∷ ns) n (inr k) = or_right (eqb n m) (has_number ns n) (in-number ns n k)

pub any-in : {A : Type 0} (p : A → Bool) (xs : List A) (x : A) → IsIn x xs → p x ≡ true → list_any p xs ≡ true
any-in p [] x k e = absurd k
any-in p (y ∷ ys) x (inl same) e = or_left (p y) (list_any p ys) (subst (λ z. p z ≡ true) (sym same) e)
any-in p (y ∷ ys) x (inr k) e = or_right (p y) (list_any p ys) (any-in p ys x k e)

pub named-in : (ps : List ℕ) (p : ℕ) → has_name (map name_at ps) (name_at p) ≡ true → IsIn p ps
named-in [] p h = absurd (false≢true h)
named-in (q ∷ ps) p h = go (or_cases (same_name (name_at q) (name_at p)) (has_name (map name_at ps) (name_at p)) h) (named-in ps p)
  where
    go : (same_name (name_at q) (name_at p) ≡ true) ⊎ (has_name (map name_at ps) (name_at p) ≡ true)
        → (has_name (map name_at ps) (name_at p) ≡ true → IsIn p ps) → (q ≡ p) ⊎ IsIn p ps
    go (inl e) more = inl (same-number q p e)
    go (inr k) more = inr (more k)

pub in-named : (ps : List ℕ) (p : ℕ) → IsIn p ps → has_name (map name_at ps) (name_at p) ≡ true
in-named ps p k = has_of_in node_name node_parents (map name_at ps) (name_at p) (in-map ps p k)

-- ---- parents and theirs

module _ (graph : Parents) (first : AreFirst graph) (b : ℕ) (lt : b < length graph) where
  below : (p : ℕ) → IsIn p (get_or graph b []) → p < length graph
  below p k = let less : p < b = earlier graph first b lt p k in omega (arith, less, lt)

  step : (a : ℕ) → comes_before graph a b ≡ (has_name (map name_at (get_or graph b [])) (name_at a)
      || list_any (is_before node_name node_parents (nodes graph) (name_at a)) (named node_name node_parents (nodes graph) (map name_at (get_or graph b []))))
  step a = unrolled node_name node_parents (nodes graph) (differ graph first) (node graph b) (in-order graph first (node graph b) (in-nodes graph b lt)) (name_at a)

  pub by-parents : (a : ℕ) → comes_before graph a b ≡ true → IsIn a (get_or graph b []) ⊎ ((p : ℕ) × IsIn p (get_or graph b []) × (comes_before graph a p ≡ true))
  by-parents a h = go (or_cases (has_name (map name_at (get_or graph b [])) (name_at a))
      (list_any (is_before node_name node_parents (nodes graph) (name_at a)) (named node_name node_parents (nodes graph) (map name_at (get_or graph b [])))) (sym (step a) ∙ h))
    where
      go : (has_name (map name_at (get_or graph b [])) (name_at a) ≡ true)
          ⊎ (list_any (is_before node_name node_parents (nodes graph) (name_at a)) (named node_name node_parents (nodes graph) (map name_at (get_or graph b []))) ≡ true)
          → IsIn a (get_or graph b []) ⊎ ((p : ℕ) × IsIn p (get_or graph b []) × (comes_before graph a p ≡ true))
      go (inl k) = inl (named-in (get_or graph b []) a k)
      go (inr k) =
          let x = any_of (is_before node_name node_parents (nodes graph) (name_at a)) (named node_name node_parents (nodes graph) (map name_at (get_or graph b []))) k in
          let of = of_filter (λ y. has_name (map name_at (get_or graph b [])) (node_name y)) x.0 (nodes graph) x.1 in
          inr (x.0.0, named-in (get_or graph b []) x.0.0 of.1, subst (λ y. is_before node_name node_parents (nodes graph) (name_at a) y ≡ true) (node-is graph x.0 of.0).0 x.2)

  pub from-parent : (a : ℕ) → IsIn a (get_or graph b []) → comes_before graph a b ≡ true
  from-parent a k = step a ∙ or_left (has_name (map name_at (get_or graph b [])) (name_at a))
      (list_any (is_before node_name node_parents (nodes graph) (name_at a)) (named node_name node_parents (nodes graph) (map name_at (get_or graph b [])))) (in-named (get_or graph b []) a k)

  pub through-parent : (a p : ℕ) → IsIn p (get_or graph b []) → comes_before graph a p ≡ true → comes_before graph a b ≡ true
  through-parent a p k h = step a ∙ or_right (has_name (map name_at (get_or graph b [])) (name_at a))
      (list_any (is_before node_name node_parents (nodes graph) (name_at a)) (named node_name node_parents (nodes graph) (map name_at (get_or graph b []))))
      (any-in (is_before node_name node_parents (nodes graph) (name_at a)) (named node_name node_parents (nodes graph) (map name_at (get_or graph b []))) (node graph p)
      (in_filter (λ y. has_name (map name_at (get_or graph b [])) (node_name y)) (node graph p) (nodes graph) (in-nodes graph p (below p k)) (in-named (get_or graph b []) p k)) h)

-- ancestors are smaller
smaller-within : (graph : Parents) → AreFirst graph → (n b : ℕ) → b < n → b < length graph → (a : ℕ) → comes_before graph a b ≡ true → a < b
smaller-within graph first zero b few lt a h = absurd (omega (arith, few))
smaller-within graph first (suc n) b few lt a h = go (by-parents graph first b lt a h) (λ p low given. smaller-within graph first n p low given a)
  where
    go : IsIn a (get_or graph b []) ⊎ ((p : ℕ) × IsIn p (get_or graph b []) × (comes_before graph a p ≡ true))
        → ((p : ℕ) → p < n → p < length graph → comes_before graph a p ≡ true → a < p) → a < b
    go (inl k) more = earlier graph first b lt a k
    go (inr r) more =
        let less : r.0 < b = earlier graph first b lt r.0 r.1 in
        let under : a < r.0 = more r.0 (omega (arith, less, few)) (omega (arith, less, lt)) r.2 in omega (arith, less, under)

pub smaller : (graph : Parents) → AreFirst graph → (b : ℕ) → b < length graph → (a : ℕ) → comes_before graph a b ≡ true → a < b
smaller graph first b lt a h = smaller-within graph first (suc b) b (omega arith) lt a h

-- ---- when a position comes

in-front : {A : Type 0} (xs ys : List A) (x : A) → IsIn x xs → IsIn x (xs ++ ys)
in-front [] ys x k = absurd k
in-front (z ∷ zs) ys x (inl e) = inl e
in-front (z ∷ zs) ys x (inr k) = inr (in-front zs ys x k)

module _ (graph more : Parents) (firsts : AreFirst (graph ++ more)) (b : ℕ) (lt : b < length graph) where
  node-stays : node (graph ++ more) b ≡ node graph b
  node-stays = ap (λ l. (b, l)) (get_or_append_left graph more [] b lt)

  longer : length (nodes graph) ≤ length (nodes (graph ++ more))
  longer =
      let e : length (nodes (graph ++ more)) ≡ length (nodes graph) + length (enumerate_from (length graph) more) =
      ap length (nodes-append graph more) ∙ length-append (nodes graph) (enumerate_from (length graph) more) in
      omega (arith, e)

  also : AllByRecursion (λ x. IsIn x (nodes (graph ++ more))) (nodes graph)
  also = all_of (λ x. IsIn x (nodes (graph ++ more))) (nodes graph) (λ x k. rw (nodes-append graph more) (in-front (nodes graph) (enumerate_from (length graph) more) x k))

  pub before-stays : (a : ℕ) → comes_before (graph ++ more) a b ≡ comes_before graph a b
  before-stays a =
      ap (λ x. is_before node_name node_parents (nodes (graph ++ more)) (name_at a) x) node-stays
      ∙ sym (same_ancestors node_name node_parents (nodes graph) (nodes (graph ++ more)) (differ graph (first-front graph more firsts)) (differ (graph ++ more) firsts) (nodes graph)
      (all_of (λ x. IsIn x (nodes graph)) (nodes graph) (λ x k. k)) also
      (first-front graph more firsts) (node graph b) (in-nodes graph b lt) (length (nodes graph)) (length (nodes (graph ++ more))) (name_at a) (omega arith) longer)

  pub height-stays : height_of (graph ++ more) b ≡ height_of graph b
  height-stays =
      ap (λ x. height node_name node_parents (nodes (graph ++ more)) x) node-stays
      ∙ sym (same_heights node_name node_parents (nodes graph) (nodes (graph ++ more)) (differ graph (first-front graph more firsts)) (differ (graph ++ more) firsts) (nodes graph)
      (all_of (λ x. IsIn x (nodes graph)) (nodes graph) (λ x k. k)) also
      (first-front graph more firsts) (node graph b) (in-nodes graph b lt) (length (nodes graph)) (length (nodes (graph ++ more))) (omega arith) longer)

-- ---- the positions in order

pub range-append : (k m n : ℕ) → range_with_len k (m + n) ≡ range_with_len k m ++ range_with_len (k + m) n
range-append k zero n = let e : k + 0 ≡ k = omega arith in let z : 0 + n ≡ n = omega arith in rw (e, z) refl
range-append k (suc m) n =
    let e : (k + 1) + m ≡ k + suc m = omega arith in let z : suc m + n ≡ suc (m + n) = omega arith in
    ap (λ j. range_with_len k j) z ∙ ap (λ l. k ∷ l) (rw e at (range-append (k + 1) m n))

pub positions-append : (graph more : Parents) → positions (graph ++ more) ≡ positions graph ++ range_with_len (length graph) (length more)
positions-append graph more =
    let z : 0 + length graph ≡ length graph = omega arith in
    ap (λ n. range_with_len 0 n) (length-append graph more) ∙ rw z at (range-append 0 (length graph) (length more))

pub range-within : (k n p : ℕ) → IsIn p (range_with_len k n) → (k ≤ p) × (p < k + n)
range-within k zero p h = absurd h
range-within k (suc n) p (inl e) = (omega (arith, e), omega (arith, e))
range-within k (suc n) p (inr j) = let m = range-within (k + 1) n p j in let low : k + 1 ≤ p = m.0 in let high : p < (k + 1) + n = m.1 in (omega (arith, low), omega (arith, high))

pub positions-below : (n p : ℕ) → IsIn p (range_with_len 0 n) → p < n
positions-below n p k = let m : p < 0 + n = (range-within 0 n p k).1 in omega (arith, m)

within-range : (k n p : ℕ) → k ≤ p → p < k + n → IsIn p (range_with_len k n)
within-range k zero p low high = absurd (omega (arith, low, high))
within-range k (suc n) p low high = go (eq-or-lt_of_le low) (within-range (k + 1) n p)
  where
    go : (k ≡ p) ⊎ (k < p) → (k + 1 ≤ p → p < (k + 1) + n → IsIn p (range_with_len (k + 1) n)) → (k ≡ p) ⊎ IsIn p (range_with_len (k + 1) n)
    go (inl e) more = inl e
    go (inr less) more = inr (more (omega (arith, less)) (omega (arith, high)))

pub below-positions : (n p : ℕ) → p < n → IsIn p (range_with_len 0 n)
below-positions n p lt = within-range 0 n p (omega arith) (omega (arith, lt))

-- whether a position is one of those that pass
pub has-past : (graph : Parents) (b a : ℕ) → a < length graph → has_number (past_of graph b) a ≡ comes_before graph a b
has-past graph b a lt = same_bools (has_number (past_of graph b) a) (comes_before graph a b)
    (λ h. (of_filter (λ p. comes_before graph p b) a (positions graph) (number-in (past_of graph b) a h)).1)
    (λ h. in-number (past_of graph b) a (in_filter (λ p. comes_before graph p b) a (positions graph) (below-positions (length graph) a lt) h))

filter-none : (p : ℕ → Bool) (xs : List ℕ) → ((x : ℕ) → IsIn x xs → p x ≡ false) → filter p xs ≡ []
filter-none p [] h = refl
filter-none p (x ∷ xs) h = rw (h x (inl refl)) (filter-none p xs (λ y k. h y (inr k)))

-- the ancestors of b stay when further positions come
pub past-stays : (graph more : Parents) → AreFirst (graph ++ more) → (b : ℕ) → b < length graph → past_of (graph ++ more) b ≡ past_of graph b
past-stays graph more firsts b lt =
    ap (λ l. filter (λ a. comes_before (graph ++ more) a b) l) (positions-append graph more)
    ∙ filter-append (λ a. comes_before (graph ++ more) a b) (positions graph) (range_with_len (length graph) (length more))
    ∙ ap (λ l. filter (λ a. comes_before (graph ++ more) a b) (positions graph) ++ l)
    (filter-none (λ a. comes_before (graph ++ more) a b) (range_with_len (length graph) (length more)) (λ a k. late a (range-within (length graph) (length more) a k).0 (comes_before (graph ++ more) a b) refl))
    ∙ append-nil (filter (λ a. comes_before (graph ++ more) a b) (positions graph))
    ∙ filter_alike (λ a. comes_before (graph ++ more) a b) (λ a. comes_before graph a b) (positions graph) (λ a k. before-stays graph more firsts b lt a)
  where
    longer-graph : b < length (graph ++ more)
    longer-graph = let e : length (graph ++ more) ≡ length graph + length more = length-append graph more in omega (arith, e, lt)

    late : (a : ℕ) → length graph ≤ a → (r : Bool) → comes_before (graph ++ more) a b ≡ r → comes_before (graph ++ more) a b ≡ false
    late a le false e = e
    late a le true e = let under : a < b = smaller (graph ++ more) firsts b longer-graph a e in absurd (omega (arith, under, lt, le))
