-- Marks at numbers: what one mark more says, and the ancestors of a position that comes next.
use Rattle.std.proofs.Common.{◌≡◌, ℕ, zero, suc, replicate, ◌+◌, Bool, true, false, ◌||◌, List, [], ◌∷◌, ◌++◌, filter, refl, sym, ◌∙◌, ap, subst, inl, inr, ◌⊎◌, cond, length, get_or, take, set, ◌≤◌, ◌<◌, ◌≢◌, arith, eqb}
use Rattle.std.specs.List.{All, list_any, range_with_len}
use Rattle.std.proofs.lemmas.Bool.{cases_lt, false≢true, or_cases, or_left, or_right}
use Rattle.std.proofs.lemmas.Bool.Decides.{eqb_tells}
use Rattle.std.proofs.lemmas.List.{get_or-replicate, get_or-set_same, get_or-set_other, get_or_past, get_or_push, length-replicate, length_push, take_more}
use Rattle.std.proofs.lemmas.List.Elements.{filter-append}
use Rattle.std.proofs.lemmas.List.Folds.{list_any-append}
use Rattle.team_sets.specs.Members.{IsIn}
use Rattle.team_sets.proofs.Lists.{filter_alike}
use Rattle.team_sets.proofs.OrderLeast.{of_filter}
use Rattle.team_sets.proofs.Pasts.{any_of}
use Rattle.team_sets.proofs.SameSet.{same_bools}
use Rattle.ancestry.specs.Positions.{Parents, comes_before, past_of, positions}
use Rattle.ancestry.specs.declared.row.Row.{Row}
use Rattle.ancestry.specs.Rows.{AreRows, has_number, parents_of}
use Rattle.ancestry.proofs.Nodes.{AreFirst, first-more}
use Rattle.ancestry.proofs.Pasts.{any-in, before-stays, below-positions, by-parents, from-parent, has-past, in-number, number-in, positions-append, positions-below, range-append, smaller, through-parent}
use Rattle.ancestry.proofs.Rows.{as-many, given-in}

or-none : (b : Bool) → (b || false) ≡ b
or-none true = refl
or-none false = refl

or-true : (b : Bool) → (b || true) ≡ true
or-true true = refl
or-true false = refl

or-both : (a b c : Bool) → ((a || b) || c) ≡ (a || (b || c))
or-both true b c = refl
or-both false b c = refl

pub any-more : {A : Type 0} (p : A → Bool) (xs : List A) (i : ℕ) (d : A) → i < length xs → list_any p (take (i + 1) xs) ≡ (list_any p (take i xs) || p (get_or xs i d))
any-more p xs i d lt = rw (take_more xs i d lt, list_any-append p (take i xs) (get_or xs i d ∷ [])) (ap (λ b. list_any p (take i xs) || b) (or-none (p (get_or xs i d))))

-- one mark more
marked-at : (marks : List Bool) (n i : ℕ) → n < length marks → get_or (set marks n true) i false ≡ (get_or marks i false || eqb i n)
marked-at marks n i lt = go (eqb_tells i n)
  where
    go : ((eqb i n ≡ true) × (i ≡ n)) ⊎ ((eqb i n ≡ false) × (i ≢ n)) → get_or (set marks n true) i false ≡ (get_or marks i false || eqb i n)
    go (inl e) = rw (e.0, e.1, get_or-set_same marks n true false lt) (sym (or-true (get_or marks n false)))
    go (inr e) = rw (e.0, get_or-set_other marks n i true false e.1) (sym (or-none (get_or marks i false)))

pub mark-more : (old marks next : List Bool) (ns : List ℕ) (k n d : ℕ) → k < length ns → n ≡ get_or ns k d → n < length marks → next ≡ set marks n true
    → ((i : ℕ) → get_or marks i false ≡ (get_or old i false || has_number (take k ns) i))
    → (i : ℕ) → get_or next i false ≡ (get_or old i false || has_number (take (k + 1) ns) i)
mark-more old marks next ns k n d lt at within is told i =
    ap (λ m. get_or m i false) is ∙ marked-at marks n i within ∙ ap (λ b. b || eqb i n) (told i)
    ∙ or-both (get_or old i false) (has_number (take k ns) i) (eqb i n)
    ∙ ap (λ b. get_or old i false || b) (ap (λ m. has_number (take k ns) i || eqb i m) at ∙ sym (any-more (eqb i) ns k d lt))

-- one position's ancestors more
pub pasts-more : (old marks next : List Bool) (given : ℕ → Bool) (past : ℕ → List ℕ) (ps : List ℕ) (k p d : ℕ) → k < length ps → p ≡ get_or ps k d
    → ((i : ℕ) → get_or next i false ≡ (get_or marks i false || has_number (past p) i))
    → ((i : ℕ) → get_or marks i false ≡ (get_or old i false || (given i || list_any (λ q. has_number (past q) i) (take k ps))))
    → (i : ℕ) → get_or next i false ≡ (get_or old i false || (given i || list_any (λ q. has_number (past q) i) (take (k + 1) ps)))
pasts-more old marks next given past ps k p d lt at is told i =
    is i ∙ ap (λ b. b || has_number (past p) i) (told i)
    ∙ or-both (get_or old i false) (given i || list_any (λ q. has_number (past q) i) (take k ps)) (has_number (past p) i)
    ∙ ap (λ b. get_or old i false || b) (or-both (given i) (list_any (λ q. has_number (past q) i) (take k ps)) (has_number (past p) i)
    ∙ ap (λ b. given i || b) (ap (λ q. list_any (λ q. has_number (past q) i) (take k ps) || has_number (past q) i) at ∙ sym (any-more (λ q. has_number (past q) i) ps k d lt)))

-- one more at the end that doesn't pass
filter-end : {A : Type 0} (p : A → Bool) (xs : List A) (x : A) → p x ≡ false → filter p (xs ++ x ∷ []) ≡ filter p xs
filter-end p [] x e = ap (λ b. cond b (x ∷ []) []) e
filter-end p (y ∷ ys) x e = ap (λ l. cond (p y) (y ∷ l) l) (filter-end p ys x e)

-- the marks of a position that comes next are its ancestors
module _ (graph : Parents) (ps : List ℕ) (first : AreFirst graph) (given : (p : ℕ) → IsIn p ps → p < length graph) where
  firsts : AreFirst (graph ++ ps ∷ [])
  firsts = first-more graph ps first given

  longer : length graph < length (graph ++ ps ∷ [])
  longer = let more : length (graph ++ ps ∷ []) ≡ length graph + 1 = length_push graph ps in omega (arith, more)

  is-marked : ℕ → Bool
  is-marked a = has_number ps a || list_any (λ p. has_number (past_of graph p) a) ps

  parents-are : get_or (graph ++ ps ∷ []) (length graph) [] ≡ ps
  parents-are = get_or_push graph ps [] (length graph) refl

  marked-before : (a : ℕ) → a < length graph → is-marked a ≡ comes_before (graph ++ ps ∷ []) a (length graph)
  unfolding is-marked
  marked-before a lt = same_bools (has_number ps a || list_any (λ p. has_number (past_of graph p) a) ps) (comes_before (graph ++ ps ∷ []) a (length graph)) forth back
    where
      here : (p : ℕ) → IsIn p ps → IsIn p (get_or (graph ++ ps ∷ []) (length graph) [])
      here p k = subst (λ l. IsIn p l) (sym parents-are) k

      forth : (has_number ps a || list_any (λ p. has_number (past_of graph p) a) ps) ≡ true → comes_before (graph ++ ps ∷ []) a (length graph) ≡ true
      forth h = go (or_cases (has_number ps a) (list_any (λ p. has_number (past_of graph p) a) ps) h)
        where
          go : (has_number ps a ≡ true) ⊎ (list_any (λ p. has_number (past_of graph p) a) ps ≡ true) → comes_before (graph ++ ps ∷ []) a (length graph) ≡ true
          go (inl k) = from-parent (graph ++ ps ∷ []) firsts (length graph) longer a (here a (number-in ps a k))
          go (inr k) =
              let p = any_of (λ p. has_number (past_of graph p) a) ps k in
              through-parent (graph ++ ps ∷ []) firsts (length graph) longer a p.0 (here p.0 p.1)
              (before-stays graph (ps ∷ []) firsts p.0 (given p.0 p.1) a ∙ sym (has-past graph p.0 a lt) ∙ p.2)

      back : comes_before (graph ++ ps ∷ []) a (length graph) ≡ true → (has_number ps a || list_any (λ p. has_number (past_of graph p) a) ps) ≡ true
      back h = go (by-parents (graph ++ ps ∷ []) firsts (length graph) longer a h)
        where
          go : IsIn a (get_or (graph ++ ps ∷ []) (length graph) []) ⊎ ((p : ℕ) × IsIn p (get_or (graph ++ ps ∷ []) (length graph) []) × (comes_before (graph ++ ps ∷ []) a p ≡ true))
              → (has_number ps a || list_any (λ p. has_number (past_of graph p) a) ps) ≡ true
          go (inl k) = or_left (has_number ps a) (list_any (λ p. has_number (past_of graph p) a) ps) (in-number ps a (subst (λ l. IsIn a l) parents-are k))
          go (inr r) =
              let k : IsIn r.0 ps = subst (λ l. IsIn r.0 l) parents-are r.1 in
              or_right (has_number ps a) (list_any (λ p. has_number (past_of graph p) a) ps)
              (any-in (λ p. has_number (past_of graph p) a) ps r.0 k (has-past graph r.0 a lt ∙ sym (before-stays graph (ps ∷ []) firsts r.0 (given r.0 k) a) ∙ r.2))

  pub next-past : (marks : List Bool) → length marks ≡ length graph → ((i : ℕ) → get_or marks i false ≡ (has_number ps i || list_any (λ p. has_number (past_of graph p) i) ps))
      → filter (λ i. get_or marks i false) (range_with_len 0 (length marks)) ≡ past_of (graph ++ ps ∷ []) (length graph)
  unfolding is-marked
  next-past marks size told =
      ap (λ n. filter (λ i. get_or marks i false) (range_with_len 0 n)) size
      ∙ filter_alike (λ i. get_or marks i false) (λ a. comes_before (graph ++ ps ∷ []) a (length graph)) (positions graph) (λ a k. told a ∙ marked-before a (positions-below (length graph) a k))
      ∙ sym (filter-end (λ a. comes_before (graph ++ ps ∷ []) a (length graph)) (positions graph) (length graph) (last (comes_before (graph ++ ps ∷ []) (length graph) (length graph)) refl))
      ∙ ap (λ l. filter (λ a. comes_before (graph ++ ps ∷ []) a (length graph)) l) (sym (positions-append graph (ps ∷ [])))
    where
      last : (r : Bool) → comes_before (graph ++ ps ∷ []) (length graph) (length graph) ≡ r → comes_before (graph ++ ps ∷ []) (length graph) (length graph) ≡ false
      last false e = e
      last true e = let less : length graph < length graph = smaller (graph ++ ps ∷ []) firsts (length graph) longer (length graph) e in absurd (omega (arith, less))

-- one number more
pub range-filter : (p : ℕ → Bool) (n : ℕ) → filter p (range_with_len 0 (n + 1)) ≡ filter p (range_with_len 0 n) ++ cond (p n) (n ∷ []) []
range-filter p n =
    let z : 0 + n ≡ n = omega arith in
    ap (λ l. filter p l) (range-append 0 n 1) ∙ filter-append p (range_with_len 0 n) (range_with_len (0 + n) 1)
    ∙ ap (λ m. filter p (range_with_len 0 n) ++ cond (p m) (m ∷ []) []) z

none-marked : (n i : ℕ) → get_or (replicate n false) i false ≡ false
none-marked n i = go (cases_lt i n)
  where
    go : (i < n) ⊎ (n ≤ i) → get_or (replicate n false) i false ≡ false
    go (inl lt) = get_or-replicate n i false false lt
    go (inr le) = get_or_past (replicate n false) i false (rw length-replicate le)

-- the ancestors of the next position, from the marks that its parents leave
pub past-next : (rows : List Row) (ps : List ℕ) (old marks kept : List Bool) (past : List ℕ) → AreRows rows → All (λ p. p < length rows) ps
    → old ≡ replicate (length rows) false → length marks ≡ length rows
    → ((i : ℕ) → get_or marks i false ≡ (get_or old i false || (has_number ps i || list_any (λ p. has_number (past_of (parents_of rows) p) i) ps)))
    → kept ≡ marks → past ≡ filter (λ i. get_or kept i false) (range_with_len 0 (length kept)) → past ≡ past_of (parents_of rows ++ ps ∷ []) (length rows)
past-next rows ps old marks kept past are given none size told same is =
    is ∙ ap (λ m. filter (λ i. get_or m i false) (range_with_len 0 (length m))) same
    ∙ next-past (parents_of rows) ps are.parents_first (given-in rows ps given) marks (size ∙ sym (as-many rows))
    (λ i. told i ∙ ap (λ b. b || (has_number ps i || list_any (λ p. has_number (past_of (parents_of rows) p) i) ps)) (ap (λ l. get_or l i false) none ∙ none-marked (length rows) i))
    ∙ ap (λ n. past_of (parents_of rows ++ ps ∷ []) n) (as-many rows)

at-in : (xs : List ℕ) (k d : ℕ) → k < length xs → IsIn (get_or xs k d) xs
at-in [] k d lt = absurd (omega (arith, lt))
at-in (x ∷ xs) zero d lt = inl refl
at-in (x ∷ xs) (suc k) d lt = inr (at-in xs k d (omega (arith, lt)))

-- what is marked has room
pub marks-within : (rows : List Row) (past : List ℕ) (marks : List Bool) (b : ℕ) → past ≡ past_of (parents_of rows) b → length marks ≡ length rows
    → (k d : ℕ) → k < length past → get_or past k d < length marks
marks-within rows past marks b is size k d lt =
    let low : get_or past k d < length (parents_of rows) = positions-below (length (parents_of rows)) (get_or past k d)
    (of_filter (λ a. comes_before (parents_of rows) a b) (get_or past k d) (positions (parents_of rows)) (subst (λ l. IsIn (get_or past k d) l) is (at-in past k d lt))).0 in
    omega (arith, low, size, as-many rows)
