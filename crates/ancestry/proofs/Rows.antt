-- Rows say the same of their positions when further ones come, and when later ones go.
use Rattle.std.proofs.Common.{◌≡◌, ℕ, ◌+◌, List, [], ◌∷◌, ◌++◌, map, refl, sym, ◌∙◌, ap, subst, inl, inr, ◌⊎◌, length, get_or, take, drop, ◌≤◌, ◌<◌, arith, eqb}
use Rattle.std.proofs.lemmas.Bool.{cases_lt}
use Rattle.std.proofs.lemmas.List.{get_or_append_left, get_or_push, get_or-take, length-map, length-take, length_push, map-append, map_push, take-append-drop, take-map}
use Rattle.std.proofs.lemmas.List.Elements.{recursion_from_All}
use Rattle.tg_text.specs.Limits.{most_links}
use Rattle.std.specs.List.{All}
use Rattle.team_sets.specs.Members.{IsIn}
use Rattle.team_sets.proofs.Pasts.{all_at}
use Rattle.ancestry.specs.declared.row.Row.{Row}
use Rattle.ancestry.specs.Positions.{Parents, comes_before, has_all_before, height_of, past_of}
use Rattle.ancestry.specs.Rows.{AreRows, IsRow, has_number, parents_of}
use Rattle.ancestry.proofs.Nodes.{AreFirst, first-front, first-more}
use Rattle.ancestry.proofs.Pasts.{has-past, height-stays, past-stays}
use Rattle.ancestry.proofs.Counts.{all-before}

pub as-many : (rows : List Row) → length (parents_of rows) ≡ length rows
as-many rows = length-map rows (λ (row : Row). row.parents)

-- positions below the number of rows are positions of their graph
pub given-in : (rows : List Row) (ps : List ℕ) → All (λ p. p < length rows) ps → (p : ℕ) → IsIn p ps → p < length (parents_of rows)
given-in rows ps all p k = let lt : p < length rows = all_at (λ p. p < length rows) ps (recursion_from_All (λ p. p < length rows) ps all) p k in omega (arith, lt, as-many rows)

pub parents-take : (n : ℕ) (rows : List Row) → parents_of (take n rows) ≡ take n (parents_of rows)
parents-take n rows = sym (take-map (λ (row : Row). row.parents) n rows)

pub rows-none : AreRows []
rows-none = record { few = omega arith; parents_first = tt; told = λ p d lt. absurd (omega (arith, lt)) }

row-stays : (graph more : Parents) (p : ℕ) (row : Row) → AreFirst (graph ++ more) → p < length graph → IsRow graph p row → IsRow (graph ++ more) p row
row-stays graph more p row firsts lt is = record {
  past = is.past ∙ sym (past-stays graph more firsts p lt);
  height = is.height ∙ sym (height-stays graph more firsts p lt);
  low = is.low;
}

row-was : (graph more : Parents) (p : ℕ) (row : Row) → AreFirst (graph ++ more) → p < length graph → IsRow (graph ++ more) p row → IsRow graph p row
row-was graph more p row firsts lt is = record {
  past = is.past ∙ past-stays graph more firsts p lt;
  height = is.height ∙ height-stays graph more firsts p lt;
  low = is.low;
}

pub rows-more : (rows : List Row) (row : Row) → AreRows rows → length rows < most_links → ((p : ℕ) → IsIn p row.parents → p < length rows)
    → IsRow (parents_of rows ++ row.parents ∷ []) (length rows) row → AreRows (rows ++ row ∷ [])
rows-more rows row are room given is = record {
  few = let e : length (rows ++ row ∷ []) ≡ length rows + 1 = length_push rows row in omega (arith, e, room);
  parents_first = subst AreFirst (sym next) firsts;
  told = λ p d lt. subst (λ g. IsRow g p (get_or (rows ++ row ∷ []) p d)) (sym next) (at p d lt (cases_lt p (length rows)));
}
  where
    next : parents_of (rows ++ row ∷ []) ≡ parents_of rows ++ row.parents ∷ []
    next = map_push (λ (row : Row). row.parents) rows row

    many : length (parents_of rows) ≡ length rows
    many = as-many rows

    firsts : AreFirst (parents_of rows ++ row.parents ∷ [])
    firsts = first-more (parents_of rows) row.parents are.parents_first (λ p k. let low : p < length rows = given p k in omega (arith, low, many))

    at : (p : ℕ) (d : Row) → p < length (rows ++ row ∷ []) → (p < length rows) ⊎ (length rows ≤ p) → IsRow (parents_of rows ++ row.parents ∷ []) p (get_or (rows ++ row ∷ []) p d)
    at p d lt (inl low) =
        rw (get_or_append_left rows (row ∷ []) d p low) (row-stays (parents_of rows) (row.parents ∷ []) p (get_or rows p d) firsts (omega (arith, low, many)) (are.told p d low))
    at p d lt (inr high) =
        let e : length (rows ++ row ∷ []) ≡ length rows + 1 = length_push rows row in
        let here : length rows ≡ p = omega (arith, e, lt, high) in
        rw (get_or_push rows row d p here) (subst (λ q. IsRow (parents_of rows ++ row.parents ∷ []) q row) here is)

pub rows-less : (rows : List Row) (n : ℕ) → AreRows rows → AreRows (take n rows)
rows-less rows n are = record {
  few = let e = length-take n rows in let few : length rows ≤ most_links = are.few in omega (arith, e, few);
  parents_first = first-front (parents_of (take n rows)) (parents_of (drop n rows)) firsts;
  told = λ p d lt.
      let e = length-take n rows in
      let low : p < length rows = omega (arith, e, lt) in
      let small : p < n = omega (arith, e, lt) in
      let many : length (parents_of (take n rows)) ≡ length (take n rows) = as-many (take n rows) in
      rw (get_or-take n rows p d small)
      (row-was (parents_of (take n rows)) (parents_of (drop n rows)) p (get_or rows p d) firsts (omega (arith, many, lt)) (subst (λ g. IsRow g p (get_or rows p d)) (sym whole) (are.told p d low)));
}
  where
    whole : parents_of (take n rows) ++ parents_of (drop n rows) ≡ parents_of rows
    whole = sym (map-append (λ (row : Row). row.parents) (take n rows) (drop n rows)) ∙ ap parents_of (take-append-drop n rows)

    firsts : AreFirst (parents_of (take n rows) ++ parents_of (drop n rows))
    firsts = subst AreFirst (sym whole) are.parents_first

-- what a row says, as the value of its `Ancestry` does
pub before-of : (rows inside : List Row) (self : Parents) (past : List ℕ) (a b : ℕ) → rows ≡ inside → parents_of inside ≡ self → past ≡ past_of (parents_of rows) b → a < length self
    → has_number past a ≡ comes_before self a b
before-of rows inside self past a b same view is lt =
    ap (λ l. has_number l a) (is ∙ ap (λ g. past_of g b) (ap parents_of same ∙ view)) ∙ has-past self b a lt

pub all-of : (rows inside : List Row) (self : Parents) (past : List ℕ) (b n : ℕ) → AreRows inside → rows ≡ inside → parents_of inside ≡ self → past ≡ past_of (parents_of rows) b → n ≡ length inside
    → b < length self → eqb (length past + 1) n ≡ has_all_before self b
all-of rows inside self past b n are same view is count lt =
    ap (λ l. eqb (length l + 1) n) (is ∙ ap (λ g. past_of g b) (ap parents_of same ∙ view))
    ∙ ap (λ m. eqb (length (past_of self b) + 1) m) (count ∙ sym (as-many inside) ∙ ap (λ (g : Parents). length g) view)
    ∙ sym (all-before self (subst AreFirst view are.parents_first) b lt)

-- a position more, as the value of its `Ancestry` has it
pub rows-add : (rows : List Row) (self : Parents) (row : Row) (ps : List ℕ) → AreRows rows → parents_of rows ≡ self → length self < most_links → All (λ p. p < length self) ps
    → row.parents ≡ ps → row.past ≡ past_of (self ++ ps ∷ []) (length self) → row.height ≡ height_of (self ++ ps ∷ []) (length self) → row.height ≤ length self → AreRows (rows ++ row ∷ [])
rows-add rows self row ps are view room given same past height low =
    rows-more rows row are (omega (arith, room, many)) (λ p k. let lt : p < length self = all_at (λ p. p < length self) ps (recursion_from_All (λ p. p < length self) ps given) p (subst (λ l. IsIn p l) same k) in omega (arith, lt, many))
    (record {
      past = past ∙ to (λ g n. past_of g n);
      height = height ∙ to (λ g n. height_of g n);
      low = omega (arith, low, many);
    })
  where
    many : length rows ≡ length self
    many = sym (as-many rows) ∙ ap (λ (g : Parents). length g) view

    to : {X : Type 0} (f : Parents → ℕ → X) → f (self ++ ps ∷ []) (length self) ≡ f (parents_of rows ++ row.parents ∷ []) (length rows)
    to f =
        ap (λ g. f (g ++ ps ∷ []) (length self)) (sym view) ∙ ap (λ l. f (parents_of rows ++ l ∷ []) (length self)) (sym same)
        ∙ ap (λ n. f (parents_of rows ++ row.parents ∷ []) n) (sym many)
