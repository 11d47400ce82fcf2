-- Positions as links: which they are, and that each is connected.
use Rattle.std.proofs.Common.{◌≡◌, ℕ, zero, suc, map, Option, None, ◌+◌, ◌-◌, Bool, true, false, ◌||◌, List, [], ◌∷◌, ◌++◌, Some, refl, sym, ◌∙◌, ap, subst, inl, inr, ◌⊎◌, length, get_or, take, ◌≤◌, ◌<◌, arith}
use Rattle.std.specs.List.{enumerate_from, list_all, slice_get, AllByRecursion}
use Rattle.std.proofs.lemmas.Bool.{false≢true, or_cases, and_from}
use Rattle.std.proofs.lemmas.List.{length-take-le, take_at}
use Rattle.team_sets.specs.Names.{Name, same_name, has_name}
use Rattle.team_sets.specs.Members.{IsIn}
use Rattle.team_sets.specs.Order.{is_next, names, order}
use Rattle.team_sets.specs.OrderLaws.{ParentsFirst, NamesDiffer}
use Rattle.team_sets.proofs.Arrivals.{arranged_in, first_append, first_set}
use Rattle.team_sets.proofs.Connects.{next_from, next_parts}
use Rattle.team_sets.proofs.Distinct.{distinct-differ}
use Rattle.team_sets.proofs.Inserts.{self_arranged}
use Rattle.team_sets.proofs.OrderLeast.{order_laws}
use Rattle.team_sets.proofs.Ancestors.{first_take, next_at}
use Rattle.team_sets.proofs.Parts.{has_of_in, name_in}
use Rattle.team_sets.proofs.Pasts.{all_names, same_name-is}
use Rattle.ancestry.specs.Positions.{Parents, name_at, node, node_name, node_parents, nodes}

abbrev pub Node : Type 0
Node = ℕ × List ℕ

-- parents stand before their children
abbrev pub AreFirst : Parents → Type 0
AreFirst graph = ParentsFirst node_name node_parents [] (nodes graph)

pub same-number : (p q : ℕ) → same_name (name_at p) (name_at q) ≡ true → p ≡ q
same-number p q e = ap (λ l. get_or l 0 0) (same_name-is (name_at p) (name_at q) e)

from-append : (k : ℕ) (graph more : Parents) → enumerate_from k (graph ++ more) ≡ enumerate_from k graph ++ enumerate_from (k + length graph) more
from-append k [] more = let e : k + 0 ≡ k = omega arith in rw e refl
from-append k (q ∷ graph) more = let e : (k + 1) + length graph ≡ k + suc (length graph) = omega arith in ap (λ l. (k, q) ∷ l) (rw e at (from-append (k + 1) graph more))

pub nodes-append : (graph more : Parents) → nodes (graph ++ more) ≡ nodes graph ++ enumerate_from (length graph) more
nodes-append graph more = let e : 0 + length graph ≡ length graph = omega arith in rw e at (from-append 0 graph more)

from-take : (k n : ℕ) (graph : Parents) → take n (enumerate_from k graph) ≡ enumerate_from k (take n graph)
from-take k zero graph = refl
from-take k (suc n) [] = refl
from-take k (suc n) (q ∷ graph) = ap (λ l. (k, q) ∷ l) (from-take (k + 1) n graph)

pub nodes-take : (n : ℕ) (graph : Parents) → take n (nodes graph) ≡ nodes (take n graph)
nodes-take n graph = from-take 0 n graph

-- the positions are those from k on, as many as there are
named-within : (k : ℕ) (graph : Parents) (p : ℕ) → has_name (names node_name (enumerate_from k graph)) (name_at p) ≡ true → (k ≤ p) × (p < k + length graph)
named-within k [] p h = absurd (false≢true h)
named-within k (q ∷ graph) p h = go (or_cases (same_name (name_at k) (name_at p)) (has_name (names node_name (enumerate_from (k + 1) graph)) (name_at p)) h) (named-within (k + 1) graph p)
  where
    go : (same_name (name_at k) (name_at p) ≡ true) ⊎ (has_name (names node_name (enumerate_from (k + 1) graph)) (name_at p) ≡ true)
        → (has_name (names node_name (enumerate_from (k + 1) graph)) (name_at p) ≡ true → (k + 1 ≤ p) × (p < (k + 1) + length graph))
        → (k ≤ p) × (p < k + suc (length graph))
    go (inl e) more = let same : k ≡ p = same-number k p e in (omega (arith, same), omega (arith, same))
    go (inr e) more = let m = more e in let low : k + 1 ≤ p = m.0 in let high : p < (k + 1) + length graph = m.1 in (omega (arith, low), omega (arith, high))

pub named-below : (graph : Parents) (p : ℕ) → has_name (names node_name (nodes graph)) (name_at p) ≡ true → p < length graph
named-below graph p h = let m : p < 0 + length graph = (named-within 0 graph p h).1 in omega (arith, m)

-- each is the node at its place
member-is : (k : ℕ) (graph : Parents) (x : Node) → IsIn x (enumerate_from k graph) → (i : ℕ) × (x.0 ≡ k + i) × (slice_get graph i ≡ Some x.1)
member-is k [] x h = absurd h
member-is k (q ∷ graph) x (inl e) = (0, sym (ap (λ y. y.0) e) ∙ (let z : k ≡ k + 0 = omega arith in z), ap (λ y. Some y.1) e)
member-is k (q ∷ graph) x (inr j) =
    let m = member-is (k + 1) graph x j in
    let e : x.0 ≡ (k + 1) + m.0 = m.1 in (suc m.0, e ∙ (let z : (k + 1) + m.0 ≡ k + suc m.0 = omega arith in z), m.2)

slice-get_or : (graph : Parents) (i : ℕ) (ps d : List ℕ) → slice_get graph i ≡ Some ps → (get_or graph i d ≡ ps) × (i < length graph)
slice-get_or [] i ps d e = absurd (let bad : ◌≡◌ {A = Option (List ℕ)} None (Some ps) = e in cc)
slice-get_or (q ∷ graph) zero ps d e = (let same : q ≡ ps = cc in same, omega arith)
slice-get_or (q ∷ graph) (suc i) ps d e = let m = slice-get_or graph i ps d e in let lt : i < length graph = m.1 in (m.0, omega (arith, lt))

pub node-is : (graph : Parents) (x : Node) → IsIn x (nodes graph) → (x ≡ node graph x.0) × (x.0 < length graph)
node-is graph x k =
    let m = member-is 0 graph x k in
    let at : x.0 ≡ m.0 = m.1 ∙ (let z : 0 + m.0 ≡ m.0 = omega arith in z) in
    let here = slice-get_or graph m.0 x.1 [] m.2 in
    let lt : m.0 < length graph = here.1 in (
      sym (ap (λ ps. (x.0, ps)) (ap (λ i. get_or graph i []) at ∙ here.0)),
      omega (arith, lt, at),
    )

node-in : (k : ℕ) (graph : Parents) (i : ℕ) (d : List ℕ) → i < length graph → IsIn (k + i, get_or graph i d) (enumerate_from k graph)
node-in k [] i d lt = absurd (omega (arith, lt))
node-in k (q ∷ graph) zero d lt = let e : k ≡ k + 0 = omega arith in inl (ap (λ j. (j, q)) e)
node-in k (q ∷ graph) (suc i) d lt =
    let e : (k + 1) + i ≡ k + suc i = omega arith in
    inr (subst (λ j. IsIn (j, get_or graph i d) (enumerate_from (k + 1) graph)) e (node-in (k + 1) graph i d (omega (arith, lt))))

pub in-nodes : (graph : Parents) (p : ℕ) → p < length graph → IsIn (node graph p) (nodes graph)
in-nodes graph p lt = let e : 0 + p ≡ p = omega arith in subst (λ j. IsIn (j, get_or graph p []) (nodes graph)) e (node-in 0 graph p [] lt)

node-get : (k : ℕ) (graph : Parents) (i : ℕ) (d : List ℕ) → i < length graph → slice_get (enumerate_from k graph) i ≡ Some (k + i, get_or graph i d)
node-get k [] i d lt = absurd (omega (arith, lt))
node-get k (q ∷ graph) zero d lt = let e : k ≡ k + 0 = omega arith in ap (λ j. Some (j, q)) e
node-get k (q ∷ graph) (suc i) d lt =
    let e : (k + 1) + i ≡ k + suc i = omega arith in node-get (k + 1) graph i d (omega (arith, lt)) ∙ ap (λ j. Some (j, get_or graph i d)) e

node-at : (graph : Parents) (b : ℕ) → b < length graph → slice_get (nodes graph) b ≡ Some (node graph b)
node-at graph b lt = let e : 0 + b ≡ b = omega arith in node-get 0 graph b [] lt ∙ ap (λ j. Some (j, get_or graph b [])) e

pub differ : (graph : Parents) → AreFirst graph → NamesDiffer node_name (nodes graph)
differ graph first = distinct-differ node_name (nodes graph) (first_set node_name node_parents [] (nodes graph) first)

-- each position is connected
pub in-order : (graph : Parents) → AreFirst graph → (x : Node) → IsIn x (nodes graph) → IsIn x (order node_name node_parents (nodes graph))
in-order graph first =
    arranged_in node_name node_parents (nodes graph) (nodes graph) (order node_name node_parents (nodes graph)) (differ graph first)
    (self_arranged node_name node_parents (nodes graph) first) (order_laws node_name node_parents (nodes graph) (differ graph first)).0

all-below : (graph : Parents) (ps : List ℕ) → ((p : ℕ) → IsIn p ps → p < length graph) → list_all (has_name (names node_name (nodes graph))) (map name_at ps) ≡ true
all-below graph [] h = refl
all-below graph (p ∷ ps) h =
    and_from (has_name (names node_name (nodes graph)) (name_at p)) (list_all (has_name (names node_name (nodes graph))) (map name_at ps))
    (name_in node_name node_parents (nodes graph) (node graph p) (in-nodes graph p (h p (inl refl))) (name_at p) refl) (all-below graph ps (λ q k. h q (inr k)))

-- a position that comes next, after its parents
pub first-more : (graph : Parents) (ps : List ℕ) → AreFirst graph → ((p : ℕ) → IsIn p ps → p < length graph) → AreFirst (graph ++ ps ∷ [])
first-more graph ps first given = rw (nodes-append graph (ps ∷ [])) (first_append node_name node_parents [] (nodes graph) ((length graph, ps) ∷ []) first (next, tt))
  where
    new : (b : Bool) → has_name (names node_name (nodes graph)) (name_at (length graph)) ≡ b → b ≡ false
    new false e = refl
    new true e = let lt : length graph < length graph = named-below graph (length graph) e in absurd (omega (arith, lt))

    next : is_next node_name node_parents (nodes graph) (length graph, ps) ≡ true
    next = next_from node_name node_parents (nodes graph) (length graph, ps) (new (has_name (names node_name (nodes graph)) (name_at (length graph))) refl) (all-below graph ps given)

pub first-less : (graph : Parents) (n : ℕ) → AreFirst graph → AreFirst (take n graph)
first-less graph n first = rw (nodes-take n graph) at (first_take node_name node_parents n [] (nodes graph) first)

pub first-front : (graph more : Parents) → AreFirst (graph ++ more) → AreFirst graph
first-front graph more first = subst AreFirst (take_at graph more (length graph) refl) (first-less (graph ++ more) (length graph) first)

pub in-map : (ps : List ℕ) (p : ℕ) → IsIn p ps → IsIn (name_at p) (map name_at ps)
in-map [] p k = absurd k
in-map (q ∷ ps) p (inl e) = inl (ap name_at e)
in-map (q ∷ ps) p (inr k) = inr (in-map ps p k)

-- parents are smaller
pub earlier : (graph : Parents) → AreFirst graph → (b : ℕ) → b < length graph → (p : ℕ) → IsIn p (get_or graph b []) → p < b
earlier graph first b lt p k =
    let at : slice_get (nodes graph) b ≡ Some (node graph b) = node-at graph b lt in
    let next = next_parts node_name node_parents (take b (nodes graph)) (node graph b) (next_at node_name node_parents b [] (nodes graph) (node graph b) first at) in
    let named = all_names (has_name (names node_name (take b (nodes graph)))) (map name_at (get_or graph b [])) (name_at p) next.1
    (has_of_in node_name node_parents (map name_at (get_or graph b [])) (name_at p) (in-map (get_or graph b []) p k)) in
    let low : p < length (take b graph) = named-below (take b graph) p (subst (λ l. has_name (names node_name l) (name_at p) ≡ true) (nodes-take b graph) named) in
    let short : length (take b graph) ≡ b = length-take-le b graph (omega (arith, lt)) in
    omega (arith, low, short)
