-- The height of a position that comes next is one more than the greatest height of a parent.
use Rattle.std.proofs.Common.{◌≡◌, ℕ, ◌+◌, max, List, [], ◌∷◌, ◌++◌, map, fold, refl, sym, ◌∙◌, ap, subst, length, get_or, ◌≤◌, ◌<◌, arith}
use Rattle.std.proofs.lemmas.List.{get_or_push, length_push}
use Rattle.team_sets.specs.Names.{has_name}
use Rattle.team_sets.specs.Members.{IsIn}
use Rattle.team_sets.specs.Ancestry.{height, named}
use Rattle.team_sets.proofs.Heights.{has_height}
use Rattle.team_sets.proofs.OrderLeast.{in_filter, of_filter}
use Rattle.team_sets.proofs.SameSet.{most, most_over, most_within}
use Rattle.ancestry.specs.Positions.{Parents, height_of, name_at, node, node_name, node_parents, nodes}
use Rattle.ancestry.proofs.Nodes.{AreFirst, Node, differ, first-more, in-nodes, in-order, node-is}
use Rattle.ancestry.proofs.Pasts.{height-stays, in-named, named-in}

most-le : {A B : Type 0} (f : A → ℕ) (g : B → ℕ) (xs : List A) (ys : List B) → ((x : A) → IsIn x xs → (y : B) × IsIn y ys × (f x ≡ g y)) → most f 0 xs ≤ most g 0 ys
most-le f g xs ys to = most_within f (most g 0 ys) 0 xs (omega arith) (λ x k.
    let there = to x k in let over : g there.0 + 1 ≤ most g 0 ys = most_over g 0 ys there.0 there.1 in let same : f x ≡ g there.0 = there.2 in omega (arith, over, same))

module _ (graph : Parents) (ps : List ℕ) (first : AreFirst graph) (given : (p : ℕ) → IsIn p ps → p < length graph) where
  abbrev next : Parents
  next = graph ++ ps ∷ []

  abbrev above : List Node
  above = named node_name node_parents (nodes next) (map name_at (get_or next (length graph) []))

  abbrev next_height_of : Node → ℕ
  next_height_of = height node_name node_parents (nodes next)

  firsts : AreFirst next
  firsts = first-more graph ps first given

  longer : length graph < length next
  longer = let more : length next ≡ length graph + 1 = length_push graph ps in omega (arith, more)

  parents-are : get_or next (length graph) [] ≡ ps
  parents-are = get_or_push graph ps [] (length graph) refl

  forth : (p : ℕ) → IsIn p ps → (y : Node) × IsIn y above × (height_of graph p ≡ next_height_of y)
  forth p k = (
    node next p,
    in_filter (λ y. has_name (map name_at (get_or next (length graph) [])) (node_name y)) (node next p) (nodes next)
        (in-nodes next p (let less : p < length graph = given p k in omega (arith, less, longer)))
        (in-named (get_or next (length graph) []) p (subst (λ l. IsIn p l) (sym parents-are) k)),
    sym (height-stays graph (ps ∷ []) firsts p (given p k)),
  )

  back : (y : Node) → IsIn y above → (p : ℕ) × IsIn p ps × (next_height_of y ≡ height_of graph p)
  back y k =
      let of = of_filter (λ y. has_name (map name_at (get_or next (length graph) [])) (node_name y)) y (nodes next) k in
      let here : IsIn y.0 ps = subst (λ l. IsIn y.0 l) parents-are (named-in (get_or next (length graph) []) y.0 of.1) in (
        y.0,
        here,
        ap next_height_of (node-is next y of.0).0 ∙ height-stays graph (ps ∷ []) firsts y.0 (given y.0 here),
      )

  pub next-height : fold (λ h p. max h (height_of graph p + 1)) 0 ps ≡ height_of next (length graph)
  unfolding most
  next-height =
      let low : most (height_of graph) 0 ps ≤ most next_height_of 0 above = most-le (height_of graph) next_height_of ps above forth in
      let high : most next_height_of 0 above ≤ most (height_of graph) 0 ps = most-le next_height_of (height_of graph) above ps back in
      (let same : most (height_of graph) 0 ps ≡ most next_height_of 0 above = omega (arith, low, high) in same)
      ∙ sym (has_height node_name node_parents (nodes next) (differ next firsts) (node next (length graph))
      (in-order next firsts (node next (length graph)) (in-nodes next (length graph) longer))).parents

  -- it is at most as high as there are positions
  pub low-height : (n : ℕ) (qs : List ℕ) → ((p : ℕ) → IsIn p qs → height_of graph p + 1 ≤ n) → fold (λ h p. max h (height_of graph p + 1)) 0 qs ≤ n
  unfolding most
  low-height n qs h = most_within (height_of graph) n 0 qs (omega arith) h
