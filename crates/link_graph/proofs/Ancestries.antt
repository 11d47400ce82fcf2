-- The ancestry of the connected links, as links come and go.
use Rattle.std.proofs.Common.{◌≡◌, ◌+◌, ◌<◌, ◌≤◌, ℕ, zero, suc, Option, Some, None, IfSome, List, [], ◌∷◌, ◌++◌, All, filter_map, get_or, map, length, position, take, slice_get, add-one, refl, sym, ◌∙◌, ap, subst, arith}
use Rattle.std.specs.Map.{keys_of}
use Rattle.std.proofs.lemmas.List.{length-map, length-take-le, length_push, take-take, take_all, take_more}
use Rattle.std.proofs.lemmas.List.Elements.{All-from_recursion, filter_map-append}
use Rattle.team_sets.specs.Ancestry.{height}
use Rattle.team_sets.specs.Names.{Name, same_name}
use Rattle.team_sets.specs.Members.{IsIn}
use Rattle.team_sets.specs.Order.{names, order_after}
use Rattle.team_sets.specs.OrderLaws.{IsSet, ParentsFirst}
use Rattle.team_sets.proofs.Ancestors.{all_of}
use Rattle.team_model.specs.Judging.{name_of, prev_of}
use Rattle.team_model.specs.declared.terms.Link.{Link}
use Rattle.ancestry.specs.Positions.{Parents, height_of}
use Rattle.link_graph.specs.Held.{arrived_of}
use Rattle.link_graph.specs.Parentage.{parent_positions, parents_in}
use Rattle.link_graph.specs.Positions.{HasEntries, linked}
use Rattle.link_graph.specs.Webs.{without_last}
use Rattle.link_graph.proofs.Fitting.{keys_linked}
use Rattle.link_graph.proofs.Parenting.{parents-earlier, parents-front, stand-as-links}
use Rattle.link_graph.proofs.Webbing.{arrived_first, arrived_grows, front_push}

take-next : {A B : Type 0} (f : A → B) (xs : List A) (k : ℕ) (x : A) → slice_get xs k ≡ Some x → take (suc k) (map f xs) ≡ take k (map f xs) ++ f x ∷ []
take-next f [] k x e = absurd (let bad : ◌≡◌ {A = Option _} None (Some x) = e in cc)
take-next f (y ∷ ys) zero x e = let same : y ≡ x = cc in ap (λ z. f z ∷ []) same
take-next f (y ∷ ys) (suc k) x e = ap (λ l. f y ∷ l) (take-next f ys k x e)

-- what is kept of one more
pub kept-more : {A B : Type 0} (f : A → Option B) (xs : List A) (i : ℕ) (x : A) (old new : List B) → i < length xs → x ≡ get_or xs i x → old ≡ filter_map f (take i xs)
    → new ≡ old ++ filter_map f (x ∷ []) → new ≡ filter_map f (take (i + 1) xs)
kept-more f xs i x old new within at is more =
    more ∙ ap (λ l. l ++ filter_map f (x ∷ [])) is ∙ sym (filter_map-append f (take i xs) (x ∷ []))
    ∙ ap (λ l. filter_map f l) (sym (take_more xs i x within ∙ ap (λ y. take i xs ++ y ∷ []) (sym at)))

take-few : {A : Type 0} (k : ℕ) (xs : List A) → length (take k xs) ≤ length xs
take-few zero xs = omega arith
take-few (suc k) [] = omega arith
take-few (suc k) (x ∷ xs) = let h : length (take k xs) ≤ length xs = take-few k xs in omega (arith, h)

module _ (placed : List Link) where
  pub many-parents : length (parents_in placed) ≡ length placed
  many-parents = length-map placed (parent_positions placed)

  -- the ancestry of the first positions
  pub count-parents : (k : ℕ) (kept : Parents) → kept ≡ take k (parents_in placed) → k ≤ length placed → length kept ≡ k
  count-parents k kept is within = ap (λ (l : Parents). length l) is ∙ length-take-le k (parents_in placed) (omega (arith, within, many-parents))

  pub fits-parents : (kept : Parents) → kept ≡ take (length kept) (parents_in placed) → length kept ≤ length placed
  fits-parents kept is =
      let few = take-few (length kept) (parents_in placed) in
      let same : length kept ≡ length (take (length kept) (parents_in placed)) = ap (λ (l : Parents). length l) is in
      omega (arith, few, same, many-parents)

  -- and of all of them
  pub whole-parents : (k : ℕ) (kept : Parents) → kept ≡ take k (parents_in placed) → length placed ≤ k → kept ≡ parents_in placed
  whole-parents k kept is past = is ∙ take_all k (parents_in placed) (omega (arith, past, many-parents))

  -- those of before stay
  pub front-parents : (old new : Parents) (k : ℕ) → old ≡ take (length old) (parents_in placed) → length old ≤ k → new ≡ take k (parents_in placed) → old ≡ take (length old) new
  front-parents old new k was later is = was ∙ sym (ap (λ (l : Parents). take (length old) l) is ∙ take-take (length old) k (parents_in placed) later)

  -- the link x of the next position, whose parents stand before it
  module _ (k : ℕ) (x : Link) (at : slice_get placed k ≡ Some x) where
    pub next-parents : (old new : Parents) (parents : List ℕ) → old ≡ take k (parents_in placed) → parents ≡ parent_positions placed x → new ≡ old ++ parents ∷ []
        → new ≡ take (k + 1) (parents_in placed)
    next-parents old new parents is here more =
        more ∙ ap (λ (l : Parents). l ++ parents ∷ []) is ∙ ap (λ (p : List ℕ). take k (parents_in placed) ++ p ∷ []) here
        ∙ sym (take-next (parent_positions placed) placed k x at) ∙ ap (λ n. take n (parents_in placed)) (sym (add-one k))

    pub given-parents : ParentsFirst name_of prev_of [] placed → (parents : List ℕ) (n : ℕ) → parents ≡ parent_positions placed x → n ≡ k → All (λ p. p < n) parents
    given-parents first parents n is count =
        All-from_recursion (λ p. p < n) parents
        (all_of (λ p. p < n) parents (λ p j. let h = parents-earlier placed first k x at p (subst (λ (l : List ℕ). IsIn p l) is j) in omega (arith, h, count)))

-- the positions of the parents of a link are found by their names
pub positions-are : (links : List Link) (entries : List (Name × ℕ)) (x : Link) (ns : List Name) (found : List ℕ) → HasEntries links entries → ns ≡ x.prev
    → found ≡ filter_map (λ n. position (same_name n) (keys_of entries)) ns → found ≡ parent_positions (linked links entries) x
positions-are links entries x ns found has same is =
    is ∙ ap (λ (ks : List Name). filter_map (λ n. position (same_name n) ks) ns) (sym (keys_linked links entries has))
    ∙ ap (λ (ms : List Name). filter_map (λ n. position (same_name n) (names name_of (linked links entries))) ms) same

-- without the link that came last
pub parents-before : (links : List Link) → 0 < length links → take (length (arrived_of (without_last links))) (parents_in (arrived_of links)) ≡ parents_in (arrived_of (without_last links))
parents-before links some =
    ap (λ (l : List Link). take (length (arrived_of (without_last links))) (parents_in l)) (arrived_grows links some)
    ∙ parents-front (arrived_of (without_last links)) (order_after name_of prev_of (length links) (arrived_of (without_last links)) links)
    (subst (λ (l : List Link). ParentsFirst name_of prev_of [] l) (arrived_grows links some) (arrived_first links (arrived_of links) refl))

-- once it is let go
pub cut-parents : (links back : List Link) (count : ℕ) (kept : Parents) → 0 < length links → count ≡ length (arrived_of (without_last links)) → kept ≡ parents_in (arrived_of links)
    → back ≡ without_last links → take count kept ≡ parents_in (arrived_of back)
cut-parents links back count kept some counted is held =
    ap (λ (l : Parents). take count l) is ∙ ap (λ n. take n (parents_in (arrived_of links))) counted ∙ parents-before links some
    ∙ ap (λ (l : List Link). parents_in (arrived_of l)) (sym held)

-- with a link that came, as far as it was known
pub parents-so-far : (old new placed : List Link) (x : Link) (kept : Parents) → new ≡ old ++ x ∷ [] → placed ≡ arrived_of new → kept ≡ parents_in (arrived_of old) → kept ≡ take (length kept) (parents_in placed)
parents-so-far old new placed x kept grown is was =
    let back : without_last new ≡ old = front_push old x new grown in
    let long : length new ≡ length old + 1 = ap (λ (l : List Link). length l) grown ∙ length_push old x in
    let many : length kept ≡ length (arrived_of old) = ap (λ (l : Parents). length l) was ∙ many-parents (arrived_of old) in
    was
    ∙ sym (ap (λ (l : List Link). take (length kept) (parents_in l)) is
    ∙ ap (λ n. take n (parents_in (arrived_of new))) (many ∙ ap (λ (l : List Link). length (arrived_of l)) (sym back))
    ∙ parents-before new (omega (arith, long)) ∙ ap (λ (l : List Link). parents_in (arrived_of l)) back)

-- the height of a position is that of its link
pub height-at : (links : List Link) → IsSet name_of links → (p : ℕ) (kept : Parents) (h : ℕ) → kept ≡ parents_in (arrived_of links) → h ≡ height_of kept p
    → IfSome (slice_get (arrived_of links) p) (λ x. h ≡ height name_of prev_of links x)
height-at links set p kept h is so = go (slice_get (arrived_of links) p) refl
  where
    go : (o : Option Link) → slice_get (arrived_of links) p ≡ o → IfSome o (λ x. h ≡ height name_of prev_of links x)
    go None e = tt
    go (Some x) e = so ∙ ap (λ (l : Parents). height_of l p) is ∙ (stand-as-links links set p p x x e e).heights
