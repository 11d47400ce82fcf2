-- Positions stand to each other as their links do.
use Rattle.std.proofs.Common.{◌≡◌, ℕ, zero, suc, ◌+◌, ◌<◌, ◌≤◌, Bool, true, false, not, ◌||◌, cond, List, [], ◌∷◌, ◌++◌, Option, Some, None, map, filter_map, length, get_or, take, drop, slice_get, refl, sym, ◌∙◌, ap, subst, inl, inr, ◌⊎◌, append_assoc, arith}
use Rattle.std.specs.List.{cons_option, enumerate_from, position, position_or_len, IsDistinct}
use Rattle.std.specs.Cmp.Lexicographic.{nat_list_eq_equiv}
use Rattle.std.specs.Option.{unwrap_or}
use Rattle.std.proofs.lemmas.Bool.{false≢true, or_cases, or_left, or_right, lt-ltb}
use Rattle.std.proofs.lemmas.List.{length-map, map-append, take_at}
use Rattle.std.proofs.lemmas.List.Quantifiers.{position-Some}
use Rattle.team_sets.specs.Names.{Name, same_name, has_name}
use Rattle.team_sets.specs.Members.{IsIn}
use Rattle.team_sets.specs.Ancestry.{are_concurrent, height, is_before}
use Rattle.team_sets.specs.Order.{names, order}
use Rattle.team_sets.specs.OrderLaws.{IsSet, NamesDiffer, ParentsFirst}
use Rattle.team_sets.proofs.Arrivals.{arrived_ordered, later_new}
use Rattle.team_sets.proofs.Ancestors.{first_take, in_at, next_at}
use Rattle.team_sets.proofs.Connects.{next_parts}
use Rattle.team_sets.proofs.Distinct.{apart, distinct-differ}
use Rattle.team_sets.proofs.Pasts.{all_names, same_name-is}
use Rattle.team_sets.proofs.SameOrder.{same_connected}
use Rattle.team_model.specs.Judging.{name_of, prev_of}
use Rattle.team_model.specs.declared.terms.Link.{Link}
use Rattle.ancestry.specs.Positions.{are_beside, comes_before, height_of, name_at, node, node_name, node_parents, nodes}
use Rattle.ancestry.specs.Renaming.{Renames}
use Rattle.ancestry.proofs.Nodes.{same-number}
use Rattle.ancestry.proofs.Pasts.{in-named, named-in}
use Rattle.ancestry.proofs.Renamed.{stand-alike}
use Rattle.team_sets.proofs.Parts.{has_of_in}
use Rattle.team_sets.proofs.SameSet.{same_bools}
use Rattle.link_graph.specs.Held.{arrived_of}
use Rattle.link_graph.proofs.Names.{place_named}
use Rattle.team_sets.proofs.Lists.{same_flip}
use Rattle.link_graph.specs.Parentage.{PositionsStandAs, PositionsStandAsLinks, parent_positions, parents_in}

-- the place of the first that passes is found
found-within : {A : Type 0} (p : A → Bool) (xs : List A) (i : ℕ) (x : A) → slice_get xs i ≡ Some x → p x ≡ true → (position_or_len p xs ≤ i) × (i < length xs)
found-within p [] i x e h = absurd (let bad : ◌≡◌ {A = Option _} None (Some x) = e in cc)
found-within p (y ∷ ys) zero x e h = let same : y ≡ x = cc in rw (subst (λ z. p z ≡ true) (sym same) h) (omega arith, omega arith)
found-within p (y ∷ ys) (suc i) x e h = go (p y) (found-within p ys i x e h)
  where
    go : (b : Bool) → (position_or_len p ys ≤ i) × (i < length ys) → (cond (not b) (1 + position_or_len p ys) 0 ≤ suc i) × (suc i < suc (length ys))
    go true m = let lt : i < length ys = m.1 in (omega arith, omega (arith, lt))
    go false m = let le : position_or_len p ys ≤ i = m.0 in let lt : i < length ys = m.1 in (omega (arith, le), omega (arith, lt))

found-at : {A : Type 0} (p : A → Bool) (xs : List A) (i : ℕ) (x : A) → slice_get xs i ≡ Some x → p x ≡ true → position p xs ≡ Some (position_or_len p xs)
found-at p xs i x e h =
    let m = found-within p xs i x e h in let le : position_or_len p xs ≤ i = m.0 in let lt : i < length xs = m.1 in
    rw (lt-ltb (position_or_len p xs) (length xs) (omega (arith, le, lt))) refl

member-at : {A : Type 0} (xs : List A) (x : A) → IsIn x xs → (i : ℕ) × (slice_get xs i ≡ Some x)
member-at [] x k = absurd k
member-at (y ∷ ys) x (inl e) = (0, ap (λ z. Some z) e)
member-at (y ∷ ys) x (inr k) = let m = member-at ys x k in (suc m.0, m.1)

in-kept : {A B : Type 0} (f : A → Option B) (xs : List A) (x : A) (y : B) → IsIn x xs → f x ≡ Some y → IsIn y (filter_map f xs)
in-kept f [] x y k e = absurd k
in-kept f (z ∷ zs) x y (inl same) e = rw (subst (λ w. f w ≡ Some y) (sym same) e) (inl refl)
in-kept {B = B} f (z ∷ zs) x y (inr k) e = go (f z) (in-kept f zs x y k e)
  where
    go : (o : Option B) → IsIn y (filter_map f zs) → IsIn y (cons_option o (filter_map f zs))
    go None h = h
    go (Some w) h = inr h

of-kept : {A B : Type 0} (f : A → Option B) (xs : List A) (y : B) → IsIn y (filter_map f xs) → (x : A) × IsIn x xs × (f x ≡ Some y)
of-kept f [] y k = absurd k
of-kept {A = A} {B = B} f (z ∷ zs) y k = go (f z) refl k (of-kept f zs y)
  where
    go : (o : Option B) → f z ≡ o → IsIn y (cons_option o (filter_map f zs)) → (IsIn y (filter_map f zs) → (x : A) × IsIn x zs × (f x ≡ Some y)) → (x : A) × IsIn x (z ∷ zs) × (f x ≡ Some y)
    go None e j more = let r = more j in (r.0, inr r.1, r.2)
    go (Some w) e (inl same) more = (z, inl refl, e ∙ ap (λ v. Some v) same)
    go (Some w) e (inr j) more = let r = more j in (r.0, inr r.1, r.2)

name-in : (ms : List Name) (n : Name) → has_name ms n ≡ true → IsIn n ms
name-in [] n h = absurd (false≢true h)
name-in (m ∷ ms) n h = go (or_cases (same_name m n) (has_name ms n) h) (name-in ms n)
  where
    go : (same_name m n ≡ true) ⊎ (has_name ms n ≡ true) → (has_name ms n ≡ true → IsIn n ms) → (m ≡ n) ⊎ IsIn n ms
    go (inl e) more = inl (same_name-is m n e)
    go (inr k) more = inr (more k)

module _ (placed : List Link) (set : IsSet name_of placed) where
  apart-names : (xs : List Link) → IsSet name_of xs → (i j : ℕ) (x y : Link) → slice_get xs i ≡ Some x → slice_get xs j ≡ Some y → x.name ≡ y.name → i ≡ j
  unfolding IsDistinct
  apart-names [] s i j x y e f same = absurd (let bad : ◌≡◌ {A = Option Link} None (Some x) = e in cc)
  apart-names (z ∷ zs) s zero zero x y e f same = refl
  apart-names (z ∷ zs) s zero (suc j) x y e f same =
      let here : z ≡ x = cc in
      absurd (false≢true (sym (apart name_of z.name y zs s.0 (in_at zs j y f)) ∙ ap (λ n. same_name n y.name) (ap (λ (w : Link). w.name) here ∙ same) ∙ nat_list_eq_equiv.refl y.name))
  apart-names (z ∷ zs) s (suc i) zero x y e f same =
      let here : z ≡ y = cc in
      absurd (false≢true (sym (apart name_of z.name x zs s.0 (in_at zs i x e)) ∙ ap (λ n. same_name n x.name) (ap (λ (w : Link). w.name) here ∙ sym same) ∙ nat_list_eq_equiv.refl x.name))
  apart-names (z ∷ zs) s (suc i) (suc j) x y e f same = ap suc (apart-names zs s.1 i j x y e f same)

  link-named : (xs : List Link) (k : ℕ) (n : Name) → slice_get (names name_of xs) k ≡ Some n → (y : Link) × (slice_get xs k ≡ Some y) × (y.name ≡ n)
  link-named [] k n e = absurd (let bad : ◌≡◌ {A = Option Name} None (Some n) = e in cc)
  link-named (z ∷ zs) zero n e = (z, refl, (let same : z.name ≡ n = cc in same))
  link-named (z ∷ zs) (suc k) n e = link-named zs k n e

  named-link : (xs : List Link) (k : ℕ) (x : Link) → slice_get xs k ≡ Some x → slice_get (names name_of xs) k ≡ Some x.name
  named-link [] k x e = absurd (let bad : ◌≡◌ {A = Option Link} None (Some x) = e in cc)
  named-link (z ∷ zs) zero x e = let same : z ≡ x = cc in ap (λ (w : Link). Some w.name) same
  named-link (z ∷ zs) (suc k) x e = named-link zs k x e

  -- a link's position is its place
  position-is : (i : ℕ) (x : Link) → slice_get placed i ≡ Some x → position (same_name x.name) (names name_of placed) ≡ Some i
  position-is i x e =
      let found = found-at (same_name x.name) (names name_of placed) i x.name (named-link placed i x e) (nat_list_eq_equiv.refl x.name) in
      let k : ℕ = position_or_len (same_name x.name) (names name_of placed) in
      let y = link-named placed k x.name (place_named x.name (names name_of placed) k found) in
      found ∙ ap (λ j. Some j) (apart-names placed set k i y.0 x y.1 e y.2)

  to-node : Link → ℕ × List ℕ
  to-node x = (unwrap_or (position (same_name x.name) (names name_of placed)) 0, parent_positions placed x)

  node-place : (i : ℕ) (x : Link) → slice_get placed i ≡ Some x → (to-node x).0 ≡ i
  unfolding to-node
  node-place i x e = ap (λ o. unwrap_or o 0) (position-is i x e)

  from-place : (k : ℕ) (rest : List Link) → ((i : ℕ) (x : Link) → slice_get rest i ≡ Some x → (to-node x).0 ≡ k + i)
      → enumerate_from k (map (parent_positions placed) rest) ≡ map to-node rest
  unfolding to-node
  from-place k [] h = refl
  from-place k (x ∷ rest) h =
      let here : unwrap_or (position (same_name x.name) (names name_of placed)) 0 ≡ k = h 0 x refl ∙ (let z : k + 0 ≡ k = omega arith in z) in
      let more : enumerate_from (k + 1) (map (parent_positions placed) rest) ≡ map to-node rest =
      from-place (k + 1) rest (λ i y e. h (suc i) y e ∙ (let z : k + suc i ≡ (k + 1) + i = omega arith in z)) in
      λ i. (sym here i, parent_positions placed x) ∷ more i

  nodes-are : nodes (parents_in placed) ≡ map to-node placed
  nodes-are = from-place 0 placed (λ i x e. node-place i x e ∙ (let z : i ≡ 0 + i = omega arith in z))

  get-map : {A B : Type 0} (f : A → B) (xs : List A) (i : ℕ) (x : A) (d : B) → slice_get xs i ≡ Some x → get_or (map f xs) i d ≡ f x
  get-map f [] i x d e = absurd (let bad : ◌≡◌ {A = Option _} None (Some x) = e in cc)
  get-map f (y ∷ ys) zero x d e = let same : y ≡ x = cc in ap f same
  get-map f (y ∷ ys) (suc i) x d e = get-map f ys i x d e

  node-is : (i : ℕ) (x : Link) → slice_get placed i ≡ Some x → node (parents_in placed) i ≡ to-node x
  unfolding to-node
  node-is i x e =
      ap (λ l. (i, l)) (get-map (parent_positions placed) placed i x [] e) ∙ ap (λ j. (j, parent_positions placed x)) (sym (ap (λ o. unwrap_or o 0) (position-is i x e)))

  renames : Renames name_of prev_of node_name node_parents to-node placed
  unfolding to-node
  renames = record { names = names-alike; parents = parents-alike }
    where
      names-alike : (x y : Link) → IsIn x placed → IsIn y placed → same_name (name_at (to-node x).0) (name_at (to-node y).0) ≡ same_name x.name y.name
      names-alike x y k j = same_bools (same_name (name_at (to-node x).0) (name_at (to-node y).0)) (same_name x.name y.name) forth back
        where
          forth : same_name (name_at (to-node x).0) (name_at (to-node y).0) ≡ true → same_name x.name y.name ≡ true
          forth h =
              let i = member-at placed x k in
              let l = member-at placed y j in
              let same : i.0 ≡ l.0 = sym (node-place i.0 x i.1) ∙ same-number (to-node x).0 (to-node y).0 h ∙ node-place l.0 y l.1 in
              let one : ◌≡◌ {A = Option Link} (Some x) (Some y) = sym i.1 ∙ ap (λ p. slice_get placed p) same ∙ l.1 in
              let link : x ≡ y = cc in
              ap (λ (z : Link). same_name z.name y.name) link ∙ nat_list_eq_equiv.refl y.name

          back : same_name x.name y.name ≡ true → same_name (name_at (to-node x).0) (name_at (to-node y).0) ≡ true
          back h =
              ap (λ n. same_name (name_at (unwrap_or (position (same_name n) (names name_of placed)) 0)) (name_at (to-node y).0)) (same_name-is x.name y.name h)
              ∙ nat_list_eq_equiv.refl (name_at (to-node y).0)

      parents-alike : (x y : Link) → IsIn x placed → IsIn y placed → has_name (map name_at (parent_positions placed x)) (name_at (to-node y).0) ≡ has_name x.prev y.name
      parents-alike x y k j = same_bools (has_name (map name_at (parent_positions placed x)) (name_at (to-node y).0)) (has_name x.prev y.name) forth back
        where
          at : (i : ℕ) × (slice_get placed i ≡ Some y)
          at = member-at placed y j

          forth : has_name (map name_at (parent_positions placed x)) (name_at (to-node y).0) ≡ true → has_name x.prev y.name ≡ true
          forth h =
              let n = of-kept (λ n. position (same_name n) (names name_of placed)) x.prev (to-node y).0 (named-in (parent_positions placed x) (to-node y).0 h) in
              let there : slice_get (names name_of placed) (to-node y).0 ≡ Some n.0 = place_named n.0 (names name_of placed) (to-node y).0 n.2 in
              let here : slice_get (names name_of placed) (to-node y).0 ≡ Some y.name = ap (λ i. slice_get (names name_of placed) i) (node-place at.0 y at.1) ∙ named-link placed at.0 y at.1 in
              let one : ◌≡◌ {A = Option Name} (Some n.0) (Some y.name) = sym there ∙ here in
              let same : n.0 ≡ y.name = cc in
              has_of_in name_of prev_of x.prev y.name (subst (λ m. IsIn m x.prev) same n.1)

          back : has_name x.prev y.name ≡ true → has_name (map name_at (parent_positions placed x)) (name_at (to-node y).0) ≡ true
          back h =
              in-named (parent_positions placed x) (to-node y).0
              (in-kept (λ n. position (same_name n) (names name_of placed)) x.prev y.name (to-node y).0 (name-in x.prev y.name h)
              (position-is at.0 y at.1 ∙ ap (λ i. Some i) (sym (node-place at.0 y at.1))))

  pub stand-as : (i j : ℕ) (x y : Link) → slice_get placed i ≡ Some x → slice_get placed j ≡ Some y
      → (comes_before (parents_in placed) i j ≡ is_before name_of prev_of placed x.name y) × (are_beside (parents_in placed) i j ≡ are_concurrent name_of prev_of placed x y)
      × (height_of (parents_in placed) j ≡ height name_of prev_of placed y)
  unfolding to-node
  stand-as i j x y e f =
      let alike = stand-alike name_of prev_of node_name node_parents to-node placed renames x y (in_at placed i x e) (in_at placed j y f) in (
        ap (λ (l : List (ℕ × List ℕ)). is_before node_name node_parents l (name_at i) (node (parents_in placed) j)) nodes-are
            ∙ ap (λ (z : ℕ × List ℕ). is_before node_name node_parents (map to-node placed) (name_at i) z) (node-is j y f)
            ∙ ap (λ (p : ℕ). is_before node_name node_parents (map to-node placed) (name_at p) (to-node y)) (sym (node-place i x e)) ∙ alike.before,
        ap (λ (l : List (ℕ × List ℕ)). are_concurrent node_name node_parents l (node (parents_in placed) i) (node (parents_in placed) j)) nodes-are
            ∙ ap (λ (z : ℕ × List ℕ). are_concurrent node_name node_parents (map to-node placed) z (node (parents_in placed) j)) (node-is i x e)
            ∙ ap (λ (z : ℕ × List ℕ). are_concurrent node_name node_parents (map to-node placed) (to-node x) z) (node-is j y f) ∙ alike.beside,
        ap (λ (l : List (ℕ × List ℕ)). height node_name node_parents l (node (parents_in placed) j)) nodes-are
            ∙ ap (λ (z : ℕ × List ℕ). height node_name node_parents (map to-node placed) z) (node-is j y f) ∙ alike.heights,
      )

-- the same in the whole set, where others may wait
pub stand-as-links : PositionsStandAsLinks
stand-as-links links set i j x y e f =
    let of = arrived_ordered name_of prev_of links set in
    let differ = distinct-differ name_of links set in
    let same = same_connected name_of prev_of (arrived_of links) links (distinct-differ name_of (arrived_of links) of.set) differ of.same in
    let here = stand-as (arrived_of links) of.set i j x y e f in
    let first : IsIn x (order name_of prev_of (arrived_of links)) = subst (λ l. IsIn x l) (sym of.same) (of.members.forth x (in_at (arrived_of links) i x e)) in
    let second : IsIn y (order name_of prev_of (arrived_of links)) = subst (λ l. IsIn y l) (sym of.same) (of.members.forth y (in_at (arrived_of links) j y f)) in
    record {
      before = here.0 ∙ same.ancestors y second x.name;
      beside = here.1 ∙ same.concurrent x y first second;
      heights = here.2 ∙ same.heights y second;
    }

-- ---- parents stand before their children

name-at : (xs : List Link) (n : Name) → has_name (names name_of xs) n ≡ true → (i : ℕ) × (m : Name) × (slice_get (names name_of xs) i ≡ Some m) × (same_name n m ≡ true) × (i < length xs)
name-at [] n h = absurd (false≢true h)
name-at (x ∷ xs) n h = go (or_cases (same_name x.name n) (has_name (names name_of xs) n) h) (name-at xs n)
  where
    go : (same_name x.name n ≡ true) ⊎ (has_name (names name_of xs) n ≡ true)
        → (has_name (names name_of xs) n ≡ true → (i : ℕ) × (m : Name) × (slice_get (names name_of xs) i ≡ Some m) × (same_name n m ≡ true) × (i < length xs))
        → (i : ℕ) × (m : Name) × (slice_get (names name_of (x ∷ xs)) i ≡ Some m) × (same_name n m ≡ true) × (i < suc (length xs))
    go (inl e) more = (0, x.name, refl, same_flip n x.name ∙ e, omega arith)
    go (inr k) more = let r = more k in let lt : r.0 < length xs = r.4 in (suc r.0, r.1, r.2, r.3, omega (arith, lt))

slice-take : {A : Type 0} (k i : ℕ) (xs : List A) (x : A) → slice_get (take k xs) i ≡ Some x → slice_get xs i ≡ Some x
slice-take zero i xs x e = absurd (let bad : ◌≡◌ {A = Option _} None (Some x) = e in cc)
slice-take (suc k) i [] x e = absurd (let bad : ◌≡◌ {A = Option _} None (Some x) = e in cc)
slice-take (suc k) zero (y ∷ ys) x e = e
slice-take (suc k) (suc i) (y ∷ ys) x e = slice-take k i ys x e

names-take : (k : ℕ) (xs : List Link) → names name_of (take k xs) ≡ take k (names name_of xs)
names-take zero xs = refl
names-take (suc k) [] = refl
names-take (suc k) (x ∷ xs) = ap (λ l. x.name ∷ l) (names-take k xs)

take-few : {A : Type 0} (k : ℕ) (xs : List A) → length (take k xs) ≤ k
take-few zero xs = omega arith
take-few (suc k) [] = omega arith
take-few (suc k) (x ∷ xs) = let h : length (take k xs) ≤ k = take-few k xs in omega (arith, h)

pub parents-earlier : (placed : List Link) → ParentsFirst name_of prev_of [] placed → (k : ℕ) (x : Link) → slice_get placed k ≡ Some x → (p : ℕ) → IsIn p (parent_positions placed x) → p < k
parents-earlier placed first k x e p j =
    let n = of-kept (λ n. position (same_name n) (names name_of placed)) x.prev p j in
    let next = next_parts name_of prev_of (take k placed) x (next_at name_of prev_of k [] placed x first e) in
    let has = all_names (has_name (names name_of (take k placed))) x.prev n.0 next.1 (has_of_in name_of prev_of x.prev n.0 n.1) in
    let at = name-at (take k placed) n.0 has in
    let there : slice_get (names name_of placed) at.0 ≡ Some at.1 = slice-take k at.0 (names name_of placed) at.1 (ap (λ l. slice_get l at.0) (sym (names-take k placed)) ∙ at.2) in
    let found = found-at (same_name n.0) (names name_of placed) at.0 at.1 there at.3 in
    let one : ◌≡◌ {A = Option ℕ} (Some (position_or_len (same_name n.0) (names name_of placed))) (Some p) = sym found ∙ n.2 in
    let same : position_or_len (same_name n.0) (names name_of placed) ≡ p = cc in
    let le : position_or_len (same_name n.0) (names name_of placed) ≤ at.0 = (found-within (same_name n.0) (names name_of placed) at.0 at.1 there at.3).0 in
    let lt : at.0 < length (take k placed) = at.4 in
    let few : length (take k placed) ≤ k = take-few k placed in
    omega (arith, same, le, lt, few)

found-front : {A : Type 0} (p : A → Bool) (xs ys : List A) (i : ℕ) (x : A) → slice_get xs i ≡ Some x → p x ≡ true → position_or_len p (xs ++ ys) ≡ position_or_len p xs
found-front p [] ys i x e h = absurd (let bad : ◌≡◌ {A = Option _} None (Some x) = e in cc)
found-front p (z ∷ zs) ys zero x e h = let same : z ≡ x = cc in rw (subst (λ w. p w ≡ true) (sym same) h) refl
found-front p (z ∷ zs) ys (suc i) x e h = ap (λ n. cond (not (p z)) (1 + n) 0) (found-front p zs ys i x e h)

slice-front : {A : Type 0} (xs ys : List A) (i : ℕ) (x : A) → slice_get xs i ≡ Some x → slice_get (xs ++ ys) i ≡ Some x
slice-front [] ys i x e = absurd (let bad : ◌≡◌ {A = Option _} None (Some x) = e in cc)
slice-front (z ∷ zs) ys zero x e = e
slice-front (z ∷ zs) ys (suc i) x e = slice-front zs ys i x e

names-append : (xs ys : List Link) → names name_of (xs ++ ys) ≡ names name_of xs ++ names name_of ys
names-append [] ys = refl
names-append (x ∷ xs) ys = ap (λ l. x.name ∷ l) (names-append xs ys)

kept-alike : {A B : Type 0} (f g : A → Option B) (xs : List A) → ((x : A) → IsIn x xs → f x ≡ g x) → filter_map f xs ≡ filter_map g xs
kept-alike f g [] h = refl
kept-alike f g (x ∷ xs) h = rw (h x (inl refl), kept-alike f g xs (λ y k. h y (inr k))) refl

-- where links connect after those of a, the parents of those stand where they stood
module _ (a b : List Link) (first : ParentsFirst name_of prev_of [] (a ++ b)) where
  front-first : ParentsFirst name_of prev_of [] a
  front-first = subst (ParentsFirst name_of prev_of []) (take_at a b (length a) refl) (first_take name_of prev_of (length a) [] (a ++ b) first)

  parents-stay : (k : ℕ) (x : Link) → slice_get a k ≡ Some x → parent_positions (a ++ b) x ≡ parent_positions a x
  parents-stay k x e = kept-alike (λ n. position (same_name n) (names name_of (a ++ b))) (λ n. position (same_name n) (names name_of a)) x.prev same
    where
      same : (n : Name) → IsIn n x.prev → position (same_name n) (names name_of (a ++ b)) ≡ position (same_name n) (names name_of a)
      same n k' =
          let next = next_parts name_of prev_of (take k a) x (next_at name_of prev_of k [] a x front-first e) in
          let has = all_names (has_name (names name_of (take k a))) x.prev n next.1 (has_of_in name_of prev_of x.prev n k') in
          let at = name-at (take k a) n has in
          let there : slice_get (names name_of a) at.0 ≡ Some at.1 = slice-take k at.0 (names name_of a) at.1 (ap (λ l. slice_get l at.0) (sym (names-take k a)) ∙ at.2) in
          rw (names-append a b)
          (found-at (same_name n) (names name_of a ++ names name_of b) at.0 at.1 (slice-front (names name_of a) (names name_of b) at.0 at.1 there) at.3
          ∙ ap (λ i. Some i) (found-front (same_name n) (names name_of a) (names name_of b) at.0 at.1 there at.3)
          ∙ sym (found-at (same_name n) (names name_of a) at.0 at.1 there at.3))

  each-stays : (xs : List Link) → ((x : Link) → IsIn x xs → parent_positions (a ++ b) x ≡ parent_positions a x) → map (parent_positions (a ++ b)) xs ≡ map (parent_positions a) xs
  each-stays [] h = refl
  each-stays (x ∷ xs) h = rw (h x (inl refl), each-stays xs (λ y k. h y (inr k))) refl

  pub parents-front : take (length a) (parents_in (a ++ b)) ≡ parents_in a
  parents-front =
      ap (λ l. take (length a) l) (map-append (parent_positions (a ++ b)) a b)
      ∙ take_at (map (parent_positions (a ++ b)) a) (map (parent_positions (a ++ b)) b) (length a) (length-map a (parent_positions (a ++ b)))
      ∙ each-stays a (λ x k. let m = member-at a x k in parents-stay m.0 x m.1)
