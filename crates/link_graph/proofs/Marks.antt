-- Marks of links with their pasts, by position.
use Rattle.std.proofs.Common.{◌≡◌, ◌≢◌, ◌⊎◌, ℕ, zero, suc, ◌+◌, ◌<◌, ◌≤◌, Bool, true, false, ◌||◌, List, [], ◌∷◌, ◌++◌, Option, Some, None, refl, sym, ◌∙◌, ap, inl, inr, length, take, drop, replicate, append-nil, map, set, get_or, slice_get, position, nat_lt, cond, ltb-false, arith}
use Rattle.std.specs.List.{list_any, position_or_len}
use Rattle.std.specs.Cmp.Lexicographic.{bytes_decides}
use Rattle.std.proofs.lemmas.Bool.{false≢true, or_cases, or_left, or_right}
use Rattle.std.proofs.lemmas.List.Sums.{fails_before_first}
use Rattle.std.proofs.lemmas.List.{drop_all, ext_get_or, get_or-set_other, get_or-set_same, length-map, take_all}
use Rattle.team_sets.specs.Names.{Name, same_name, has_name}
use Rattle.team_sets.specs.Order.{names}
use Rattle.team_sets.specs.Ancestry.{is_before, is_before_within, named}
use Rattle.team_sets.specs.OrderLaws.{IsSet}
use Rattle.team_sets.specs.Members.{IsIn}
use Rattle.team_sets.proofs.Agree.{any_in, same_answer}
use Rattle.team_sets.proofs.Ancestors.{transitive, unrolled}
use Rattle.team_sets.proofs.OrderLeast.{in_filter, of_filter}
use Rattle.team_sets.proofs.Pasts.{any_of, same_name-is}
use Rattle.team_model.specs.Judging.{name_of, order_of, prev_of}
use Rattle.team_model.specs.declared.terms.Link.{Link}
use Rattle.link_graph.specs.Held.{arrived_of}
use Rattle.link_graph.proofs.Names.{get_at, get_within, place_named}
use Rattle.team_sets.proofs.Lists.{some_at}
use Rattle.link_graph.specs.Below.{AreMarked, is_within}
use Rattle.link_graph.proofs.Arrived.{at_links, at_order, differ, not_parent, one_place, ordered, parent_at, place_of_order}
use Rattle.link_graph.proofs.Picks.{take_next}

or_same : (a b c : Bool) → (a || (b || c)) ≡ ((a || b) || c)
or_same true b c = refl
or_same false b c = refl

or_none : (a : Bool) → (a || false) ≡ a
or_none true = refl
or_none false = refl

or_all : (a : Bool) → (a || true) ≡ true
or_all true = refl
or_all false = refl

has_more : (ms : List Name) (n a : Name) → has_name (ms ++ n ∷ []) a ≡ (has_name ms a || same_name n a)
has_more [] n a = or_none (same_name n a)
has_more (m ∷ ms) n a = ap (λ b. same_name m a || b) (has_more ms n a) ∙ or_same (same_name m a) (has_name ms a) (same_name n a)

pub named_at : (xs : List Link) (i : ℕ) (x : Link) → slice_get xs i ≡ Some x → slice_get (names name_of xs) i ≡ Some x.name
named_at [] i x e = absurd (let bad : ◌≡◌ {A = Option Link} None (Some x) = e in cc)
named_at (y ∷ ys) zero x e = let same : y ≡ x = cc in ap (λ (z : Link). Some z.name) same
named_at (y ∷ ys) (suc i) x e = named_at ys i x e

pub link_named : (xs : List Link) (i : ℕ) (n : Name) → slice_get (names name_of xs) i ≡ Some n → (x : Link) × (slice_get xs i ≡ Some x) × (x.name ≡ n)
link_named [] i n e = absurd (let bad : ◌≡◌ {A = Option Name} None (Some n) = e in cc)
link_named (y ∷ ys) zero n e = let same : y.name ≡ n = cc in (y, refl, same)
link_named (y ∷ ys) (suc i) n e = link_named ys i n e

here_or_after : (q j : ℕ) → q ≤ j → (q ≡ j) ⊎ (q + 1 ≤ j)
here_or_after zero zero h = inl refl
here_or_after zero (suc j) h = inr (omega arith)
here_or_after (suc q) zero h = absurd (omega arith)
here_or_after (suc q) (suc j) h = go (here_or_after q j (omega arith))
  where
    go : (q ≡ j) ⊎ (q + 1 ≤ j) → (suc q ≡ suc j) ⊎ (suc q + 1 ≤ suc j)
    go (inl e) = inl (ap suc e)
    go (inr l) = inr (omega arith)

pub not_there : (p : Name → Bool) (ns : List Name) (i : ℕ) (n : Name) → position p ns ≡ None → slice_get ns i ≡ Some n → p n ≡ false
not_there p ns i n e at = go (nat_lt (position_or_len p ns) (length ns)) refl
  where
    go : (b : Bool) → nat_lt (position_or_len p ns) (length ns) ≡ b → p n ≡ false
    go true f = absurd (let bad : ◌≡◌ {A = Option ℕ} (Some (position_or_len p ns)) None = sym (ap (λ b. cond b (Some (position_or_len p ns)) None) f) ∙ e in cc)
    go false f =
        let far : length ns ≤ position_or_len p ns = ltb-false (position_or_len p ns) (length ns) f in
        let within : i < length ns = get_within ns i n at in
        ap p (sym (get_at ns i n n at)) ∙ fails_before_first p ns i n (omega arith)

pub map_at : {A B : Type 0} (f : A → B) (xs : List A) (i : ℕ) (x : A) (d : B) → slice_get xs i ≡ Some x → get_or (map f xs) i d ≡ f x
map_at {A} f [] i x d e = absurd (let bad : ◌≡◌ {A = Option A} None (Some x) = e in cc)
map_at f (y ∷ ys) zero x d e = let same : y ≡ x = cc in ap f same
map_at f (y ∷ ys) (suc i) x d e = map_at f ys i x d e

-- what is marked is within the names, the links of these names are marked, and from position k on each parent of a marked link
pub record IsMarking (links : List Link) (heads : List Name) (k : ℕ) (flags : List Bool) : Type 0 where
  pub size : length flags ≡ length (arrived_of links)
  pub sound : (i : ℕ) (x : Link) → slice_get (arrived_of links) i ≡ Some x → get_or flags i false ≡ true → is_within links heads x ≡ true
  pub heads_too : (i : ℕ) (x : Link) → slice_get (arrived_of links) i ≡ Some x → has_name heads x.name ≡ true → get_or flags i false ≡ true
  pub parents_too : (i j : ℕ) (x y : Link) → slice_get (arrived_of links) i ≡ Some x → slice_get (arrived_of links) j ≡ Some y → k ≤ j
      → get_or flags j false ≡ true → has_name y.prev x.name ≡ true → get_or flags i false ≡ true

-- one more name
pub mark_next : (links : List Link) (ns : List Name) (k : ℕ) (n : Name) (old now new : List Bool) → slice_get ns k ≡ Some n → AreMarked links (take k ns) old now → AreMarked links (n ∷ []) now new
    → AreMarked links (take (k + 1) ns) old new
mark_next links ns k n old now new at before more i x there =
    more i x there ∙ ap (λ b. b || (same_name n x.name || false)) (before i x there)
    ∙ ap (λ b. (get_or old i false || has_name (take k ns) x.name) || b) (or_none (same_name n x.name))
    ∙ sym (or_same (get_or old i false) (has_name (take k ns) x.name) (same_name n x.name))
    ∙ ap (λ b. get_or old i false || b) (sym (ap (λ l. has_name l x.name) (take_next ns k n at) ∙ has_more (take k ns) n x.name))

-- a list that was written over another of its length
pub whole_flags : (n : ℕ) (a b : List Bool) → length a ≡ length b → n ≡ length b → take n (a ++ drop (length a) b) ≡ a
whole_flags n a b e f =
    let none : drop (length a) b ≡ [] = drop_all (length a) b (omega arith) in
    rw (none, append-nil) (take_all n a (omega arith))

pub none_marked : (n i : ℕ) → get_or (replicate n false) i false ≡ false
none_marked zero i = refl
none_marked (suc n) zero = refl
none_marked (suc n) (suc i) = none_marked n i

module _ (links : List Link) (set_of : IsSet name_of links) where
  -- the link of the name is marked
  pub mark_some : (n : Name) (p : ℕ) (now new : List Bool) → length now ≡ length (arrived_of links) → position (same_name n) (names name_of (arrived_of links)) ≡ Some p → new ≡ set now p true
      → AreMarked links (n ∷ []) now new
  mark_some n p now new size found is i x there = go (same_name n x.name) refl
    where
      y : (z : Link) × (slice_get (arrived_of links) p ≡ Some z) × (z.name ≡ n)
      y = link_named (arrived_of links) p n (place_named n (names name_of (arrived_of links)) p found)

      elsewhere : i ≡ p → x.name ≡ n
      elsewhere same =
          let one : ◌≡◌ {A = Option Link} (Some x) (Some y.0) = sym there ∙ ap (λ j. slice_get (arrived_of links) j) same ∙ y.1 in
          let link : x ≡ y.0 = cc in
          ap name_of link ∙ y.2

      go : (b : Bool) → same_name n x.name ≡ b → get_or new i false ≡ (get_or now i false || (same_name n x.name || false))
      go true e =
          let same : i ≡ p = one_place (arrived_of links) (ordered links set_of).set i p x y.0 there y.1 (sym (same_name-is n x.name e) ∙ sym y.2) in
          let within : i < length (arrived_of links) = get_within (arrived_of links) i x there in
          let short : p < length now = omega (arith, same, within, size) in
          ap (λ l. get_or l i false) is ∙ ap (λ j. get_or (set now p true) j false) same ∙ get_or-set_same now p true false short
          ∙ sym (ap (λ b. get_or now i false || (b || false)) e ∙ or_all (get_or now i false))
      go false e =
          let apart : i ≢ p = λ same. false≢true (sym e ∙ (bytes_decides n x.name).1 (sym (elsewhere same))) in
          ap (λ l. get_or l i false) is ∙ get_or-set_other now p i true false apart
          ∙ sym (ap (λ b. get_or now i false || (b || false)) e ∙ or_none (get_or now i false))

  -- no link has the name
  pub mark_none : (n : Name) (now new : List Bool) → position (same_name n) (names name_of (arrived_of links)) ≡ None → new ≡ now → AreMarked links (n ∷ []) now new
  mark_none n now new found is i x there =
      ap (λ l. get_or l i false) is
      ∙ sym (ap (λ b. get_or now i false || (b || false)) (not_there (same_name n) (names name_of (arrived_of links)) i x.name found (named_at (arrived_of links) i x there)) ∙ or_none (get_or now i false))

  module _ (heads : List Name) where
    -- an ancestor of a connected link with one of the names
    before_head : (x h : Link) → IsIn h (named name_of prev_of (order_of links) heads) → is_before name_of prev_of links x.name h ≡ true → is_within links heads x ≡ true
    before_head x h k e =
        or_right (has_name heads x.name) (list_any (is_before name_of prev_of links x.name) (named name_of prev_of (order_of links) heads))
        (any_in (is_before name_of prev_of links x.name) (named name_of prev_of (order_of links) heads) h k e)

    -- a parent of one of these is one
    within_parent : (z x : Link) → IsIn z (order_of links) → IsIn z links → is_within links heads z ≡ true → has_name z.prev x.name ≡ true → is_within links heads x ≡ true
    within_parent z x o k e p = go (or_cases (has_name heads z.name) (list_any (is_before name_of prev_of links z.name) (named name_of prev_of (order_of links) heads)) e)
      where
        direct : is_before name_of prev_of links x.name z ≡ true
        direct =
            unrolled name_of prev_of links (differ links set_of) z o x.name
            ∙ or_left (has_name z.prev x.name) (list_any (is_before name_of prev_of links x.name) (named name_of prev_of links z.prev)) p

        go : (has_name heads z.name ≡ true) ⊎ (list_any (is_before name_of prev_of links z.name) (named name_of prev_of (order_of links) heads) ≡ true) → is_within links heads x ≡ true
        go (inl d) = before_head x z (in_filter (λ y. has_name heads y.name) z (order_of links) o d) direct
        go (inr d) =
            let h = any_of (is_before name_of prev_of links z.name) (named name_of prev_of (order_of links) heads) d in
            let of = of_filter (λ y. has_name heads y.name) h.0 (order_of links) h.1 in
            before_head x h.0 h.1 (transitive name_of prev_of links (differ links set_of) h.0 z of.0 k x.name h.2 direct)

    -- with the links of these names alone
    pub marking_begins : (old new : List Bool) → length new ≡ length (arrived_of links) → ((i : ℕ) → get_or old i false ≡ false) → AreMarked links heads old new → IsMarking links heads (length (arrived_of links)) new
    marking_begins old new size none marks =
        let is : (i : ℕ) (x : Link) → slice_get (arrived_of links) i ≡ Some x → get_or new i false ≡ has_name heads x.name = λ i x at. marks i x at ∙ ap (λ b. b || has_name heads x.name) (none i) in
        record {
          size = size;
          sound = λ i x at e. or_left (has_name heads x.name) (list_any (is_before name_of prev_of links x.name) (named name_of prev_of (order_of links) heads)) (sym (is i x at) ∙ e);
          heads_too = λ i x at e. is i x at ∙ e;
          parents_too = λ i j x y at there h e p. let within : j < length (arrived_of links) = get_within (arrived_of links) j y there in absurd (omega (arith, within, h));
        }

    -- a step back over a link that is marked: its parents are marked
    pub marking_more : (q : ℕ) (z : Link) (now new : List Bool) → slice_get (arrived_of links) q ≡ Some z → get_or now q false ≡ true → length new ≡ length now → AreMarked links z.prev now new
        → IsMarking links heads (q + 1) now → IsMarking links heads q new
    marking_more q z now new here flag size marks so = record {
      size = size ∙ so.size;
      sound = λ i x at e. sound_more i x at (or_cases (get_or now i false) (has_name z.prev x.name) (sym (marks i x at) ∙ e));
      heads_too = λ i x at e. kept i x at (so.heads_too i x at e);
      parents_too = λ i j x y at there h e p. parents i j x y at there h p (or_cases (get_or now j false) (has_name z.prev y.name) (sym (marks j y there) ∙ e));
    }
      where
        kept : (i : ℕ) (x : Link) → slice_get (arrived_of links) i ≡ Some x → get_or now i false ≡ true → get_or new i false ≡ true
        kept i x at e = marks i x at ∙ or_left (get_or now i false) (has_name z.prev x.name) e

        sound_more : (i : ℕ) (x : Link) → slice_get (arrived_of links) i ≡ Some x → (get_or now i false ≡ true) ⊎ (has_name z.prev x.name ≡ true) → is_within links heads x ≡ true
        sound_more i x at (inl e) = so.sound i x at e
        sound_more i x at (inr e) = within_parent z x (at_order links set_of q z here) (at_links links set_of q z here) (so.sound q z here flag) e

        same_link : (j : ℕ) (y : Link) → slice_get (arrived_of links) j ≡ Some y → q ≡ j → z ≡ y
        same_link j y there e = let one : ◌≡◌ {A = Option Link} (Some z) (Some y) = sym here ∙ ap (λ m. slice_get (arrived_of links) m) e ∙ there in cc

        place : (i j : ℕ) (x y : Link) → slice_get (arrived_of links) i ≡ Some x → slice_get (arrived_of links) j ≡ Some y → q ≤ j → has_name y.prev x.name ≡ true
            → get_or now j false ≡ true → get_or new i false ≡ true
        place i j x y at there h p e = go (here_or_after q j h)
          where
            go : (q ≡ j) ⊎ (q + 1 ≤ j) → get_or new i false ≡ true
            go (inl s) = marks i x at ∙ or_right (get_or now i false) (has_name z.prev x.name) (ap (λ (w : Link). has_name w.prev x.name) (same_link j y there s) ∙ p)
            go (inr l) = kept i x at (so.parents_too i j x y at there l e p)

        parents : (i j : ℕ) (x y : Link) → slice_get (arrived_of links) i ≡ Some x → slice_get (arrived_of links) j ≡ Some y → q ≤ j → has_name y.prev x.name ≡ true
            → (get_or now j false ≡ true) ⊎ (has_name z.prev y.name ≡ true) → get_or new i false ≡ true
        parents i j x y at there h p (inr e) = absurd (false≢true (sym (not_parent links set_of q z here j y there h) ∙ e))
        parents i j x y at there h p (inl e) = place i j x y at there h p e

    -- a step back over a link that isn't
    pub marking_same : (q : ℕ) (now new : List Bool) → get_or now q false ≡ false → new ≡ now → IsMarking links heads (q + 1) now → IsMarking links heads q new
    marking_same q now new flag is so = rw is (record {
      size = so.size;
      sound = so.sound;
      heads_too = so.heads_too;
      parents_too = λ i j x y at there h e p. go i j x y at there e p (here_or_after q j h);
    })
      where
        go : (i j : ℕ) (x y : Link) → slice_get (arrived_of links) i ≡ Some x → slice_get (arrived_of links) j ≡ Some y → get_or now j false ≡ true → has_name y.prev x.name ≡ true
            → (q ≡ j) ⊎ (q + 1 ≤ j) → get_or now i false ≡ true
        go i j x y at there e p (inl s) = absurd (false≢true (sym flag ∙ ap (λ m. get_or now m false) s ∙ e))
        go i j x y at there e p (inr l) = so.parents_too i j x y at there l e p

    module _ (flags : List Bool) (whole : IsMarking links heads 0 flags) where
      marked_back : (m : ℕ) (j : ℕ) (y : Link) → slice_get (arrived_of links) j ≡ Some y → get_or flags j false ≡ true → (i : ℕ) (x : Link) → slice_get (arrived_of links) i ≡ Some x
          → is_before_within name_of prev_of m links x.name y ≡ true → get_or flags i false ≡ true
      marked_back zero j y there e i x at h = absurd (false≢true h)
      marked_back (suc m) j y there e i x at h =
          go (or_cases (has_name y.prev x.name) (list_any (is_before_within name_of prev_of m links x.name) (named name_of prev_of links y.prev)) h) (λ k p here f. marked_back m k p here f i x at)
        where
          go : (has_name y.prev x.name ≡ true) ⊎ (list_any (is_before_within name_of prev_of m links x.name) (named name_of prev_of links y.prev) ≡ true)
              → ((k : ℕ) (p : Link) → slice_get (arrived_of links) k ≡ Some p → get_or flags k false ≡ true → is_before_within name_of prev_of m links x.name p ≡ true → get_or flags i false ≡ true)
              → get_or flags i false ≡ true
          go (inl d) more = whole.parents_too i j x y at there (omega arith) e d
          go (inr d) more =
              let p = any_of (is_before_within name_of prev_of m links x.name) (named name_of prev_of links y.prev) d in
              let of = of_filter (λ w. has_name y.prev w.name) p.0 links p.1 in
              let k = parent_at links set_of j y there p.0 of.0 of.1 in
              more k.0 p.0 k.2 (whole.parents_too k.0 j p.0 y k.2 there (omega arith) e of.1) p.2

      complete : (i : ℕ) (x : Link) → slice_get (arrived_of links) i ≡ Some x → is_within links heads x ≡ true → get_or flags i false ≡ true
      complete i x at h = go (or_cases (has_name heads x.name) (list_any (is_before name_of prev_of links x.name) (named name_of prev_of (order_of links) heads)) h)
        where
          go : (has_name heads x.name ≡ true) ⊎ (list_any (is_before name_of prev_of links x.name) (named name_of prev_of (order_of links) heads) ≡ true) → get_or flags i false ≡ true
          go (inl d) = whole.heads_too i x at d
          go (inr d) =
              let p = any_of (is_before name_of prev_of links x.name) (named name_of prev_of (order_of links) heads) d in
              let of = of_filter (λ w. has_name heads w.name) p.0 (order_of links) p.1 in
              let k = place_of_order links set_of p.0 of.0 in
              marked_back (length links) k.0 p.0 k.1 (whole.heads_too k.0 p.0 k.1 of.1) i x at p.2

      pub all_marked : flags ≡ map (is_within links heads) (arrived_of links)
      all_marked =
          ext_get_or false flags (map (is_within links heads) (arrived_of links))
          (whole.size ∙ sym (length-map (arrived_of links) (is_within links heads)))
          (λ i h. let x = some_at (arrived_of links) i (omega (arith, h, whole.size)) in
          same_answer (get_or flags i false) (is_within links heads x.0) (whole.sound i x.0 x.1) (complete i x.0 x.1)
          ∙ sym (map_at (is_within links heads) (arrived_of links) i x.0 false x.1))
