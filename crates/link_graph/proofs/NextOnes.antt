-- What may connect next: once a link connects, of the links that wait only its children are to be looked at.
use Rattle.std.proofs.Common.{◌≡◌, ◌+◌, ◌-◌, ◌<◌, ◌≤◌, ℕ, Bool, true, false, not, ◌&&◌, ◌||◌, cond, List, [], ◌∷◌, ◌++◌, append_assoc, Some, None, refl, sym, ◌∙◌, ap, subst, inl, inr, length, filter, take, drop, get_or, slice_get, add-one, drop-cons, arith}
use Rattle.std.specs.List.{AllByRecursion, list_all, list_any}
use Rattle.std.specs.Cmp.Lexicographic.{bytes_decides, slice_cmp, nat_list_cmp_total, texts_ties}
use Rattle.std.specs.Ordering.{is_eq, is_gt, is_lt, nat_cmp, ordering_reverse}
use Rattle.std.specs.declared.cmp.Ordering.{Ordering}
use Rattle.std.specs.declared.cmp.Ordering.TheVariants.{Less, Equal, Greater}
use Rattle.std.proofs.lemmas.Bool.{false_from_ne_true, false≢true, and_parts, not-true}
use Rattle.std.proofs.lemmas.List.{length_push}
use Rattle.std.proofs.lemmas.Option.{slice_get_read}
use Rattle.std.proofs.lemmas.List.Elements.{filter_map-append}
use Rattle.std.proofs.lemmas.List.Folds.{list_any-append}
use Rattle.team_sets.specs.Names.{Name, same_name, has_name, name_lt}
use Rattle.team_sets.specs.Members.{IsIn}
use Rattle.team_sets.specs.Order.{is_next, least, names}
use Rattle.team_sets.specs.OrderLaws.{IsSet, NamesDiffer}
use Rattle.team_sets.proofs.Agree.{any_in}
use Rattle.team_sets.proofs.Connects.{least_is}
use Rattle.team_sets.proofs.Distinct.{distinct-differ}
use Rattle.team_sets.proofs.Lists.{any_alike, or_assoc, or_false, same_flip}
use Rattle.team_sets.proofs.OrderLeast.{in_filter, of_filter}
use Rattle.team_sets.proofs.Parts.{filter_none, name_in}
use Rattle.team_sets.proofs.Pasts.{all_names, any_of}
use Rattle.team_model.specs.Judging.{name_of, prev_of}
use Rattle.team_model.specs.declared.terms.Link.{Link}
use Rattle.link_graph.specs.Children.{named, child_places}
use Rattle.link_graph.specs.Positions.{at_places, may_stand, IsReady}
use Rattle.link_graph.proofs.ChildLists.{named-more, take_front}
use Rattle.link_graph.proofs.Names.{has_by_order}

-- the link has this name, and may connect
abbrev pub is_ready : List Name → Name → Link → Bool
is_ready ns n z = same_name z.name n && may_stand ns z

swap_or : (a b c d : Bool) → ((a || b) || (c || d)) ≡ ((a || c) || (b || d))
swap_or true b c d = refl
swap_or false true true d = refl
swap_or false true false d = refl
swap_or false false c d = refl

any_or : (p q : Link → Bool) (xs : List Link) → list_any (λ z. p z || q z) xs ≡ (list_any p xs || list_any q xs)
any_or p q [] = refl
any_or p q (x ∷ xs) = ap (λ b. (p x || q x) || b) (any_or p q xs) ∙ swap_or (p x) (q x) (list_any p xs) (list_any q xs)

any_and : (b : Bool) (p : Link → Bool) (xs : List Link) → list_any (λ z. b && p z) xs ≡ (b && list_any p xs)
any_and true p xs = refl
any_and false p [] = refl
any_and false p (x ∷ xs) = any_and false p xs

absorb : (a c : Bool) → (a || (c && a)) ≡ a
absorb true c = refl
absorb false true = refl
absorb false false = refl

at_named : (links : List Link) (k : ℕ) (x : Link) (ps : List Name) (m : Name) (p : Link → Bool) → slice_get links k ≡ Some x → list_any p (at_places links (named k ps m)) ≡ (has_name ps m && p x)
at_named links k x [] m p e = refl
at_named links k x (q ∷ ps) m p e = ap (λ l. list_any p (at_places links l)) (named-more k ps q m) ∙ go (same_name q m) (at_named links k x ps m p e)
  where
    go : (b : Bool) → list_any p (at_places links (named k ps m)) ≡ (has_name ps m && p x) → list_any p (at_places links (cond b (k ∷ named k ps m) (named k ps m))) ≡ ((b || has_name ps m) && p x)
    go true h = rw e (ap (λ b. p x || b) h ∙ absorb (p x) (has_name ps m))
    go false h = h

pub get_seam : {A : Type 0} (front : List A) (x : A) (xs : List A) → slice_get (front ++ x ∷ xs) (length front) ≡ Some x
get_seam [] x xs = refl
get_seam (y ∷ ys) x xs = get_seam ys x xs

-- to ask the children of a name is to ask all links that have it as a parent
pub children_any : (p : Link → Bool) (m : Name) (front xs : List Link) → list_any p (at_places (front ++ xs) (child_places (length front) xs m)) ≡ list_any (λ z. has_name z.prev m && p z) xs
children_any p m front [] = refl
children_any p m front (x ∷ xs) =
    let rest : list_any p (at_places (front ++ x ∷ xs) (child_places (length front + 1) xs m)) ≡ list_any (λ z. has_name z.prev m && p z) xs =
    ap (λ l. list_any p (at_places l (child_places (length front + 1) xs m))) (sym (append_assoc front (x ∷ []) xs))
    ∙ ap (λ k. list_any p (at_places ((front ++ x ∷ []) ++ xs) (child_places k xs m))) (sym (length_push front x)) ∙ children_any p m (front ++ x ∷ []) xs in
    ap (λ l. list_any p l) (filter_map-append (slice_get (front ++ x ∷ xs)) (named (length front) x.prev m) (child_places (length front + 1) xs m))
    ∙ list_any-append p (at_places (front ++ x ∷ xs) (named (length front) x.prev m)) (at_places (front ++ x ∷ xs) (child_places (length front + 1) xs m))
    ∙ ap (λ b. b || list_any p (at_places (front ++ x ∷ xs) (child_places (length front + 1) xs m))) (at_named (front ++ x ∷ xs) (length front) x x.prev m p (get_seam front x xs))
    ∙ ap (λ b. (has_name x.prev m && p x) || b) rest

all_append : {A : Type 0} (P : A → Type 0) (xs ys : List A) → AllByRecursion P xs → AllByRecursion P ys → AllByRecursion P (xs ++ ys)
all_append P [] ys h k = k
all_append P (x ∷ xs) ys h k = (h.0, all_append P xs ys h.1 k)

all_named_place : (n k : ℕ) (ps : List Name) (m : Name) → k < n → AllByRecursion (λ i. i < n) (named k ps m)
all_named_place n k [] m h = tt
all_named_place n k (q ∷ ps) m h = subst (λ l. AllByRecursion (λ i. i < n) l) (sym (named-more k ps q m)) (go (same_name q m) (all_named_place n k ps m h))
  where
    go : (b : Bool) → AllByRecursion (λ i. i < n) (named k ps m) → AllByRecursion (λ i. i < n) (cond b (k ∷ named k ps m) (named k ps m))
    go true r = (h, r)
    go false r = r

pub child_bound : (i n : ℕ) (xs : List Link) (m : Name) → i + length xs ≤ n → AllByRecursion (λ k. k < n) (child_places i xs m)
child_bound i n [] m h = tt
child_bound i n (x ∷ xs) m h =
    let here : i < n = omega (arith, h) in
    let more : i + 1 + length xs ≤ n = omega (arith, h) in
    all_append (λ k. k < n) (named i x.prev m) (child_places (i + 1) xs m) (all_named_place n i x.prev m here) (child_bound (i + 1) n xs m more)

pub has_push : (ns : List Name) (m n : Name) → has_name (ns ++ m ∷ []) n ≡ (has_name ns n || same_name m n)
has_push [] m n = or_false (same_name m n)
has_push (k ∷ ks) m n = ap (λ b. same_name k n || b) (has_push ks m n) ∙ sym (or_assoc (same_name k n) (has_name ks n) (same_name m n))

all_apart : (ns : List Name) (m : Name) (ms : List Name) → has_name ms m ≡ false → list_all (has_name (ns ++ m ∷ [])) ms ≡ list_all (has_name ns) ms
all_apart ns m [] e = refl
all_apart ns m (k ∷ ks) e = go (same_name k m) refl e (all_apart ns m ks)
  where
    go : (b : Bool) → same_name k m ≡ b → (b || has_name ks m) ≡ false → (has_name ks m ≡ false → list_all (has_name (ns ++ m ∷ [])) ks ≡ list_all (has_name ns) ks)
        → list_all (has_name (ns ++ m ∷ [])) (k ∷ ks) ≡ list_all (has_name ns) (k ∷ ks)
    go true s f more = absurd (false≢true (sym f))
    go false s f more =
        let other : has_name (ns ++ m ∷ []) k ≡ has_name ns k = has_push ns m k ∙ ap (λ b. has_name ns k || b) (same_flip m k ∙ s) ∙ or_false (has_name ns k) in
        rw (other, more f) refl

none_of : (b c : Bool) → false ≡ ((b && false) || (c && false))
none_of true true = refl
none_of true false = refl
none_of false true = refl
none_of false false = refl

moved : (h e a : Bool) → (not (h || e) && a) ≡ ((not e && (not h && a)) || false)
moved true true a = refl
moved true false a = refl
moved false true a = refl
moved false false true = refl
moved false false false = refl

lost : (e h x : Bool) → x ≡ ((not e && (not h && false)) || x)
lost true h x = refl
lost false true x = refl
lost false false x = refl

-- a link that may connect once m has could before, or has m among its parents
step_at : (ns : List Name) (m n : Name) (z : Link) → has_name ns m ≡ false
    → is_ready (ns ++ m ∷ []) n z ≡ ((not (same_name m n) && is_ready ns n z) || (has_name z.prev m && is_ready (ns ++ m ∷ []) n z))
step_at ns m n z fresh = named_so (same_name z.name n) refl
  where
    for_child : (c : Bool) → has_name z.prev m ≡ c → z.name ≡ n
        → may_stand (ns ++ m ∷ []) z ≡ ((not (same_name m n) && may_stand ns z) || (c && may_stand (ns ++ m ∷ []) z))
    for_child true e is =
        let gone : list_all (has_name ns) z.prev ≡ false = false_from_ne_true (list_all (has_name ns) z.prev) (λ all. false≢true (sym fresh ∙ all_names (has_name ns) z.prev m all e)) in
        rw gone (lost (same_name m n) (has_name ns z.name) (may_stand (ns ++ m ∷ []) z))
    for_child false e is =
        let other : same_name m z.name ≡ same_name m n = ap (λ (k : Name). same_name m k) is in
        rw (has_push ns m z.name, all_apart ns m z.prev e, other) (moved (has_name ns z.name) (same_name m n) (list_all (has_name ns) z.prev))

    named_so : (s : Bool) → same_name z.name n ≡ s
        → (s && may_stand (ns ++ m ∷ []) z) ≡ ((not (same_name m n) && (s && may_stand ns z)) || (has_name z.prev m && (s && may_stand (ns ++ m ∷ []) z)))
    named_so true e = for_child (has_name z.prev m) refl ((bytes_decides z.name n).0 e)
    named_so false e = none_of (not (same_name m n)) (has_name z.prev m)

ready_step : (links : List Link) (ns : List Name) (m n : Name) → has_name ns m ≡ false
    → ((not (same_name m n) && list_any (is_ready ns n) links) || list_any (λ z. has_name z.prev m && is_ready (ns ++ m ∷ []) n z) links) ≡ list_any (is_ready (ns ++ m ∷ []) n) links
ready_step links ns m n fresh =
    sym (any_alike (is_ready (ns ++ m ∷ []) n) (λ z. (not (same_name m n) && is_ready ns n z) || (has_name z.prev m && is_ready (ns ++ m ∷ []) n z)) links (λ z k. step_at ns m n z fresh)
    ∙ any_or (λ z. not (same_name m n) && is_ready ns n z) (λ z. has_name z.prev m && is_ready (ns ++ m ∷ []) n z) links
    ∙ ap (λ b. b || list_any (λ z. has_name z.prev m && is_ready (ns ++ m ∷ []) n z) links) (any_and (not (same_name m n)) (is_ready ns n) links))

-- those ready, once m has connected and its children were looked at
pub ready_next : (links : List Link) (ns : List Name) (m : Name) (old popped new : List Name) (places : List ℕ) → IsReady links ns old → has_name ns m ≡ false
    → ((n : Name) → has_name popped n ≡ (not (same_name m n) && has_name old n)) → places ≡ child_places 0 links m
    → ((n : Name) → has_name new n ≡ (has_name popped n || list_any (is_ready (ns ++ m ∷ []) n) (at_places links places))) → IsReady links (ns ++ m ∷ []) new
ready_next links ns m old popped new places ready fresh left are more = λ n.
    let asked : list_any (is_ready (ns ++ m ∷ []) n) (at_places links places) ≡ list_any (λ z. has_name z.prev m && is_ready (ns ++ m ∷ []) n z) links =
    ap (λ l. list_any (is_ready (ns ++ m ∷ []) n) (at_places links l)) are ∙ children_any (is_ready (ns ++ m ∷ []) n) m [] links in
    more n ∙ ap (λ b. b || list_any (is_ready (ns ++ m ∷ []) n) (at_places links places)) (left n ∙ ap (λ b. not (same_name m n) && b) (ready n))
    ∙ ap (λ b. (not (same_name m n) && list_any (is_ready ns n) links) || b) asked ∙ ready_step links ns m n fresh

-- a name that is ready is that of a link that may connect
pub ready_link : (links : List Link) (ns ready : List Name) (m : Name) → IsReady links ns ready → has_name ready m ≡ true → (z : Link) × IsIn z links × (z.name ≡ m) × (may_stand ns z ≡ true)
ready_link links ns ready m is has =
    let z = any_of (is_ready ns m) links (sym (is m) ∙ has) in
    let parts = and_parts (same_name z.0.name m) (may_stand ns z.0) z.2 in
    (z.0, z.1, (bytes_decides z.0.name m).0 parts.0, parts.1)

pub ready_fresh : (links : List Link) (ns ready : List Name) (m : Name) → IsReady links ns ready → has_name ready m ≡ true → has_name ns m ≡ false
ready_fresh links ns ready m is has =
    let z = ready_link links ns ready m is has in
    subst (λ (n : Name). has_name ns n ≡ false) z.2 (not-true (has_name ns z.0.name) (and_parts (not (has_name ns z.0.name)) (list_all (has_name ns) z.0.prev) z.3).0)

pub ready_held : (links : List Link) (ns ready : List Name) (m : Name) → IsReady links ns ready → has_name ready m ≡ true → has_name (names name_of links) m ≡ true
ready_held links ns ready m is has = let z = ready_link links ns ready m is has in name_in name_of prev_of links z.0 z.1 m z.2

-- the least of those ready connects next
pub first_ready : (links placed : List Link) (ready : List Name) (m : Name) (y : Link) → IsSet name_of links → IsReady links (names name_of placed) ready → has_name ready m ≡ true
    → ((n : Name) → has_name ready n ≡ true → name_lt n m ≡ false) → IsIn y links → y.name ≡ m → least name_of (filter (is_next name_of prev_of placed) links) ≡ Some y
first_ready links placed ready m y set is has lower held so =
    let differ : NamesDiffer name_of links = distinct-differ name_of links set in
    let z = ready_link links (names name_of placed) ready m is has in
    let same : z.0 ≡ y = differ z.0 y z.1 held (z.2 ∙ sym so) in
    let stands : is_next name_of prev_of placed y ≡ true = subst (λ (w : Link). is_next name_of prev_of placed w ≡ true) same z.3 in
    least_is name_of (filter (is_next name_of prev_of placed) links)
    (λ v w k j e. differ v w (of_filter (is_next name_of prev_of placed) v links k).0 (of_filter (is_next name_of prev_of placed) w links j).0 e)
    y (in_filter (is_next name_of prev_of placed) y links held stands)
    (λ w k.
    let there = of_filter (is_next name_of prev_of placed) w links k in
    let one : is_ready (names name_of placed) w.name w ≡ true = rw ((bytes_decides w.name w.name).1 refl) there.1 in
    subst (λ (n : Name). name_lt w.name n ≡ false) (sym so) (lower w.name (is w.name ∙ any_in (is_ready (names name_of placed) w.name) links w there.0 one)))

pub none_ready : (links placed : List Link) (ready : List Name) → IsReady links (names name_of placed) ready → ready ≡ [] → least name_of (filter (is_next name_of prev_of placed) links) ≡ None
none_ready links placed ready is none =
    ap (λ l. least name_of l) (filter_none name_of prev_of (is_next name_of prev_of placed) links (λ x k. false_from_ne_true (is_next name_of prev_of placed x) (λ e.
    let one : is_ready (names name_of placed) x.name x ≡ true = rw ((bytes_decides x.name x.name).1 refl) e in
    false≢true (ap (λ (l : List Name). has_name l x.name) (sym none) ∙ is x.name ∙ any_in (is_ready (names name_of placed) x.name) links x k one))))

-- what a set of names in order says of its first
pub lower : (m q : Name) → is_gt (slice_cmp nat_cmp m q) ≡ false → name_lt q m ≡ false
lower m q e = go (slice_cmp nat_cmp q m) refl
  where
    go : (o : Ordering) → slice_cmp nat_cmp q m ≡ o → is_lt o ≡ false
    go Less f = absurd (false≢true (sym e ∙ ap is_gt (nat_list_cmp_total.antisymm m q ∙ ap ordering_reverse f)))
    go Equal f = refl
    go Greater f = refl

pub popped_has : (m n : Name) (old new : List Name) → list_any (λ k. is_eq (slice_cmp nat_cmp n k)) new ≡ cond (is_eq (slice_cmp nat_cmp m n)) false (list_any (λ k. is_eq (slice_cmp nat_cmp n k)) old)
    → has_name new n ≡ (not (same_name m n) && has_name old n)
popped_has m n old new e =
    sym (has_by_order n new) ∙ e ∙ ap (λ b. cond b false (list_any (λ k. is_eq (slice_cmp nat_cmp n k)) old)) (sym (texts_ties m n)) ∙ ap (λ b. cond (same_name m n) false b) (has_by_order n old) ∙ go (same_name m n)
  where
    go : (b : Bool) → cond b false (has_name old n) ≡ (not b && has_name old n)
    go true = refl
    go false = refl

pub pushed_has : (m n : Name) (old new : List Name) → list_any (λ k. is_eq (slice_cmp nat_cmp n k)) new ≡ cond (is_eq (slice_cmp nat_cmp m n)) true (list_any (λ k. is_eq (slice_cmp nat_cmp n k)) old)
    → has_name new n ≡ (same_name m n || has_name old n)
pushed_has m n old new e =
    sym (has_by_order n new) ∙ e ∙ ap (λ b. cond b true (list_any (λ k. is_eq (slice_cmp nat_cmp n k)) old)) (sym (texts_ties m n)) ∙ ap (λ b. cond (same_name m n) true b) (has_by_order n old) ∙ go (same_name m n)
  where
    go : (b : Bool) → cond b true (has_name old n) ≡ (b || has_name old n)
    go true = refl
    go false = refl

places_here : (links : List Link) (places : List ℕ) (i : ℕ) (x : Link) → i < length places → get_or places i 0 < length links → x ≡ get_or links (get_or places i 0) x
    → at_places links (drop i places) ≡ x ∷ at_places links (drop (i + 1) places)
places_here links places i x within below at =
    let here : slice_get links (get_or places i 0) ≡ Some x = slice_get_read links (length links) (get_or places i 0) x refl below at in
    rw (add-one, drop-cons places i 0 within, here) refl

or_first : (h s r : Bool) → ((s || h) || r) ≡ (h || ((s && true) || r))
or_first true true r = refl
or_first true false r = refl
or_first false true r = refl
or_first false false r = refl

or_other : (h s r : Bool) → (h || r) ≡ (h || ((s && false) || r))
or_other true s r = refl
or_other false true r = refl
or_other false false r = refl

module _ (links : List Link) (ns : List Name) (places : List ℕ) (i : ℕ) (x : Link) (b : Bool) (within : i < length places) (below : get_or places i 0 < length links)
    (at : x ≡ get_or links (get_or places i 0) x) (asked : b ≡ may_stand ns x) (n : Name) (old new : List Name) where
  -- one more link is looked at: it may connect
  pub ready_then : b ≡ true → has_name new n ≡ (same_name x.name n || has_name old n)
      → (has_name new n || list_any (is_ready ns n) (at_places links (drop (i + 1) places))) ≡ (has_name old n || list_any (is_ready ns n) (at_places links (drop i places)))
  ready_then stands has =
      let may : may_stand ns x ≡ true = sym asked ∙ stands in
      ap (λ c. c || list_any (is_ready ns n) (at_places links (drop (i + 1) places))) has
      ∙ or_first (has_name old n) (same_name x.name n) (list_any (is_ready ns n) (at_places links (drop (i + 1) places)))
      ∙ ap (λ c. has_name old n || ((same_name x.name n && c) || list_any (is_ready ns n) (at_places links (drop (i + 1) places)))) (sym may)
      ∙ ap (λ (l : List Link). has_name old n || list_any (is_ready ns n) l) (sym (places_here links places i x within below at))

  -- or it may not
  pub ready_else : b ≡ false → new ≡ old
      → (has_name new n || list_any (is_ready ns n) (at_places links (drop (i + 1) places))) ≡ (has_name old n || list_any (is_ready ns n) (at_places links (drop i places)))
  ready_else waits same =
      let may : may_stand ns x ≡ false = sym asked ∙ waits in
      ap (λ (l : List Name). has_name l n || list_any (is_ready ns n) (at_places links (drop (i + 1) places))) same
      ∙ or_other (has_name old n) (same_name x.name n) (list_any (is_ready ns n) (at_places links (drop (i + 1) places)))
      ∙ ap (λ c. has_name old n || ((same_name x.name n && c) || list_any (is_ready ns n) (at_places links (drop (i + 1) places)))) (sym may)
      ∙ ap (λ (l : List Link). has_name old n || list_any (is_ready ns n) l) (sym (places_here links places i x within below at))

-- what was added, in words of the links and of the names connected
pub added_so : (popped new : List Name) (n : Name) (there links : List Link) (places : List ℕ) (ks ns : List Name) → there ≡ links → ks ≡ ns
    → has_name new n ≡ (has_name popped n || list_any (is_ready ks n) (at_places there places)) → has_name new n ≡ (has_name popped n || list_any (is_ready ns n) (at_places links places))
added_so popped new n there links places ks ns same keys e =
    e ∙ ap (λ (l : List Link). has_name popped n || list_any (is_ready ks n) (at_places l places)) same ∙ ap (λ (l : List Name). has_name popped n || list_any (is_ready l n) (at_places links places)) keys

pub split_last : {A : Type 0} (xs : List A) → 0 < length xs → (x : A) × (xs ≡ take (length xs - 1) xs ++ x ∷ []) × (slice_get xs (length xs - 1) ≡ Some x)
split_last {A = A} xs h = go (cut xs h)
  where
    cut : (ys : List A) → 0 < length ys → (front : List A) × (y : A) × (ys ≡ front ++ y ∷ [])
    cut [] k = absurd (omega arith)
    cut (y ∷ []) k = ([], y, refl)
    cut (y ∷ z ∷ zs) k = let rest = cut (z ∷ zs) (omega arith) in (y ∷ rest.0, rest.1, ap (λ l. y ∷ l) rest.2)

    go : (front : List A) × (y : A) × (xs ≡ front ++ y ∷ []) → (x : A) × (xs ≡ take (length xs - 1) xs ++ x ∷ []) × (slice_get xs (length xs - 1) ≡ Some x)
    go (front, y, is) =
        let short : length xs - 1 ≡ length front = omega (arith, ap (λ (l : List A). length l) is, length_push front y) in
        let head : take (length xs - 1) xs ≡ front = ap (λ n. take n xs) short ∙ ap (λ l. take (length front) l) is ∙ take_front front (y ∷ []) in
        (y, is ∙ ap (λ l. l ++ y ∷ []) (sym head), ap (λ n. slice_get xs n) short ∙ ap (λ l. slice_get l (length front)) is ∙ get_seam front y [])

none_any : (p : Link → Bool) (xs : List Link) → ((y : Link) → IsIn y xs → p y ≡ false) → list_any p xs ≡ false
none_any p [] h = refl
none_any p (x ∷ xs) h = rw (h x (inl refl)) (none_any p xs (λ y k. h y (inr k)))

-- where only the last link may connect
pub start_ready : (links : List Link) (ns : List Name) (last : ℕ) (new : List Name) → 0 < length links → last ≡ length links - 1
    → ((y : Link) → IsIn y (take (length links - 1) links) → may_stand ns y ≡ false)
    → ((n : Name) → has_name new n ≡ list_any (is_ready ns n) (at_places links (last ∷ []))) → IsReady links ns new
start_ready links ns last new some is others has = λ n.
    let x = split_last links some in
    let here : at_places links (last ∷ []) ≡ x.0 ∷ [] = ap (λ k. at_places links (k ∷ [])) is ∙ rw x.2 refl in
    let quiet : list_any (is_ready ns n) (take (length links - 1) links) ≡ false = none_any (is_ready ns n) (take (length links - 1) links) (λ y k. rw (others y k) (no (same_name y.name n))) in
    has n ∙ ap (λ (l : List Link). list_any (is_ready ns n) l) here
    ∙ sym (ap (λ (l : List Link). list_any (is_ready ns n) l) x.1 ∙ list_any-append (is_ready ns n) (take (length links - 1) links) (x.0 ∷ [])
    ∙ ap (λ b. b || list_any (is_ready ns n) (x.0 ∷ [])) quiet)
  where
    no : (b : Bool) → (b && false) ≡ false
    no true = refl
    no false = refl
