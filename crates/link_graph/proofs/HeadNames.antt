-- The heads, as links connect one by one.
use Rattle.std.proofs.Common.{◌≡◌, ◌+◌, ◌<◌, ℕ, suc, Bool, true, false, not, ◌&&◌, ◌||◌, cond, List, [], ◌∷◌, ◌++◌, append_assoc, append-nil, refl, sym, ◌∙◌, ap, subst, inl, inr, length, filter, insert, drop, get_or, add-one, drop-cons}
use Rattle.std.specs.List.{AllByRecursion, IsDistinct, list_all}
use Rattle.std.proofs.lemmas.Bool.{false_from_ne_true, false≢true, and_parts, not-true}
use Rattle.std.proofs.lemmas.List.{map-append, map-id}
use Rattle.std.proofs.lemmas.List.Elements.{filter-append}
use Rattle.std.proofs.lemmas.List.Folds.{list_any-append}
use Rattle.std.proofs.lemmas.List.Sums.{fold-append}
use Rattle.team_sets.specs.Names.{Name, same_name, has_name, name_lt, put_in, ascending}
use Rattle.team_sets.specs.Members.{IsIn, HaveSameMembers}
use Rattle.team_sets.specs.Order.{is_next, names}
use Rattle.team_sets.specs.OrderLaws.{IsSet, ParentsFirst}
use Rattle.team_sets.specs.SortedLaws.{IsAscending, AreApart, IsStrict}
use Rattle.team_sets.proofs.Agree.{any_in, same_answer}
use Rattle.team_sets.proofs.Arrivals.{first_set}
use Rattle.team_sets.proofs.Lists.{or_false}
use Rattle.team_sets.proofs.OrderLeast.{in_filter, of_filter}
use Rattle.team_sets.proofs.Pasts.{all_names, any_of}
use Rattle.team_sets.proofs.SameSet.{set-filter}
use Rattle.team_sets.proofs.Sorted.{ascending-members, ascending-ascends, ascending-one, ascending-of_set, names-strict, set-apart}
use Rattle.team_model.specs.Judging.{name_of, prev_of, order_of}
use Rattle.team_model.specs.declared.terms.Link.{Link}
use Rattle.link_graph.specs.Heads.{heads_after, heads_of, heads_with, is_parent_in, place_before, without}
use Rattle.link_graph.proofs.NextOnes.{has_push}

abbrev own : Name → Name
own n = n

-- names without repeats
abbrev AreNames : List Name → Type 0
AreNames ns = IsDistinct same_name ns

as_set : (ns : List Name) → AreNames ns → IsSet own ns
unfolding IsDistinct
as_set ns h = subst (λ (l : List Name). IsDistinct same_name l) (sym (map-id ns)) h

from_set : (ns : List Name) → IsSet own ns → AreNames ns
unfolding IsDistinct
from_set ns h = subst (λ (l : List Name). IsDistinct same_name l) (map-id ns) h

strict : IsStrict name_lt
strict = names-strict own

names_apart : (ns : List Name) → AreNames ns → AreApart name_lt ns
names_apart ns h = set-apart own ns (as_set ns h)

names_filter : (p : Name → Bool) (ns : List Name) → AreNames ns → AreNames (filter p ns)
names_filter p ns h = from_set (filter p ns) (set-filter own p ns (as_set ns h))

all_filter : (P : Name → Type 0) (p : Name → Bool) (ns : List Name) → AllByRecursion P ns → AllByRecursion P (filter p ns)
all_filter P p [] h = tt
all_filter P p (n ∷ ns) h = go (p n) (all_filter P p ns h.1)
  where
    go : (b : Bool) → AllByRecursion P (filter p ns) → AllByRecursion P (cond b (n ∷ filter p ns) (filter p ns))
    go true r = (h.0, r)
    go false r = r

filter_up : (p : Name → Bool) (ns : List Name) → IsAscending name_lt ns → IsAscending name_lt (filter p ns)
filter_up p [] h = tt
filter_up p (n ∷ ns) h = go (p n) (filter_up p ns h.1)
  where
    go : (b : Bool) → IsAscending name_lt (filter p ns) → IsAscending name_lt (cond b (n ∷ filter p ns) (filter p ns))
    go true r = (all_filter (λ m. name_lt n m ≡ true) p ns h.0, r)
    go false r = r

-- to sort a part is to sort, and take the part
filter_ascending : (p : Name → Bool) (ns : List Name) → AreNames ns → ascending name_lt (filter p ns) ≡ filter p (ascending name_lt ns)
filter_ascending p ns are =
    let whole = ascending-members name_lt ns in
    let part = ascending-members name_lt (filter p ns) in
    ascending-one name_lt strict (ascending name_lt (filter p ns)) (filter p (ascending name_lt ns))
    (ascending-ascends name_lt strict (filter p ns) (names_apart (filter p ns) (names_filter p ns are)))
    (filter_up p (ascending name_lt ns) (ascending-ascends name_lt strict ns (names_apart ns are)))
    (λ z k. let there = of_filter p z ns (part.forth z k) in in_filter p z (ascending name_lt ns) (whole.back z there.0) there.1)
    (λ z k. let there = of_filter p z (ascending name_lt ns) k in part.back z (in_filter p z ns (whole.forth z there.0) there.1))

-- the heads of a list that is connected as a whole
abbrev heads_in : List Link → List Name
heads_in links = ascending name_lt (filter (λ n. not (is_parent_in links n)) (names name_of links))

not_or : (a b : Bool) → not (a || b) ≡ (not a && not b)
not_or true b = refl
not_or false b = refl

filter_both : (p q : Name → Bool) (ns : List Name) → filter (λ n. p n && q n) ns ≡ filter q (filter p ns)
filter_both p q [] = refl
filter_both p q (n ∷ ns) = go (p n) (filter_both p q ns)
  where
    go : (b : Bool) → filter (λ m. p m && q m) ns ≡ filter q (filter p ns)
        → cond (b && q n) (n ∷ filter (λ m. p m && q m) ns) (filter (λ m. p m && q m) ns) ≡ filter q (cond b (n ∷ filter p ns) (filter p ns))
    go true h = ap (λ (l : List Name). cond (q n) (n ∷ l) l) h
    go false h = h

filter_like : (p q : Name → Bool) (ns : List Name) → ((n : Name) → p n ≡ q n) → filter p ns ≡ filter q ns
filter_like p q [] same = refl
filter_like p q (n ∷ ns) same = rw (same n, filter_like p q ns same) refl

parent_push : (links : List Link) (x : Link) (n : Name) → is_parent_in (links ++ x ∷ []) n ≡ (is_parent_in links n || has_name x.prev n)
parent_push links x n = list_any-append (λ (y : Link). has_name y.prev n) links (x ∷ []) ∙ ap (λ b. is_parent_in links n || b) (or_false (has_name x.prev n))

-- every parent of one of the links is one of them
abbrev Closed : List Link → Type 0
Closed links = (n : Name) → is_parent_in links n ≡ true → has_name (names name_of links) n ≡ true

or_both : (a b c : Bool) → (a ≡ true → c ≡ true) → (b ≡ true → c ≡ true) → (a || b) ≡ true → c ≡ true
or_both true b c f g h = f refl
or_both false b c f g h = g h

or_yes : (a b : Bool) → a ≡ true → (a || b) ≡ true
or_yes true b h = refl
or_yes false b h = absurd (false≢true h)

closed_push : (links : List Link) (x : Link) → Closed links → is_next name_of prev_of links x ≡ true → Closed (links ++ x ∷ [])
closed_push links x closed next n e =
    let parts = and_parts (not (has_name (names name_of links) x.name)) (list_all (has_name (names name_of links)) x.prev) next in
    let before : has_name (names name_of links) n ≡ true =
    or_both (is_parent_in links n) (has_name x.prev n) (has_name (names name_of links) n) (closed n) (λ h. all_names (has_name (names name_of links)) x.prev n parts.1 h) (sym (parent_push links x n) ∙ e) in
    ap (λ (ns : List Name). has_name ns n) (map-append name_of links (x ∷ [])) ∙ has_push (names name_of links) x.name n ∙ or_yes (has_name (names name_of links) n) (same_name x.name n) before

-- one more link
heads_more : (links : List Link) (x : Link) → IsSet name_of links → Closed links → is_next name_of prev_of links x ≡ true → heads_in (links ++ x ∷ []) ≡ heads_with (heads_in links) x
heads_more links x set closed next =
    let ns : List Name = names name_of links in
    let parts = and_parts (not (has_name (names name_of links) x.name)) (list_all (has_name (names name_of links)) x.prev) next in
    let fresh : has_name (names name_of links) x.name ≡ false = not-true (has_name (names name_of links) x.name) parts.0 in
    let no_child : is_parent_in links x.name ≡ false = false_from_ne_true (is_parent_in links x.name) (λ h. false≢true (sym fresh ∙ closed x.name h)) in
    let not_own : has_name x.prev x.name ≡ false = false_from_ne_true (has_name x.prev x.name) (λ h. false≢true (sym fresh ∙ all_names (has_name (names name_of links)) x.prev x.name parts.1 h)) in
    let head : is_parent_in (links ++ x ∷ []) x.name ≡ false = parent_push links x x.name ∙ rw (no_child, not_own) refl in
    let old : List Name = filter (λ n. not (is_parent_in links n)) (names name_of links) in
    let tests : (n : Name) → not (is_parent_in (links ++ x ∷ []) n) ≡ (not (is_parent_in links n) && not (has_name x.prev n)) =
    (λ n. ap not (parent_push links x n) ∙ not_or (is_parent_in links n) (has_name x.prev n)) in
    let rest : filter (λ n. not (is_parent_in (links ++ x ∷ []) n)) (names name_of links) ≡ without x.prev (filter (λ n. not (is_parent_in links n)) (names name_of links)) =
    filter_like (λ n. not (is_parent_in (links ++ x ∷ []) n)) (λ n. not (is_parent_in links n) && not (has_name x.prev n)) (names name_of links) tests
    ∙ filter_both (λ n. not (is_parent_in links n)) (λ n. not (has_name x.prev n)) (names name_of links) in
    let last : filter (λ n. not (is_parent_in (links ++ x ∷ []) n)) (x.name ∷ []) ≡ x.name ∷ [] = rw head refl in
    ap (λ (l : List Name). ascending name_lt (filter (λ n. not (is_parent_in (links ++ x ∷ []) n)) l)) (map-append name_of links (x ∷ []))
    ∙ ap (λ (l : List Name). ascending name_lt l) (filter-append (λ n. not (is_parent_in (links ++ x ∷ []) n)) (names name_of links) (x.name ∷ []))
    ∙ ap (λ (l : List Name). ascending name_lt (l ++ filter (λ n. not (is_parent_in (links ++ x ∷ []) n)) (x.name ∷ []))) rest
    ∙ ap (λ (l : List Name). ascending name_lt (without x.prev (filter (λ n. not (is_parent_in links n)) (names name_of links)) ++ l)) last
    ∙ fold-append (λ sorted n. put_in name_lt n sorted) [] (without x.prev (filter (λ n. not (is_parent_in links n)) (names name_of links))) (x.name ∷ [])
    ∙ ap (λ (l : List Name). put_in name_lt x.name l)
    (filter_ascending (λ n. not (has_name x.prev n)) (filter (λ n. not (is_parent_in links n)) (names name_of links)) (names_filter (λ n. not (is_parent_in links n)) (names name_of links) set))

set_front : (front : List Link) (x : Link) (rest : List Link) → ParentsFirst name_of prev_of [] (front ++ x ∷ rest) → IsSet name_of front × (is_next name_of prev_of front x ≡ true)
set_front front x rest first =
    let parts = split_first [] front (x ∷ rest) first in
    (first_set name_of prev_of [] front parts.0, parts.1.0)
  where
    split_first : (placed xs ys : List Link) → ParentsFirst name_of prev_of placed (xs ++ ys) → ParentsFirst name_of prev_of placed xs × ParentsFirst name_of prev_of (placed ++ xs) ys
    split_first placed [] ys h = (tt, subst (λ l. ParentsFirst name_of prev_of l ys) (sym (append-nil placed)) h)
    split_first placed (z ∷ zs) ys h =
        let more = split_first (placed ++ z ∷ []) zs ys h.1 in
        ((h.0, more.0), subst (λ l. ParentsFirst name_of prev_of l ys) (append_assoc placed (z ∷ []) zs) more.1)

heads_from : (front rest : List Link) → ParentsFirst name_of prev_of [] (front ++ rest) → Closed front → heads_after front ≡ heads_in front → heads_after (front ++ rest) ≡ heads_in (front ++ rest)
heads_from front [] first closed so = subst (λ (l : List Link). heads_after l ≡ heads_in l) (sym (append-nil front)) so
heads_from front (x ∷ rest) first closed so =
    let here = set_front front x rest first in
    let whole : (front ++ x ∷ []) ++ rest ≡ front ++ x ∷ rest = append_assoc front (x ∷ []) rest in
    let now : heads_after (front ++ x ∷ []) ≡ heads_in (front ++ x ∷ []) =
    fold-append heads_with [] front (x ∷ []) ∙ ap (λ (l : List Name). heads_with l x) so ∙ sym (heads_more front x here.0 closed here.1) in
    subst (λ (l : List Link). heads_after l ≡ heads_in l) whole
    (heads_from (front ++ x ∷ []) rest (subst (λ (l : List Link). ParentsFirst name_of prev_of [] l) (sym whole) first) (closed_push front x closed here.1) now)

parents_alike : (xs ys : List Link) (n : Name) → HaveSameMembers xs ys → is_parent_in xs n ≡ is_parent_in ys n
parents_alike xs ys n same =
    same_answer (is_parent_in xs n) (is_parent_in ys n)
    (λ h. let y = any_of (λ (z : Link). has_name z.prev n) xs h in any_in (λ (z : Link). has_name z.prev n) ys y.0 (same.forth y.0 y.1) y.2)
    (λ h. let y = any_of (λ (z : Link). has_name z.prev n) ys h in any_in (λ (z : Link). has_name z.prev n) xs y.0 (same.back y.0 y.1) y.2)

name_among : (xs : List Link) (n : Name) → IsIn n (names name_of xs) → (y : Link) × IsIn y xs × (y.name ≡ n)
name_among [] n k = absurd k
name_among (x ∷ xs) n (inl e) = (x, inl refl, e)
name_among (x ∷ xs) n (inr k) = let y = name_among xs n k in (y.0, inr y.1, y.2)

name_member : (xs : List Link) (y : Link) → IsIn y xs → IsIn y.name (names name_of xs)
name_member [] y k = absurd k
name_member (x ∷ xs) y (inl e) = inl (ap name_of e)
name_member (x ∷ xs) y (inr k) = inr (name_member xs y k)

names_alike : (xs ys : List Link) → ((y : Link) → IsIn y xs → IsIn y ys) → (n : Name) → IsIn n (names name_of xs) → IsIn n (names name_of ys)
names_alike xs ys to n k = let y = name_among xs n k in subst (λ (m : Name). IsIn m (names name_of ys)) y.2 (name_member ys y.0 (to y.0 y.1))

-- the heads of links that connected one by one are those of their set
pub heads_arrived : (links placed : List Link) → ParentsFirst name_of prev_of [] placed → IsSet name_of (order_of links) → HaveSameMembers placed (order_of links) → heads_after placed ≡ heads_of links
heads_arrived links placed first ordered same =
    let none : heads_after [] ≡ heads_in [] = refl in
    let test : Name → Bool = λ n. not (is_parent_in placed n) in
    heads_from [] placed first (λ n e. absurd (false≢true e)) none
    ∙ ascending-of_set name_lt strict (filter (λ n. not (is_parent_in placed n)) (names name_of placed)) (filter (λ n. not (is_parent_in (order_of links) n)) (names name_of (order_of links)))
    (names_apart _ (names_filter (λ n. not (is_parent_in placed n)) (names name_of placed) (first_set name_of prev_of [] placed first)))
    (names_apart _ (names_filter (λ n. not (is_parent_in (order_of links) n)) (names name_of (order_of links)) ordered))
    (record {
      forth = λ n k.
          let there = of_filter (λ n. not (is_parent_in placed n)) n (names name_of placed) k in
          in_filter (λ n. not (is_parent_in (order_of links) n)) n (names name_of (order_of links)) (names_alike placed (order_of links) same.forth n there.0)
          (ap not (sym (parents_alike placed (order_of links) n same)) ∙ there.1);
      back = λ n k.
          let there = of_filter (λ n. not (is_parent_in (order_of links) n)) n (names name_of (order_of links)) k in
          in_filter (λ n. not (is_parent_in placed n)) n (names name_of placed) (names_alike (order_of links) placed same.back n there.0)
          (ap not (parents_alike placed (order_of links) n same) ∙ there.1);
    })

-- a name is put in at its place
pub put_at : (n : Name) (ms : List Name) → insert ms (place_before n ms) n ≡ put_in name_lt n ms
put_at n [] = refl
put_at n (m ∷ ms) = go (name_lt n m) (put_at n ms)
  where
    go : (b : Bool) → insert ms (place_before n ms) n ≡ put_in name_lt n ms → insert (m ∷ ms) (cond b 0 (suc (place_before n ms))) n ≡ cond b (n ∷ m ∷ ms) (m ∷ put_in name_lt n ms)
    go true h = refl
    go false h = ap (λ (l : List Name). m ∷ l) h

-- one more name was looked at
pub place_here : (n : Name) (ms : List Name) (i : ℕ) (m : Name) → i < length ms → m ≡ get_or ms i m → name_lt n m ≡ true → place_before n (drop i ms) ≡ 0
place_here n ms i m within at before = rw (drop-cons ms i m within, ← at, before) refl

pub place_next : (n : Name) (ms : List Name) (i : ℕ) (m : Name) → i < length ms → m ≡ get_or ms i m → name_lt n m ≡ false → place_before n (drop i ms) ≡ suc (place_before n (drop (i + 1) ms))
place_next n ms i m within at after = rw (add-one, drop-cons ms i m within, ← at, after) refl
