-- The order by positions, as links connect one by one.
use Rattle.std.proofs.Common.{◌≡◌, ◌+◌, ◌-◌, ◌<◌, ◌≤◌, ℕ, zero, suc, Bool, true, false, ◌||◌, cond, List, [], ◌∷◌, ◌++◌, Option, Some, None, option_map, refl, sym, ◌∙◌, ap, subst, length, map, insert, drop, get_or, slice_get, All, add-one, drop-cons, arith}
use Rattle.std.specs.List.{AllByRecursion, list_any, cons_option}
use Rattle.std.specs.Map.{keys_of}
use Rattle.std.proofs.lemmas.List.{length-map}
use Rattle.std.proofs.lemmas.List.Elements.{recursion_from_All}
use Rattle.std.proofs.lemmas.Option.{slice_get-map}
use Rattle.team_sets.specs.Names.{Name, has_name, name_lt}
use Rattle.team_sets.specs.Insertion.{is_parent_of, place_in}
use Rattle.team_sets.specs.Order.{is_next, names}
use Rattle.team_sets.specs.OrderLaws.{ParentsFirst}
use Rattle.team_sets.proofs.Inserts.{insertion_turn}
use Rattle.team_sets.proofs.Lists.{some_at}
use Rattle.team_model.specs.Judging.{name_of, prev_of, order_of}
use Rattle.team_model.specs.declared.terms.Link.{Link}
use Rattle.link_graph.specs.Lines.{place_index}
use Rattle.link_graph.specs.Positions.{at_places}

module _ {A : Type 0} where
  -- what stands at places that are all there
  pub at_here : (xs : List A) (places : List ℕ) (i : ℕ) (x : A) → i < length places → slice_get xs (get_or places i 0) ≡ Some x → at_places xs (drop i places) ≡ x ∷ at_places xs (drop (i + 1) places)
  at_here xs places i x within e = rw (add-one, drop-cons places i 0 within, e) refl

  at_insert : (xs : List A) (order : List ℕ) (i p : ℕ) (z : A) → AllByRecursion (λ q. q < length xs) order → i ≤ length order → slice_get xs p ≡ Some z
      → at_places xs (insert order i p) ≡ insert (at_places xs order) i z
  at_insert xs order zero p z range h e = rw e refl
  at_insert xs [] (suc i) p z range h e = absurd (omega (arith, h))
  at_insert xs (q ∷ qs) (suc i) p z range h e =
      let w = some_at xs q range.0 in
      let more : at_places xs (insert qs i p) ≡ insert (at_places xs qs) i z = at_insert xs qs i p z range.1 (omega (arith, h)) e in
      rw w.1 (ap (λ (l : List A). w.0 ∷ l) more)

  get_front : (xs ys : List A) (p : ℕ) → p < length xs → slice_get (xs ++ ys) p ≡ slice_get xs p
  get_front [] ys p h = absurd (omega arith)
  get_front (x ∷ xs) ys zero h = refl
  get_front (x ∷ xs) ys (suc p) h = get_front xs ys p (omega (arith, h))

  pub at_front : (xs ys : List A) (places : List ℕ) → AllByRecursion (λ q. q < length xs) places → at_places (xs ++ ys) places ≡ at_places xs places
  at_front xs ys [] range = refl
  at_front xs ys (q ∷ qs) range = rw (get_front xs ys q range.0, at_front xs ys qs range.1) refl

  pub at_map : {B : Type 0} (f : A → B) (xs : List A) (places : List ℕ) → map f (at_places xs places) ≡ at_places (map f xs) places
  at_map f xs [] = refl
  at_map f xs (q ∷ qs) = go (slice_get xs q) (at_map f xs qs) ∙ ap (λ o. cons_option o (at_places (map f xs) qs)) (sym (slice_get-map f xs q))
    where
      go : (o : Option A) → map f (at_places xs qs) ≡ at_places (map f xs) qs → map f (cons_option o (at_places xs qs)) ≡ cons_option (option_map f o) (at_places (map f xs) qs)
      go None h = h
      go (Some x) h = ap (λ l. f x ∷ l) h

  pub all_insert : (P : A → Type 0) (xs : List A) (i : ℕ) (x : A) → AllByRecursion P xs → P x → AllByRecursion P (insert xs i x)
  all_insert P xs zero x all here = (here, all)
  all_insert P [] (suc i) x all here = (here, tt)
  all_insert P (y ∷ ys) (suc i) x all here = (all.0, all_insert P ys i x all.1 here)

pub all_more : (order : List ℕ) (n m : ℕ) → n ≤ m → AllByRecursion (λ q. q < n) order → AllByRecursion (λ q. q < m) order
all_more [] n m h all = tt
all_more (q ∷ qs) n m h all = let here : q < n = all.0 in (omega (arith, h, here), all_more qs n m h all.1)

-- the place in a list of links is told by their names
parents_any : (x : Link) (ys : List Link) → list_any (is_parent_of name_of prev_of x) ys ≡ list_any (has_name x.prev) (names name_of ys)
parents_any x [] = refl
parents_any x (y ∷ ys) = ap (λ b. has_name x.prev y.name || b) (parents_any x ys)

place_by_names : (x : Link) (ys : List Link) → insert ys (place_index x (names name_of ys)) x ≡ place_in name_of prev_of x ys
place_by_names x [] = refl
place_by_names x (y ∷ ys) =
    go (list_any (has_name x.prev) (names name_of (y ∷ ys)) || name_lt y.name x.name) (place_by_names x ys)
    ∙ ap (λ b. cond (b || name_lt y.name x.name) (y ∷ place_in name_of prev_of x ys) (x ∷ y ∷ ys)) (sym (parents_any x (y ∷ ys)))
  where
    go : (b : Bool) → insert ys (place_index x (names name_of ys)) x ≡ place_in name_of prev_of x ys
        → insert (y ∷ ys) (cond b (suc (place_index x (names name_of ys))) 0) x ≡ cond b (y ∷ place_in name_of prev_of x ys) (x ∷ y ∷ ys)
    go true h = ap (λ (l : List Link). y ∷ l) h
    go false h = refl

pub place_within : (x : Link) (ns : List Name) → place_index x ns ≤ length ns
place_within x [] = omega arith
place_within x (n ∷ ns) = go (list_any (has_name x.prev) (n ∷ ns) || name_lt n x.name) (place_within x ns)
  where
    go : (b : Bool) → place_index x ns ≤ length ns → cond b (suc (place_index x ns)) 0 ≤ suc (length ns)
    go true h = omega (arith, h)
    go false h = omega arith

-- one more position in the order: the link x stands at it, after those of the positions before
pub order_more : (front : List Link) (x : Link) (order new : List ℕ) (ns : List Name) → ParentsFirst name_of prev_of [] front → is_next name_of prev_of front x ≡ true
    → AllByRecursion (λ q. q < length front) order → at_places front order ≡ order_of front → ns ≡ names name_of (at_places front order) → length (at_places front order) ≡ length order
    → new ≡ insert order (place_index x ns) (length front) → at_places (front ++ x ∷ []) new ≡ order_of (front ++ x ∷ [])
order_more front x order new ns first next range so are many is =
    let place : place_index x ns ≤ length order = subst (λ n. place_index x ns ≤ n) (ap length are ∙ length_names (at_places front order) ∙ many) (place_within x ns) in
    ap (λ (l : List ℕ). at_places (front ++ x ∷ []) l) is
    ∙ at_insert (front ++ x ∷ []) order (place_index x ns) (length front) x (all_longer front x order range) place (seam front x)
    ∙ ap (λ (l : List Link). insert l (place_index x ns) x) (at_front front (x ∷ []) order range)
    ∙ ap (λ (l : List Name). insert (at_places front order) (place_index x l) x) are
    ∙ place_by_names x (at_places front order) ∙ ap (λ (l : List Link). place_in name_of prev_of x l) so ∙ sym (insertion_turn name_of prev_of front x first next)
  where
    length_names : (xs : List Link) → length (names name_of xs) ≡ length xs
    length_names [] = refl
    length_names (y ∷ ys) = ap suc (length_names ys)

    seam : (xs : List Link) (y : Link) → slice_get (xs ++ y ∷ []) (length xs) ≡ Some y
    seam [] y = refl
    seam (z ∷ zs) y = seam zs y

    long : (xs : List Link) (y : Link) → length (xs ++ y ∷ []) ≡ suc (length xs)
    long [] y = refl
    long (z ∷ zs) y = ap suc (long zs y)

    all_longer : (xs : List Link) (y : Link) (qs : List ℕ) → AllByRecursion (λ q. q < length xs) qs → AllByRecursion (λ q. q < length (xs ++ y ∷ [])) qs
    all_longer xs y qs all = all_more qs (length xs) (length (xs ++ y ∷ [])) (omega (arith, long xs y)) all

pub length_at : {A : Type 0} (xs : List A) (places : List ℕ) → AllByRecursion (λ q. q < length xs) places → length (at_places xs places) ≡ length places
length_at xs [] range = refl
length_at xs (q ∷ qs) range = let w = some_at xs q range.0 in rw w.1 (ap suc (length_at xs qs range.1))

-- where a link goes, by the names after the place i
pub place_parent : (x : Link) (keys : List Name) (order : List ℕ) (i : ℕ) (n : Name) → i < length order → slice_get keys (get_or order i 0) ≡ Some n → has_name x.prev n ≡ true
    → place_index x (at_places keys (drop i order)) ≡ suc (place_index x (at_places keys (drop (i + 1) order)))
place_parent x keys order i n within e is = rw (at_here keys order i n within e, is) refl

pub place_greater : (x : Link) (keys : List Name) (order : List ℕ) (i : ℕ) (n : Name) → i < length order → slice_get keys (get_or order i 0) ≡ Some n → has_name x.prev n ≡ false
    → list_any (has_name x.prev) (at_places keys (drop (i + 1) order)) ≡ false → name_lt n x.name ≡ false → place_index x (at_places keys (drop i order)) ≡ 0
place_greater x keys order i n within e is none after = rw (at_here keys order i n within e, is, none, after) refl

pub place_lesser : (x : Link) (keys : List Name) (order : List ℕ) (i : ℕ) (n : Name) → i < length order → slice_get keys (get_or order i 0) ≡ Some n → name_lt n x.name ≡ true
    → place_index x (at_places keys (drop i order)) ≡ suc (place_index x (at_places keys (drop (i + 1) order)))
place_lesser x keys order i n within e before = rw (at_here keys order i n within e, before) (go (has_name x.prev n || list_any (has_name x.prev) (at_places keys (drop (i + 1) order))))
  where
    go : (b : Bool) → cond (b || true) (suc (place_index x (at_places keys (drop (i + 1) order)))) 0 ≡ suc (place_index x (at_places keys (drop (i + 1) order)))
    go true = refl
    go false = refl

pub none_more : (x : Link) (keys : List Name) (order : List ℕ) (i : ℕ) (n : Name) → i < length order → slice_get keys (get_or order i 0) ≡ Some n → has_name x.prev n ≡ false
    → list_any (has_name x.prev) (at_places keys (drop (i + 1) order)) ≡ false → list_any (has_name x.prev) (at_places keys (drop i order)) ≡ false
none_more x keys order i n within e is none = rw (at_here keys order i n within e, is) none

-- after a parent, all that stand before it are passed
pub passed : (x : Link) (keys : List Name) (order : List ℕ) (i : ℕ) (n : Name) → AllByRecursion (λ q. q < length keys) order → i < length order → slice_get keys (get_or order i 0) ≡ Some n
    → has_name x.prev n ≡ true → place_index x (at_places keys order) ≡ suc i + place_index x (at_places keys (drop (suc i) order))
passed x keys [] i n range within e is = absurd (omega (arith, within))
passed x keys (q ∷ qs) zero n range within e is = rw (e, is) (sym (one_more (place_index x (at_places keys qs))))
  where
    one_more : (k : ℕ) → 1 + k ≡ suc k
    one_more k = omega arith
passed x keys (q ∷ qs) (suc i) n range within e is =
    let w = some_at keys q range.0 in
    let behind : list_any (has_name x.prev) (at_places keys qs) ≡ true = parent_there qs i range.1 (omega (arith, within)) e in
    let more : place_index x (at_places keys qs) ≡ suc i + place_index x (at_places keys (drop (suc i) qs)) = passed x keys qs i n range.1 (omega (arith, within)) e is in
    rw (w.1, behind) (go (has_name x.prev w.0) (name_lt w.0 x.name) ∙ ap suc more ∙ sum (place_index x (at_places keys (drop (suc i) qs))))
  where
    sum : (k : ℕ) → suc (suc i + k) ≡ suc (suc i) + k
    sum k = omega arith

    go : (b d : Bool) → cond ((b || true) || d) (suc (place_index x (at_places keys qs))) 0 ≡ suc (place_index x (at_places keys qs))
    go true d = refl
    go false d = refl

    parent_there : (rs : List ℕ) (j : ℕ) → AllByRecursion (λ q. q < length keys) rs → j < length rs → slice_get keys (get_or rs j 0) ≡ Some n → list_any (has_name x.prev) (at_places keys rs) ≡ true
    parent_there [] j all h f = absurd (omega (arith, h))
    parent_there (r ∷ rs) zero all h f = rw (f, is) refl
    parent_there (r ∷ rs) (suc j) all h f = let v = some_at keys r all.0 in rw v.1 (yes (has_name x.prev v.0) (list_any (has_name x.prev) (at_places keys rs)) (parent_there rs j all.1 (omega (arith, h)) f))
      where
        yes : (a b : Bool) → b ≡ true → (a || b) ≡ true
        yes true b g = refl
        yes false b g = g

pub keys_range : (entries : List (Name × ℕ)) (order : List ℕ) → All (λ p. p < length entries) order → AllByRecursion (λ q. q < length (keys_of entries)) order
keys_range entries order range =
    subst (λ n. AllByRecursion (λ q. q < n) order) (sym (length-map entries (λ e. e.0))) (recursion_from_All (λ p. p < length entries) order range)

module _ (x : Link) (keys : List Name) (order : List ℕ) (i place : ℕ) (n : Name) (pos : 0 < i) (within : i ≤ length order) (at : slice_get keys (get_or order (i - 1) 0) ≡ Some n) where
  back : (i - 1) + 1 ≡ i
  back = omega (arith, pos)

  -- a step of the walk from the end: what stands there is less, or greater, or a parent
  pub lesser_back : name_lt n x.name ≡ true → place ≡ i + place_index x (at_places keys (drop i order)) → place ≡ (i - 1) + place_index x (at_places keys (drop (i - 1) order))
  lesser_back before are =
      let here : place_index x (at_places keys (drop (i - 1) order)) ≡ suc (place_index x (at_places keys (drop i order))) =
      place_lesser x keys order (i - 1) n (omega (arith, pos, within)) at before ∙ ap (λ k. suc (place_index x (at_places keys (drop k order)))) back in
      omega (arith, here, are, pos)

  pub greater_back : has_name x.prev n ≡ false → list_any (has_name x.prev) (at_places keys (drop i order)) ≡ false → name_lt n x.name ≡ false → i - 1 ≡ (i - 1) + place_index x (at_places keys (drop (i - 1) order))
  greater_back is none after =
      let here : place_index x (at_places keys (drop (i - 1) order)) ≡ 0 =
      place_greater x keys order (i - 1) n (omega (arith, pos, within)) at is (ap (λ k. list_any (has_name x.prev) (at_places keys (drop k order))) back ∙ none) after in
      omega (arith, here)

  pub none_back : has_name x.prev n ≡ false → list_any (has_name x.prev) (at_places keys (drop i order)) ≡ false → list_any (has_name x.prev) (at_places keys (drop (i - 1) order)) ≡ false
  none_back is none = none_more x keys order (i - 1) n (omega (arith, pos, within)) at is (ap (λ k. list_any (has_name x.prev) (at_places keys (drop k order))) back ∙ none)

  pub passed_back : AllByRecursion (λ q. q < length keys) order → has_name x.prev n ≡ true → place ≡ i + place_index x (at_places keys (drop i order)) → place ≡ place_index x (at_places keys order)
  passed_back range is are =
      let up : suc (i - 1) ≡ i = omega (arith, pos) in
      are ∙ ap (λ k. k + place_index x (at_places keys (drop k order))) (sym up) ∙ sym (passed x keys order (i - 1) n range (omega (arith, pos, within)) at is)
