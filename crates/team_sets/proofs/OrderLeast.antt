use Rattle.std.proofs.Common.{◌≡◌, ℕ, zero, suc, Bool, true, false, not, ◌||◌, cond, List, [], ◌∷◌, ◌++◌, filter, Option, Some, None, refl, sym, ◌∙◌, ap, subst, append_assoc, append-nil, inl, inr, ◌⊎◌, length, ◌≤◌, ◌<◌, arith}
use Rattle.std.specs.Ordering.{is_le, is_lt, nat_cmp, ordering_then, ordering_reverse}
use Rattle.std.specs.Cmp.Lexicographic.{slice_cmp, nat_list_cmp_total, nat_list_eq_equiv}
use Rattle.std.specs.declared.cmp.Ordering.{Ordering}
use Rattle.std.specs.declared.cmp.Ordering.TheVariants.{Less, Equal, Greater}
use Rattle.std.specs.FinMap.{slice_cmp-IsAntisymmetric, nat_cmp-IsAntisymmetric}
use Rattle.std.specs.Option.{option_map_or}
use Rattle.std.proofs.lemmas.Bool.{false≢true, and_parts, not-true, not_from_true, not_from_false, or_parts, or_right, and_left}
use Rattle.team_sets.specs.Names.{Name, name_lt, has_name, same_name}
use Rattle.team_sets.specs.Members.{IsIn}
use Rattle.team_sets.specs.Order.{lesser, least, is_next, order_after, order, names}
use Rattle.team_sets.specs.OrderLaws.{names_le, IsArrangement, NamesDiffer}
use Rattle.team_sets.proofs.Lists.{or_assoc, or_false}

module _ {A : Type 0} where
  pub in_filter : (p : A → Bool) (x : A) (xs : List A) → IsIn x xs → p x ≡ true → IsIn x (filter p xs)
  in_filter p x [] h e = h
  in_filter p x (y ∷ ys) (inl same) e = rw (same, e) (inl refl)
  in_filter p x (y ∷ ys) (inr h) e =
      elim (p y) as (λ b. IsIn x (cond b (y ∷ filter p ys) (filter p ys))) [
        | true ↦ inr (in_filter p x ys h e)
        | false ↦ in_filter p x ys h e
      ]

  pub of_filter : (p : A → Bool) (x : A) (xs : List A) → IsIn x (filter p xs) → IsIn x xs × (p x ≡ true)
  of_filter p x [] h = absurd h
  of_filter p x (y ∷ ys) h =
      elim (p y) as (λ b. p y ≡ b → IsIn x (cond b (y ∷ filter p ys) (filter p ys)) → IsIn x (y ∷ ys) × (p x ≡ true)) [
        | true ↦ λ e g. elim g [
          | inl same ↦ (inl same, subst (λ z. p z ≡ true) same e)
          | inr k ↦ (inr (of_filter p x ys k).0, (of_filter p x ys k).1)
        ]
        | false ↦ λ e k. (inr (of_filter p x ys k).0, (of_filter p x ys k).1)
      ] refl h

  pub filter_le : (p q : A → Bool) (xs : List A) → ((y : A) → q y ≡ true → p y ≡ true) → length (filter q xs) ≤ length (filter p xs)
  filter_le p q [] h = omega arith
  filter_le p q (y ∷ ys) h = go (q y) refl (p y) refl (filter_le p q ys h)
    where
      go : (b : Bool) → q y ≡ b → (c : Bool) → p y ≡ c → length (filter q ys) ≤ length (filter p ys) → length (cond b (y ∷ filter q ys) (filter q ys)) ≤ length (cond c (y ∷ filter p ys) (filter p ys))
      go true e true f le = omega arith
      go true e false f le = absurd (false≢true (sym f ∙ h y e))
      go false e true f le = omega arith
      go false e false f le = le

  pub filter_shrinks : (p q : A → Bool) (x : A) (xs : List A) → ((y : A) → q y ≡ true → p y ≡ true) → IsIn x xs → p x ≡ true → q x ≡ false
      → length (filter q xs) < length (filter p xs)
  filter_shrinks p q x [] h k e f = absurd k
  filter_shrinks p q x (y ∷ ys) h (inl same) e f = rw (same, e, f) (let le : length (filter q ys) ≤ length (filter p ys) = filter_le p q ys h in omega arith)
  filter_shrinks p q x (y ∷ ys) h (inr k) e f = go (q y) refl (p y) refl (filter_shrinks p q x ys h k e f)
    where
      go : (b : Bool) → q y ≡ b → (c : Bool) → p y ≡ c → length (filter q ys) < length (filter p ys)
          → length (cond b (y ∷ filter q ys) (filter q ys)) < length (cond c (y ∷ filter p ys) (filter p ys))
      go true d true g less = omega arith
      go true d false g less = absurd (false≢true (sym g ∙ h y d))
      go false d true g less = omega arith
      go false d false g less = less

-- a test that nothing of an empty list passes is false
pub false_where_none : {A : Type 0} (kept : List A) (x : A) (b : Bool) → length kept ≤ 0 → (b ≡ true → IsIn x kept) → b ≡ false
false_where_none kept x false few h = refl
false_where_none [] x true few h = absurd (h refl)
false_where_none (y ∷ ys) x true few h = absurd (omega arith)

pub lt_irrefl_le : (a b : Name) → slice_cmp nat_cmp a b ≡ Greater → name_lt b a ≡ true
lt_irrefl_le a b e = ap is_lt (nat_list_cmp_total.antisymm b a) ∙ ap (λ r. is_lt (ordering_reverse r)) e

pub name_lt-irrefl : (a : Name) → name_lt a a ≡ false
name_lt-irrefl a = go (slice_cmp nat_cmp a a) refl
  where
    go : (r : Ordering) → slice_cmp nat_cmp a a ≡ r → is_lt r ≡ false
    go Less e = absurd (flip_less Less (sym e ∙ nat_list_cmp_total.antisymm a a ∙ ap ordering_reverse e))
      where
        flip_less : (r : Ordering) → Less ≡ Greater → ⊥
        flip_less r e = cc
    go Equal e = refl
    go Greater e = refl

pub name_lt-asym : (a b : Name) → name_lt a b ≡ true → name_lt b a ≡ false
name_lt-asym a b h = go (slice_cmp nat_cmp a b) refl h
  where
    go : (r : Ordering) → slice_cmp nat_cmp a b ≡ r → is_lt r ≡ true → name_lt b a ≡ false
    go Less e k = ap is_lt (nat_list_cmp_total.antisymm b a) ∙ ap (λ r. is_lt (ordering_reverse r)) e
    go Equal e k = absurd (false≢true k)
    go Greater e k = absurd (false≢true k)

-- a ≤ b and b ≤ c give a ≤ c
pub name_le-trans : (a b c : Name) → name_lt b a ≡ false → name_lt c b ≡ false → name_lt c a ≡ false
name_le-trans a b c h k = go (slice_cmp nat_cmp c a) refl (slice_cmp nat_cmp c b) refl
  where
    go : (r : Ordering) → slice_cmp nat_cmp c a ≡ r → (t : Ordering) → slice_cmp nat_cmp c b ≡ t → is_lt r ≡ false
    go Equal e t f = refl
    go Greater e t f = refl
    go Less e Less f = absurd (false≢true (sym k ∙ ap is_lt f))
    go Less e Equal f = absurd (false≢true (sym h ∙ ap is_lt (sym (nat_list_cmp_total.congr c b a f) ∙ e)))
    go Less e Greater f = absurd (false≢true (sym h ∙ ap is_lt (nat_list_cmp_total.trans b c a (nat_list_cmp_total.antisymm b c ∙ ap ordering_reverse f) e)))

module _ {A : Type 0} (name : A → Name) where
  -- the least is one of the list
  pub least_in : (xs : List A) (x : A) → least name xs ≡ Some x → IsIn x xs
  least_in [] x e = absurd (cc)
  least_in (y ∷ ys) x e = pick (least name ys) refl e (least_in ys x)
    where
      pick : (o : Option A) → least name ys ≡ o → lesser name y o ≡ Some x → (least name ys ≡ Some x → IsIn x ys) → (y ≡ x) ⊎ IsIn x ys
      pick None was is more = inl (cc)
      pick (Some z) was is more =
          elim (name_lt (name z) (name y)) as (λ b. cond b (Some z) (Some y) ≡ Some x → (y ≡ x) ⊎ IsIn x ys) [
            | true ↦ λ e. inr (more (was ∙ e))
            | false ↦ λ e. inl (cc)
          ] is

  pub least_none : (xs : List A) → least name xs ≡ None → xs ≡ []
  least_none [] e = refl
  least_none (y ∷ ys) e = pick (least name ys) e
    where
      pick : (o : Option A) → lesser name y o ≡ None → y ∷ ys ≡ []
      pick None is = absurd (cc)
      pick (Some z) is =
          elim (name_lt (name z) (name y)) as (λ b. cond b (Some z) (Some y) ≡ None → y ∷ ys ≡ []) [
            | true ↦ λ e. absurd (cc)
            | false ↦ λ e. absurd (cc)
          ] is

  -- no element is before the least
  pub least_below : (xs : List A) (x y : A) → least name xs ≡ Some x → IsIn y xs → name_lt (name y) (name x) ≡ false
  least_below [] x y e h = absurd h
  least_below (z ∷ zs) x y e h = pick (least name zs) refl e h (λ w f k. least_below zs w y f k)
    where
      alone : least name zs ≡ None → z ≡ x → (z ≡ y) ⊎ IsIn y zs → name_lt (name y) (name x) ≡ false
      alone was e (inl same) = rw (← same, ← e) (name_lt-irrefl (name z))
      alone was e (inr k) = absurd (subst (λ l. IsIn y l) (least_none zs was) k)

      pick : (o : Option A) → least name zs ≡ o → lesser name z o ≡ Some x → (z ≡ y) ⊎ IsIn y zs
          → ((w : A) → least name zs ≡ Some w → IsIn y zs → name_lt (name y) (name w) ≡ false) → name_lt (name y) (name x) ≡ false
      pick None was is h more = alone was (cc) h
      pick (Some w) was is h more = by (name_lt (name w) (name z)) refl is h
        where
          by : (b : Bool) → name_lt (name w) (name z) ≡ b → cond b (Some w) (Some z) ≡ Some x → (z ≡ y) ⊎ IsIn y zs → name_lt (name y) (name x) ≡ false
          by true lt e (inl same) = let q : w ≡ x = cc in rw (← same, ← q) (name_lt-asym (name w) (name z) lt)
          by true lt e (inr k) = let q : w ≡ x = cc in rw (← q) (more w was k)
          by false lt e (inl same) = let q : z ≡ x = cc in rw (← same, ← q) (name_lt-irrefl (name z))
          by false lt e (inr k) = let q : z ≡ x = cc in rw (← q) (name_le-trans (name z) (name w) (name y) lt (more w was k))

  names_le-empty : (ys : List Name) → names_le [] ys ≡ true
  names_le-empty [] = refl
  names_le-empty (y ∷ ys) = refl

module _ {A : Type 0} (name : A → Name) (prev : A → List Name) (links : List A) where
  -- where the list may go on with y, the next one chosen is in the set, may stand next, and isn't after y
  pub record IsChosen (placed : List A) (x : A) : Type 0 where
    pub of_links : IsIn x links
    pub is_next_one : is_next name prev placed x ≡ true
    pub is_least : (y : A) → IsIn y links → is_next name prev placed y ≡ true → name_lt (name y) (name x) ≡ false

  pub is_chosen : (placed : List A) (x : A) → least name (filter (is_next name prev placed) links) ≡ Some x → IsChosen placed x
  is_chosen placed x e =
      let here = of_filter (is_next name prev placed) x links (least_in name (filter (is_next name prev placed) links) x e) in
      record {
        of_links = here.0;
        is_next_one = here.1;
        is_least = λ y k next. least_below name (filter (is_next name prev placed) links) x y e (in_filter (is_next name prev placed) y links k next);
      }

  pub none_chosen : (placed : List A) → least name (filter (is_next name prev placed) links) ≡ None → (x : A) → IsIn x links → is_next name prev placed x ≡ false
  none_chosen placed e x k = go (is_next name prev placed x) refl
    where
      go : (b : Bool) → is_next name prev placed x ≡ b → b ≡ false
      go false is = refl
      go true is = absurd (subst (λ l. IsIn x l) (least_none name (filter (is_next name prev placed) links) e) (in_filter (is_next name prev placed) x links k is))

  pub order_is_least : NamesDiffer name links → (n : ℕ) (placed other : List A) → IsArrangement name prev links placed other
      → names_le (names name (order_after name prev n placed links)) (names name other) ≡ true
  order_is_least differ zero placed other a = names_le-empty name (names name other)
  order_is_least differ (suc n) placed other a = go (least name (filter (is_next name prev placed) links)) refl other a (order_is_least differ n)
    where
      go : (o : Option A) → least name (filter (is_next name prev placed) links) ≡ o → (other : List A) → IsArrangement name prev links placed other
          → ((placed other : List A) → IsArrangement name prev links placed other → names_le (names name (order_after name prev n placed links)) (names name other) ≡ true)
          → names_le (names name (option_map_or (λ x. x ∷ order_after name prev n (placed ++ x ∷ []) links) o [])) (names name other) ≡ true
      go None e other a more = names_le-empty name (names name other)
      go (Some x) e [] a more =
          let c = is_chosen placed x e in
          absurd (false≢true (sym (a.complete x c.of_links) ∙ (rw append-nil c.is_next_one)))
      go (Some x) e (y ∷ ys) a more = by (slice_cmp nat_cmp (name x) (name y)) refl
        where
          c : IsChosen placed x
          c = is_chosen placed x e

          by : (r : Ordering) → slice_cmp nat_cmp (name x) (name y) ≡ r
              → is_le (ordering_then r (slice_cmp (slice_cmp nat_cmp) (names name (order_after name prev n (placed ++ x ∷ []) links)) (names name ys))) ≡ true
          by Less was = refl
          by Equal was =
              let same : x ≡ y = differ x y c.of_links a.of_links.0 (slice_cmp-IsAntisymmetric nat_cmp-IsAntisymmetric (name x) (name y) was) in
              more (placed ++ x ∷ []) ys (record {
                of_links = a.of_links.1;
                parents_first = rw same a.parents_first.1;
                complete = λ z k. rw (append_assoc, same) (a.complete z k);
              })
          by Greater was =
              absurd (false≢true (sym (c.is_least y a.of_links.0 a.parents_first.0) ∙ lt_irrefl_le (name x) (name y) was))

  -- whether x isn't placed
  unfoldable pub is_left : List A → A → Bool
  is_left placed x = not (has_name (names name placed) (name x))

  pub has_name-placed : (ms : List A) (x : A) (m : Name) → has_name (names name (ms ++ x ∷ [])) m ≡ (has_name (names name ms) m || same_name (name x) m)
  has_name-placed [] x m = or_false (same_name (name x) m)
  has_name-placed (y ∷ ys) x m = ap (λ b. same_name (name y) m || b) (has_name-placed ys x m) ∙ sym (or_assoc (same_name (name y) m) (has_name (names name ys) m) (same_name (name x) m))

  pub left-fewer : (placed : List A) (x : A) → IsChosen placed x → length (filter (is_left (placed ++ x ∷ [])) links) < length (filter (is_left placed) links)
  unfolding is_left
  left-fewer placed x c =
      filter_shrinks (is_left placed) (is_left (placed ++ x ∷ [])) x links (λ y h. not_from_false _ (or_parts _ _ (sym (has_name-placed placed x (name y)) ∙ not-true _ h)).0)
      c.of_links (and_parts _ _ c.is_next_one).0
      (not_from_true _ (has_name-placed placed x (name x) ∙ or_right _ _ (nat_list_eq_equiv.refl (name x))))

  pub order_is_arrangement : (n : ℕ) (placed : List A) → length (filter (is_left placed) links) ≤ n → IsArrangement name prev links placed (order_after name prev n placed links)
  unfolding is_left
  order_is_arrangement zero placed few = record {
    of_links = tt;
    parents_first = tt;
    complete = λ x k. rw append-nil (and_left _ _ (false_where_none (filter (is_left placed) links) x (is_left placed x) few (in_filter (is_left placed) x links k)));
  }
  order_is_arrangement (suc n) placed few = go (least name (filter (is_next name prev placed) links)) refl (order_is_arrangement n)
    where
      go : (o : Option A) → least name (filter (is_next name prev placed) links) ≡ o
          → ((placed : List A) → length (filter (is_left placed) links) ≤ n → IsArrangement name prev links placed (order_after name prev n placed links))
          → IsArrangement name prev links placed (option_map_or (λ x. x ∷ order_after name prev n (placed ++ x ∷ []) links) o [])
      go None e more = record {
        of_links = tt;
        parents_first = tt;
        complete = λ x k. rw append-nil (none_chosen placed e x k);
      }
      go (Some x) e more =
          let c = is_chosen placed x e in
          let fewer : length (filter (is_left (placed ++ x ∷ [])) links) < length (filter (is_left placed) links) = left-fewer placed x c in
          let rest = more (placed ++ x ∷ []) (omega arith) in
          record {
            of_links = (c.of_links, rest.of_links);
            parents_first = (c.is_next_one, rest.parents_first);
            complete = λ z k. rw append_assoc at (rest.complete z k);
          }

  pub length-filter-le : (p : A → Bool) (xs : List A) → length (filter p xs) ≤ length xs
  length-filter-le p [] = omega arith
  length-filter-le p (x ∷ xs) = go (p x) (length-filter-le p xs)
    where
      go : (b : Bool) → length (filter p xs) ≤ length xs → length (cond b (x ∷ filter p xs) (filter p xs)) ≤ suc (length xs)
      go true h = omega arith
      go false h = omega arith

  pub order_laws : NamesDiffer name links → IsArrangement name prev links [] (order name prev links)
      × ((other : List A) → IsArrangement name prev links [] other → names_le (names name (order name prev links)) (names name other) ≡ true)
  order_laws differ = (
    order_is_arrangement (length links) [] (length-filter-le (is_left []) links),
    λ other a. order_is_least differ (length links) [] other a,
  )
