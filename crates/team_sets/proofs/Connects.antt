-- One link follows at a time: the least by name of those that may stand next. What may stand next, when one more is placed.
use Rattle.std.proofs.Common.{◌≡◌, Bool, true, false, not, ◌&&◌, ◌||◌, List, [], ◌∷◌, ◌++◌, Option, Some, None, refl, sym, ◌∙◌, ap, subst, inl, inr, ◌⊎◌, length}
use Rattle.std.specs.List.{list_all}
use Rattle.std.specs.Cmp.Lexicographic.{bytes_decides, nat_list_eq_equiv}
use Rattle.std.proofs.lemmas.Bool.{false≢true, and_from, and_parts, or_left, or_parts, or_right, not-true, not_from_false}
use Rattle.team_sets.specs.Names.{Name, same_name, name_lt, has_name}
use Rattle.team_sets.specs.Members.{IsIn}
use Rattle.team_sets.specs.Order.{least, is_next, order_after, names}
use Rattle.team_sets.specs.OrderLaws.{IsChosenInTurn, NamesDiffer}
use Rattle.team_sets.specs.Insertion.{is_parent_of}
use Rattle.team_sets.specs.ArrivalLaws.{LeastIsByName, ConnectsNext, NextAfter, AllConnected, StaysConnected}
use Rattle.team_sets.proofs.OrderLeast.{least_in, least_none, least_below, is_left, length-filter-le, has_name-placed}
use Rattle.team_sets.proofs.Agree.{same_answer}
use Rattle.team_sets.proofs.Lists.{filter_end}
use Rattle.team_sets.proofs.Parts.{filter_none, in_turn-order, in_turn-unique, name_lt-both}
use Rattle.team_sets.proofs.Pasts.{in_more}

pub same_name-sym : (a b : Name) → same_name a b ≡ same_name b a
same_name-sym a b =
    same_answer (same_name a b) (same_name b a) (λ h. (bytes_decides b a).1 (sym ((bytes_decides a b).0 h))) (λ h. (bytes_decides a b).1 (sym ((bytes_decides b a).0 h)))

module _ {A : Type 0} (name : A → Name) where
  -- one of the list is the least where none of it has a smaller name
  pub least_is : (xs : List A) → NamesDiffer name xs → (y : A) → IsIn y xs → ((z : A) → IsIn z xs → name_lt (name z) (name y) ≡ false) → least name xs ≡ Some y
  least_is xs differ y k below = go (least name xs) refl
    where
      go : (o : Option A) → least name xs ≡ o → o ≡ Some y
      go None e = absurd (subst (λ l. IsIn y l) (least_none name xs e) k)
      go (Some z) e =
          let here : IsIn z xs = least_in name xs z e in
          ap (λ w. Some w) (differ z y here k (name_lt-both (name z) (name y) (below z here) (least_below name xs z y e k)))

  pub least_same : (xs ys : List A) → NamesDiffer name xs → ((x : A) → IsIn x xs → IsIn x ys) → ((x : A) → IsIn x ys → IsIn x xs) → least name xs ≡ least name ys
  least_same xs ys differ to back = go (least name ys) refl
    where
      none : (o : Option A) → least name xs ≡ o → least name ys ≡ None → o ≡ None
      none None e f = refl
      none (Some z) e f = absurd (subst (λ l. IsIn z l) (least_none name ys f) (to z (least_in name xs z e)))

      go : (o : Option A) → least name ys ≡ o → least name xs ≡ o
      go None e = none (least name xs) refl e
      go (Some y) e = least_is xs differ y (back y (least_in name ys y e)) (λ z k. least_below name ys y z e (to z k))

  pub least_by_name : (xs : List A) → NamesDiffer name xs → LeastIsByName name xs
  least_by_name xs differ = record {
    told = λ y. (
      λ e. record { member = least_in name xs y e; below = λ z k. least_below name xs y z e k },
      λ h. least_is xs differ y h.member h.below,
    );
    same = λ ys same. least_same xs ys differ same.forth same.back;
  }

module _ {A : Type 0} (name : A → Name) (prev : A → List Name) where
  -- what follows is chosen in turn
  pub follows : (links placed : List A) → IsChosenInTurn name prev links placed (order_after name prev (length links) placed links)
  follows links placed = in_turn-order name prev links (length links) placed (length-filter-le name prev links (is_left name prev links placed) links)

  pub connects_next : (links placed : List A) → ConnectsNext name prev links placed
  connects_next links placed =
      let rest = order_after name prev (length links) in record {
        ends = λ e. in_turn-unique name prev links placed (rest placed links) [] (follows links placed) e;
        goes_on = λ y e. in_turn-unique name prev links placed (rest placed links) (y ∷ rest (placed ++ y ∷ []) links) (follows links placed) (e, follows links (placed ++ y ∷ []));
        in_turn = λ more. (
          λ h. in_turn-unique name prev links placed more (rest placed links) h (follows links placed),
          λ e. subst (λ l. IsChosenInTurn name prev links placed l) (sym e) (follows links placed),
        );
      }

  -- y beside those placed matters to those alone that have it as a parent
  pub all_without : (placed : List A) (y : A) (ms : List Name) → has_name ms (name y) ≡ false
      → list_all (has_name (names name (placed ++ y ∷ []))) ms ≡ list_all (has_name (names name placed)) ms
  all_without placed y [] h = refl
  all_without placed y (m ∷ ms) h =
      let parts = or_parts (same_name m (name y)) (has_name ms (name y)) h in
      rw (has_name-placed name prev placed placed y m, same_name-sym (name y) m, parts.0, all_without placed y ms parts.1) (go (has_name (names name placed) m))
    where
      go : (b : Bool) → ((b || false) && list_all (has_name (names name placed)) ms) ≡ (b && list_all (has_name (names name placed)) ms)
      go true = refl
      go false = refl

  all_with : (placed : List A) (y : A) (ms : List Name) → list_all (has_name (names name placed)) ms ≡ true → list_all (has_name (names name (placed ++ y ∷ []))) ms ≡ true
  all_with placed y [] h = refl
  all_with placed y (m ∷ ms) h =
      let parts = and_parts (has_name (names name placed) m) (list_all (has_name (names name placed)) ms) h in
      and_from (has_name (names name (placed ++ y ∷ [])) m) (list_all (has_name (names name (placed ++ y ∷ []))) ms)
      (has_name-placed name prev placed placed y m ∙ or_left (has_name (names name placed) m) (same_name (name y) m) parts.0) (all_with placed y ms parts.1)

  pub next_parts : (placed : List A) (z : A) → is_next name prev placed z ≡ true → (has_name (names name placed) (name z) ≡ false) × (list_all (has_name (names name placed)) (prev z) ≡ true)
  next_parts placed z h =
      let parts = and_parts (not (has_name (names name placed) (name z))) (list_all (has_name (names name placed)) (prev z)) h in
      (not-true (has_name (names name placed) (name z)) parts.0, parts.1)

  pub next_from : (placed : List A) (z : A) → has_name (names name placed) (name z) ≡ false → list_all (has_name (names name placed)) (prev z) ≡ true → is_next name prev placed z ≡ true
  next_from placed z new all = and_from (not (has_name (names name placed) (name z))) (list_all (has_name (names name placed)) (prev z)) (not_from_false (has_name (names name placed) (name z)) new) all

  pub next_after : (placed : List A) (y z : A) → NextAfter name prev placed y z
  next_after placed y z = record {
    was = was (has_name (prev z) (name y)) refl;
    stays = λ next apart. let parts = next_parts placed z next in
        next_from (placed ++ y ∷ []) z (has_name-placed name prev placed placed y (name z) ∙ rw (parts.0, apart) refl) (all_with placed y (prev z) parts.1);
  }
    where
      was : (b : Bool) → has_name (prev z) (name y) ≡ b → is_next name prev (placed ++ y ∷ []) z ≡ true → (is_next name prev placed z ≡ true) ⊎ (is_parent_of name prev z y ≡ true)
      was true e next = inr e
      was false e next =
          let parts = next_parts (placed ++ y ∷ []) z next in
          let new = or_parts (has_name (names name placed) (name z)) (same_name (name y) (name z)) (sym (has_name-placed name prev placed placed y (name z)) ∙ parts.0) in
          inl (next_from placed z new.0 (sym (all_without placed y (prev z) e) ∙ parts.1))

  -- a link doesn't follow itself
  pub not_again : (placed : List A) (x : A) → is_next name prev (placed ++ x ∷ []) x ≡ true → ⊥
  not_again placed x next =
      false≢true (sym (next_parts (placed ++ x ∷ []) x next).0 ∙ has_name-placed name prev placed placed x (name x)
      ∙ or_right (has_name (names name placed) (name x)) (same_name (name x) (name x)) (nat_list_eq_equiv.refl (name x)))

  pub stays_connected : (links placed : List A) (x : A) → AllConnected name prev links placed → StaysConnected name prev links placed x
  stays_connected links placed x none = record {
    waits = λ h y k. waits h y (in_more links x y k);
    alone = λ h. filter_end (is_next name prev placed) links x true h ∙ ap (λ l. l ++ x ∷ []) (filter_none name prev (is_next name prev placed) links none);
    children = λ y k next. children y (in_more links x y k) next ((next_after placed x y).was next);
  }
    where
      waits : is_next name prev placed x ≡ false → (y : A) → IsIn y links ⊎ (x ≡ y) → is_next name prev placed y ≡ false
      waits h y (inl k) = none y k
      waits h y (inr e) = subst (λ z. is_next name prev placed z ≡ false) e h

      children : (y : A) → IsIn y links ⊎ (x ≡ y) → is_next name prev (placed ++ x ∷ []) y ≡ true → (is_next name prev placed y ≡ true) ⊎ (is_parent_of name prev y x ≡ true) → is_parent_of name prev y x ≡ true
      children y k next (inr e) = e
      children y (inl k) next (inl was) = absurd (false≢true (sym (none y k) ∙ was))
      children y (inr e) next (inl was) = absurd (not_again placed x (subst (λ z. is_next name prev (placed ++ x ∷ []) z ≡ true) (sym e) next))
