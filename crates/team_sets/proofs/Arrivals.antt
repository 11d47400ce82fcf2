-- The links in the order in which they connect: an arrangement of the set, of the members of the order.
use Rattle.std.proofs.Common.{◌≡◌, true, false, List, [], ◌∷◌, ◌++◌, append_assoc, append-nil, filter, refl, sym, ◌∙◌, ap, subst, inl, inr, ◌⊎◌, length}
use Rattle.std.specs.List.{AllByRecursion, IsDistinct}
use Rattle.std.proofs.lemmas.Bool.{false≢true, or_cases, or_parts}
use Rattle.std.specs.Cmp.Lexicographic.{bytes_decides}
use Rattle.team_sets.specs.Names.{Name, same_name, has_name}
use Rattle.team_sets.specs.Members.{IsIn, HaveSameMembers}
use Rattle.team_sets.specs.Order.{least, is_next, order_after, order, names}
use Rattle.team_sets.specs.OrderLaws.{IsSet, IsArrangement, IsChosenInTurn, NamesDiffer, ParentsFirst}
use Rattle.team_sets.specs.Connected.{IsConnected, joins}
use Rattle.team_sets.specs.Arrival.{arrived, arrived_after}
use Rattle.team_sets.specs.ArrivalLaws.{ArrivedExtends, ArrivedIsOrdered, ConnectsNext, StaysConnected}
use Rattle.team_sets.proofs.OrderLeast.{in_filter, of_filter, least_in, is_left, length-filter-le, has_name-placed, order_is_arrangement, order_laws}
use Rattle.team_sets.proofs.Pasts.{all_at, all_names, one_named}
use Rattle.team_sets.proofs.Parts.{filter_none, has_of_in, in_turn, in_turn-unique, name_in}
use Rattle.team_sets.proofs.Distinct.{distinct-differ}
use Rattle.team_sets.proofs.SameSet.{length_among, set-length}
use Rattle.team_sets.proofs.ConnectedLaw.{all_connected, has_connected}
use Rattle.team_sets.proofs.Connects.{connects_next, least_same, next_parts, stays_connected}

module _ {A : Type 0} where
  pub in_append-left : (xs ys : List A) (z : A) → IsIn z xs → IsIn z (xs ++ ys)
  in_append-left [] ys z k = absurd k
  in_append-left (x ∷ xs) ys z (inl e) = inl e
  in_append-left (x ∷ xs) ys z (inr k) = inr (in_append-left xs ys z k)

  all_weaker : (P Q : A → Type 0) (xs : List A) → ((x : A) → P x → Q x) → AllByRecursion P xs → AllByRecursion Q xs
  all_weaker P Q [] h all = tt
  all_weaker P Q (x ∷ xs) h all = (h x all.0, all_weaker P Q xs h all.1)

  all_append : (P : A → Type 0) (xs ys : List A) → AllByRecursion P xs → AllByRecursion P ys → AllByRecursion P (xs ++ ys)
  all_append P [] ys all more = more
  all_append P (x ∷ xs) ys all more = (all.0, all_append P xs ys all.1 more)

module _ {A : Type 0} (name : A → Name) (prev : A → List Name) where
  -- what connects when one more comes follows what had connected
  extends_after : (connected seen xs : List A) (x : A)
      → arrived_after name prev connected seen (xs ++ x ∷ [])
      ≡ arrived_after name prev connected seen xs
      ++ order_after name prev (length ((seen ++ xs) ++ x ∷ [])) (arrived_after name prev connected seen xs) ((seen ++ xs) ++ x ∷ [])
  extends_after connected seen [] x = ap (λ s. connected ++ order_after name prev (length (s ++ x ∷ [])) connected (s ++ x ∷ [])) (sym (append-nil seen))
  extends_after connected seen (y ∷ ys) x =
      let next = connected ++ order_after name prev (length (seen ++ y ∷ [])) connected (seen ++ y ∷ []) in
      subst (λ s. arrived_after name prev next (seen ++ y ∷ []) (ys ++ x ∷ [])
      ≡ arrived_after name prev next (seen ++ y ∷ []) ys ++ order_after name prev (length (s ++ x ∷ [])) (arrived_after name prev next (seen ++ y ∷ []) ys) (s ++ x ∷ []))
      (append_assoc seen (y ∷ []) ys) (extends_after next (seen ++ y ∷ []) ys x)

  extends : (links : List A) (x : A)
      → arrived name prev (links ++ x ∷ []) ≡ arrived name prev links ++ order_after name prev (length (links ++ x ∷ [])) (arrived name prev links) (links ++ x ∷ [])
  extends links x = extends_after [] [] links x

  pub first_append : (placed xs ys : List A) → ParentsFirst name prev placed xs → ParentsFirst name prev (placed ++ xs) ys → ParentsFirst name prev placed (xs ++ ys)
  first_append placed [] ys first more = subst (λ l. ParentsFirst name prev l ys) (append-nil placed) more
  first_append placed (x ∷ xs) ys first more =
      (first.0, first_append (placed ++ x ∷ []) xs ys first.1 (subst (λ l. ParentsFirst name prev l ys) (sym (append_assoc placed (x ∷ []) xs)) more))

  -- with those that connect when one more comes, it's an arrangement of what is seen then
  arranged_more : (seen connected : List A) (x : A) → IsArrangement name prev seen [] connected
      → IsArrangement name prev (seen ++ x ∷ []) [] (connected ++ order_after name prev (length (seen ++ x ∷ [])) connected (seen ++ x ∷ []))
  arranged_more seen connected x a =
      let all = seen ++ x ∷ [] in
      let more = order_is_arrangement name prev all (length all) connected (length-filter-le name prev all (is_left name prev all connected) all) in
      record {
        of_links = all_append (λ z. IsIn z (seen ++ x ∷ [])) connected (order_after name prev (length (seen ++ x ∷ [])) connected (seen ++ x ∷ []))
            (all_weaker (λ z. IsIn z seen) (λ z. IsIn z (seen ++ x ∷ [])) connected (λ z k. in_append-left seen (x ∷ []) z k) a.of_links) more.of_links;
        parents_first = first_append [] connected (order_after name prev (length (seen ++ x ∷ [])) connected (seen ++ x ∷ [])) a.parents_first more.parents_first;
        complete = more.complete;
      }

  arranged_after : (seen connected xs : List A) → IsArrangement name prev seen [] connected → IsArrangement name prev (seen ++ xs) [] (arrived_after name prev connected seen xs)
  arranged_after seen connected [] a = subst (λ s. IsArrangement name prev s [] connected) (sym (append-nil seen)) a
  arranged_after seen connected (x ∷ xs) a =
      let next = connected ++ order_after name prev (length (seen ++ x ∷ [])) connected (seen ++ x ∷ []) in
      subst (λ s. IsArrangement name prev s [] (arrived_after name prev next (seen ++ x ∷ []) xs)) (append_assoc seen (x ∷ []) xs)
      (arranged_after (seen ++ x ∷ []) next xs (arranged_more seen connected x a))

  pub arrived_arranged : (links : List A) → IsArrangement name prev links [] (arrived name prev links)
  arrived_arranged links = arranged_after [] [] links (record { of_links = tt; parents_first = tt; complete = λ x k. absurd k })

  -- a link that stands behind others wasn't one of them
  pub later_new : (placed list : List A) → ParentsFirst name prev placed list → (y : A) → IsIn y list → has_name (names name placed) (name y) ≡ false
  later_new placed [] first y k = absurd k
  later_new placed (x ∷ xs) first y (inl e) = subst (λ z. has_name (names name placed) (name z) ≡ false) e (next_parts name prev placed x first.0).0
  later_new placed (x ∷ xs) first y (inr k) =
      (or_parts (has_name (names name placed) (name y)) (same_name (name x) (name y))
      (sym (has_name-placed name prev placed placed x (name y)) ∙ later_new (placed ++ x ∷ []) xs first.1 y k)).0

  all_apart : (n : Name) (xs : List A) → ((y : A) → IsIn y xs → same_name n (name y) ≡ false) → AllByRecursion (λ m. same_name n m ≡ false) (names name xs)
  all_apart n [] h = tt
  all_apart n (x ∷ xs) h = (h x (inl refl), all_apart n xs (λ y k. h y (inr k)))

  -- where each is new behind those before it, no name stands twice
  pub first_set : (placed list : List A) → ParentsFirst name prev placed list → IsSet name list
  unfolding IsDistinct
  first_set placed [] first = tt
  first_set placed (x ∷ xs) first = (
    all_apart (name x) xs (λ y k. (or_parts (has_name (names name placed) (name y)) (same_name (name x) (name y))
        (sym (has_name-placed name prev placed placed x (name y)) ∙ later_new (placed ++ x ∷ []) xs first.1 y k)).1),
    first_set (placed ++ x ∷ []) xs first.1,
  )

  -- an arrangement of a set has each connected link of it
  pub has_joined : (links list : List A) → NamesDiffer name links → IsArrangement name prev links [] list → (x : A) → IsIn x links → IsConnected name prev links (name x) → IsIn x list
  has_joined links list differ a x k joined =
      let y = one_named name list (name x) (has_connected name prev links list a.complete (name x) joined) in
      subst (λ z. IsIn z list) (differ y.0 x (all_at (λ z. IsIn z links) list a.of_links y.0 y.1) k y.2) y.1

  pub joined : (links list : List A) → IsArrangement name prev links [] list → (n : Name) → has_name (names name list) n ≡ true → IsConnected name prev links n
  joined links list a n h = all_connected name prev links list [] (λ m k. absurd (false≢true k)) a.of_links a.parents_first n h

  -- two arrangements of a set have the same members
  pub arranged_in : (links xs ys : List A) → NamesDiffer name links → IsArrangement name prev links [] xs → IsArrangement name prev links [] ys → (x : A) → IsIn x xs → IsIn x ys
  arranged_in links xs ys differ a b x k =
      has_joined links ys differ b x (all_at (λ z. IsIn z links) xs a.of_links x k) (joined links xs a (name x) (name_in name prev xs x k (name x) refl))

  -- a link that may stand next behind connected ones is connected
  joins_behind : (links placed : List A) → ((n : Name) → has_name (names name placed) n ≡ true → IsConnected name prev links n)
      → (x : A) → IsIn x links → is_next name prev placed x ≡ true → IsConnected name prev links (name x)
  joins_behind links placed behind x k next =
      joins x (name x) k refl (λ p j. behind p (all_names (has_name (names name placed)) (prev x) p (next_parts name prev placed x next).1 (has_of_in name prev (prev x) p j)))

  joined_behind : (links placed : List A) → ((n : Name) → has_name (names name placed) n ≡ true → IsConnected name prev links n)
      → (x : A) → IsConnected name prev links (name x) → (n : Name) → has_name (names name (placed ++ x ∷ [])) n ≡ true → IsConnected name prev links n
  joined_behind links placed behind x mine n h =
      go (or_cases (has_name (names name placed) n) (same_name (name x) n) (sym (has_name-placed name prev placed placed x n) ∙ h))
    where
      go : (has_name (names name placed) n ≡ true) ⊎ (same_name (name x) n ≡ true) → IsConnected name prev links n
      go (inl e) = behind n e
      go (inr e) = subst (λ z. IsConnected name prev links z) ((bytes_decides (name x) n).0 e) mine

  -- of the links of an arrangement the same one is the least that may stand next
  same_least : (links part : List A) → NamesDiffer name links → IsArrangement name prev links [] part
      → (placed : List A) → ((n : Name) → has_name (names name placed) n ≡ true → IsConnected name prev links n)
      → least name (filter (is_next name prev placed) links) ≡ least name (filter (is_next name prev placed) part)
  same_least links part differ a placed behind =
      least_same name (filter (is_next name prev placed) links) (filter (is_next name prev placed) part)
      (λ x y k j. differ x y (of_filter (is_next name prev placed) x links k).0 (of_filter (is_next name prev placed) y links j).0) to back
    where
      to : (x : A) → IsIn x (filter (is_next name prev placed) links) → IsIn x (filter (is_next name prev placed) part)
      to x k =
          let here = of_filter (is_next name prev placed) x links k in
          in_filter (is_next name prev placed) x part (has_joined links part differ a x here.0 (joins_behind links placed behind x here.0 here.1)) here.1

      back : (x : A) → IsIn x (filter (is_next name prev placed) part) → IsIn x (filter (is_next name prev placed) links)
      back x k =
          let here = of_filter (is_next name prev placed) x part k in
          in_filter (is_next name prev placed) x links (all_at (λ z. IsIn z links) part a.of_links x here.0) here.1

  same_turn : (links part : List A) → NamesDiffer name links → IsArrangement name prev links [] part
      → (placed list : List A) → ((n : Name) → has_name (names name placed) n ≡ true → IsConnected name prev links n) → IsChosenInTurn name prev links placed list → IsChosenInTurn name prev part placed list
  same_turn links part differ a placed [] behind h = sym (same_least links part differ a placed behind) ∙ h
  same_turn links part differ a placed (x ∷ xs) behind h =
      let here = of_filter (is_next name prev placed) x links (least_in name (filter (is_next name prev placed) links) x h.0) in (
        sym (same_least links part differ a placed behind) ∙ h.0,
        same_turn links part differ a (placed ++ x ∷ []) xs (joined_behind links placed behind x (joins_behind links placed behind x here.0 here.1)) h.1,
      )

  -- the links of an arrangement have the order of the set
  pub arranged_order : (links part : List A) → NamesDiffer name links → IsArrangement name prev links [] part → order name prev part ≡ order name prev links
  arranged_order links part differ a =
      in_turn-unique name prev part [] (order name prev part) (order name prev links) (in_turn name prev part)
      (same_turn links part differ a [] (order name prev links) (λ n h. absurd (false≢true h)) (in_turn name prev links))

  pub arrived_ordered : (links : List A) → IsSet name links → ArrivedIsOrdered name prev links
  arrived_ordered links d =
      let differ = distinct-differ name links d in
      let a = arrived_arranged links in
      let b = (order_laws name prev links differ).0 in
      let set = first_set [] (arrived name prev links) a.parents_first in
      let members : HaveSameMembers (arrived name prev links) (order name prev links) = record {
        forth = arranged_in links (arrived name prev links) (order name prev links) differ a b;
        back = arranged_in links (order name prev links) (arrived name prev links) differ b a;
      } in
      record {
        arranged = a;
        set = set;
        members = members;
        count = set-length name (arrived name prev links) (order name prev links) set (first_set [] (order name prev links) b.parents_first) members;
        within = length_among name (arrived name prev links) links set (λ x k. all_at (λ z. IsIn z links) (arrived name prev links) a.of_links x k);
        same = arranged_order links (arrived name prev links) differ a;
      }

  pub arrived_extends : (links : List A) (x : A) → ArrivedExtends name prev links x
  arrived_extends links x = record { extends = extends links x; waits = waits; connects = connects }
    where
      kept : StaysConnected name prev links (arrived name prev links) x
      kept = stays_connected name prev links (arrived name prev links) x (arrived_arranged links).complete

      steps : ConnectsNext name prev (links ++ x ∷ []) (arrived name prev links)
      steps = connects_next name prev (links ++ x ∷ []) (arrived name prev links)

      waits : is_next name prev (arrived name prev links) x ≡ false → arrived name prev (links ++ x ∷ []) ≡ arrived name prev links
      waits h =
          extends links x
          ∙ ap (λ l. arrived name prev links ++ l) (steps.ends (ap (λ l. least name l) (filter_none name prev (is_next name prev (arrived name prev links)) (links ++ x ∷ []) (kept.waits h))))
          ∙ append-nil (arrived name prev links)

      connects : is_next name prev (arrived name prev links) x ≡ true → arrived name prev (links ++ x ∷ [])
          ≡ (arrived name prev links ++ x ∷ []) ++ order_after name prev (length (links ++ x ∷ [])) (arrived name prev links ++ x ∷ []) (links ++ x ∷ [])
      connects h =
          extends links x
          ∙ ap (λ l. arrived name prev links ++ l) (steps.goes_on x (ap (λ l. least name l) (kept.alone h)))
          ∙ sym (append_assoc (arrived name prev links) (x ∷ []) (order_after name prev (length (links ++ x ∷ [])) (arrived name prev links ++ x ∷ []) (links ++ x ∷ [])))
