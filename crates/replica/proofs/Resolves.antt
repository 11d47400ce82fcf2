-- What is picked of the order, by marks and judgements, are the lawful links of the part that is marked; and what stays of these is the
-- resolved list of the part.
use Rattle.std.proofs.Common.{◌≡◌, ℕ, zero, suc, ◌+◌, ◌<◌, ◌≤◌, Bool, true, false, not, ◌&&◌, ◌||◌, cond, List, [], ◌∷◌, ◌++◌, append-nil, Option, Some, None, is_none, All, refl, sym, ◌∙◌, ap, subst, inl, inr, length, take, map, filter, get_or, slice_get, unwrap_or, nat_lt, ltb-true, ltb-false, arith}
use Rattle.std.specs.Option.{option_map_or}
use Rattle.std.proofs.lemmas.Bool.{false≢true, and_from, and_parts}
use Rattle.std.proofs.lemmas.List.Elements.{All-filter, filter_more}
use Rattle.team_sets.specs.Names.{Name, has_name}
use Rattle.team_sets.specs.Members.{IsIn}
use Rattle.team_sets.specs.Order.{names}
use Rattle.team_sets.specs.OrderLaws.{IsSet}
use Rattle.team_sets.specs.Places.{least_place, lesser_place, place_lt}
use Rattle.team_sets.proofs.Ancestors.{order_first}
use Rattle.team_sets.proofs.Arrivals.{first_set}
use Rattle.team_sets.proofs.OrderLeast.{in_filter, of_filter}
use Rattle.team_sets.proofs.SameSet.{set-filter}
use Rattle.team_model.specs.Strikes.{brings_user, is_striking}
use Rattle.team_model.specs.CountingLaws.{BringIn}
use Rattle.team_model.specs.Judging.{name_of, prev_of, order_of, place_of, lawful, resolved, resolved_from, standing_strikers, stays, team_rules, unlawful_reason}
use Rattle.team_model.specs.declared.terms.Link.{Link}
use Rattle.team_model.specs.declared.terms.Reason.{Reason}
use Rattle.team_model.proofs.Brought.{rank_defined}
use Rattle.team_model.proofs.OfOrder.{place-alike}
use Rattle.team_model.proofs.PastTeams.{filter_comm}
use Rattle.link_graph.specs.Held.{arrived_of}
use Rattle.link_graph.specs.Positions.{at_places}
use Rattle.replica.specs.Judged.{AreJudged, ArePartOf, is_lawful_at, is_picked}
use Rattle.replica.specs.Resolving.{IsResolved}
use Rattle.replica.specs.Settling.{AllBrought, AreLawful, IsSettled, first_brought, stays_at}
use Rattle.replica.specs.declared.resolving.Resolved.{Resolved}
use Rattle.replica.specs.declared.settling.Settled.{Settled}
use Rattle.replica.proofs.Alike.{firsts-alike}
use Rattle.link_graph.proofs.Arrived.{at_order, differ, in_back, ordered}
use Rattle.replica.proofs.Judgements.{lawful_at}
use Rattle.link_graph.proofs.Marks.{map_at}
use Rattle.replica.proofs.Parts.{lawful_part, of_lawful_part, part_connected, part_differ, resolved_part}
use Rattle.link_graph.proofs.Picks.{picked_filter}
use Rattle.replica.proofs.Seniorities.{at_place_in}

filter_both : {A : Type 0} (p q : A → Bool) (xs : List A) → filter (λ x. p x && q x) xs ≡ filter q (filter p xs)
filter_both p q [] = refl
filter_both p q (x ∷ xs) = go (p x) (filter_both p q xs)
  where
    go : (b : Bool) → filter (λ x. p x && q x) xs ≡ filter q (filter p xs)
        → cond (b && q x) (x ∷ filter (λ x. p x && q x) xs) (filter (λ x. p x && q x) xs) ≡ filter q (cond b (x ∷ filter p xs) (filter p xs))
    go true e = ap (λ l. cond (q x) (x ∷ l) l) e
    go false e = e

-- one more position
pub pick_more : (p : ℕ → Bool) (xs : List ℕ) (i d : ℕ) (old new : List ℕ) (b : Bool) → i < length xs → old ≡ filter p (take i xs) → b ≡ p (get_or xs i d) → b ≡ true → new ≡ old ++ get_or xs i d ∷ []
    → new ≡ filter p (take (i + 1) xs)
pick_more p xs i d old new b h before answer passes is =
    is ∙ ap (λ l. l ++ get_or xs i d ∷ []) before
    ∙ sym (filter_more p xs i d h ∙ ap (λ c. filter p (take i xs) ++ cond c (get_or xs i d ∷ []) []) (sym answer ∙ passes))

pub pick_none : (p : ℕ → Bool) (xs : List ℕ) (i d : ℕ) (old new : List ℕ) (b : Bool) → i < length xs → old ≡ filter p (take i xs) → b ≡ p (get_or xs i d) → b ≡ false → new ≡ old
    → new ≡ filter p (take (i + 1) xs)
pick_none p xs i d old new b h before answer fails is =
    is ∙ before ∙ sym (filter_more p xs i d h ∙ ap (λ c. filter p (take i xs) ++ cond c (get_or xs i d ∷ []) []) (sym answer ∙ fails) ∙ append-nil (filter p (take i xs)))

-- the least of some places
some_least : (ps : List (ℕ × Name)) (p d : ℕ × Name) → IsIn p ps → least_place ps ≡ Some (unwrap_or (least_place ps) d)
some_least [] p d k = absurd k
some_least (q ∷ qs) p d k = go (least_place qs)
  where
    choose : (b : Bool) (r : ℕ × Name) → cond b (Some r) (Some q) ≡ Some (unwrap_or (cond b (Some r) (Some q)) d)
    choose true r = refl
    choose false r = refl

    go : (o : Option (ℕ × Name)) → lesser_place q o ≡ Some (unwrap_or (lesser_place q o) d)
    go None = refl
    go (Some r) = choose (place_lt r q) r

in_map : {A B : Type 0} (f : A → B) (xs : List A) (x : A) → IsIn x xs → IsIn (f x) (map f xs)
in_map f [] x k = absurd k
in_map f (y ∷ ys) x (inl e) = inl (ap f e)
in_map f (y ∷ ys) x (inr k) = inr (in_map f ys x k)

module _ (links : List Link) (set_of : IsSet name_of links) (judged : List (Option Reason)) (are : AreJudged links judged) (marked : List Bool) (part : Link → Bool)
    (is : ArePartOf links (length judged) part marked) where
  abbrev is_lawful : Link → Bool
  is_lawful x = is_none (unlawful_reason team_rules links x)

  -- the lawful links of the part
  abbrev kept : List Link
  kept = filter part (lawful team_rules links)

  picked_is : (q : ℕ) (x : Link) → slice_get (arrived_of links) q ≡ Some x → is_picked marked judged q ≡ (part x && is_lawful x)
  picked_is q x at =
      ap (λ b. b && is_lawful_at judged q) (ap (λ l. get_or l q false) is.flags_are ∙ map_at part (arrived_of links) q x false at) ∙ go (part x) refl
    where
      early : (b : Bool) → nat_lt q (length judged) ≡ b → part x ≡ true → q < length judged
      early true e p = ltb-true q (length judged) e
      early false e p =
          let late : length judged ≤ q = ltb-false q (length judged) e in
          absurd (false≢true (sym (is.early x (in_back (arrived_of links) (length judged) q x at late)) ∙ p))

      go : (b : Bool) → part x ≡ b → (b && is_lawful_at judged q) ≡ (b && is_lawful x)
      go true e = lawful_at links judged are q x (early (nat_lt q (length judged)) refl e) at
      go false e = refl

  pub lawful_picked : (order found : List ℕ) → at_places (arrived_of links) order ≡ order_of links → found ≡ filter (is_picked marked judged) order → at_places (arrived_of links) found ≡ kept
  lawful_picked order found all so =
      ap (λ l. at_places (arrived_of links) l) so
      ∙ picked_filter (arrived_of links) (is_picked marked judged) (λ x. part x && is_lawful x) order (λ i d x h e. picked_is (get_or order i d) x e)
      ∙ ap (λ l. filter (λ x. part x && is_lawful x) l) all
      ∙ filter_both part is_lawful (order_of links)
      ∙ filter_comm is_lawful part (order_of links)

  of_kept : (x : Link) → IsIn x kept → IsIn x (order_of links) × (is_lawful x ≡ true) × (part x ≡ true)
  of_kept x k =
      let one = of_filter part x (lawful team_rules links) k in
      let two = of_filter is_lawful x (order_of links) one.0 in
      (two.0, two.1, one.1)

  brought : BringIn team_rules → AllBrought links kept
  brought bring x k =
      let sub : List Link = filter part links in
      let same = part_connected team_rules links (differ links set_of) part is.parents in
      let in_part = of_lawful_part team_rules links (differ links set_of) part is.parents in
      let y = rank_defined team_rules bring sub (part_differ team_rules links (differ links set_of) part is.parents) x
      (subst (λ l. IsIn x l) (sym (lawful_part team_rules links (differ links set_of) part is.parents)) k) in
      let in_kept : IsIn y.0 kept = subst (λ l. IsIn y.0 l) (lawful_part team_rules links (differ links set_of) part is.parents) y.1.is_lawful in
      let bringers : List Link = filter (λ z. brings_user z.entry x.entry.user) kept in
      let place : unwrap_or (first_brought links kept x.entry.user) (0, []) ≡ place_of links y.0 =
      ap (λ o. unwrap_or o (0, [])) (sym (firsts-alike team_rules sub links same kept in_part x.entry.user))
      ∙ ap (λ l. unwrap_or (least_place (map (place_of sub) (filter (λ z. brings_user z.entry x.entry.user) l))) (0, [])) (sym (lawful_part team_rules links (differ links set_of) part is.parents))
      ∙ y.1.place ∙ place-alike team_rules sub links same y.0 (in_part y.0 in_kept) in (
        y.0,
        in_kept,
        some_least (map (place_of links) bringers) (place_of links y.0) (0, []) (in_map (place_of links) bringers y.0 (in_filter (λ z. brings_user z.entry x.entry.user) y.0 kept in_kept y.1.brings))
            ∙ ap (λ p. Some p) place,
      )

  pub are_lawful : BringIn team_rules → AreLawful links judged marked kept
  are_lawful bring = record {
    set = set-filter name_of part (lawful team_rules links)
        (set-filter name_of is_lawful (order_of links) (first_set name_of prev_of [] (order_of links) (order_first name_of prev_of links (differ links set_of))));
    picked = λ i x at. (
      λ k. let of = of_kept x k in picked_is i x at ∙ and_from (part x) (is_lawful x) of.2 of.1,
      λ h. let tests = and_parts (part x) (is_lawful x) (sym (picked_is i x at) ∙ h) in
          in_filter part x (lawful team_rules links) (in_filter is_lawful x (order_of links) (at_order links set_of i x at) tests.1) tests.0,
    );
    connected = λ x k. (ordered links set_of).members.back x (of_kept x k).0;
    brought = brought bring;
  }

  -- what stays of them is the resolved list of the part
  module _ (places found : List ℕ) (list : at_places (arrived_of links) places ≡ kept) (settled : Settled) (so : IsSettled links (at_places (arrived_of links) places) settled)
      (stay : found ≡ filter (stays_at links settled) places) where
    abbrev xs : List Link
    xs = at_places (arrived_of links) places

    abbrev stood : List Link
    stood = standing_strikers team_rules links xs

    stays_is : (i d : ℕ) (x : Link) → i < length places → slice_get (arrived_of links) (get_or places i d) ≡ Some x → stays_at links settled (get_or places i d) ≡ stays team_rules links xs stood x
    stays_is i d x h at =
        ap (λ b. (not b || get_or settled.standing.items (get_or places i d) false) && not (get_or settled.struck.items (get_or places i d) false))
        (ap (λ o. option_map_or (λ z. is_striking z.entry.act) o false) at)
        ∙ ap (λ b. (not (is_striking x.entry.act) || b) && not (get_or settled.struck.items (get_or places i d) false)) (so.standing (get_or places i d) x at)
        ∙ ap (λ b. (not (is_striking x.entry.act) || has_name (names name_of stood) x.name) && not b)
        (so.struck (get_or places i d) x at (at_place_in (arrived_of links) places i (get_or places i d) x (place_at places i h) at))
      where
        place_at : (ps : List ℕ) (i : ℕ) → i < length ps → slice_get ps i ≡ Some (get_or ps i d)
        place_at [] i less = absurd (omega (arith, less))
        place_at (p ∷ ps) zero less = refl
        place_at (p ∷ ps) (suc i) less = place_at ps i (omega (arith, less))

    pub resolves : at_places (arrived_of links) found ≡ resolved team_rules (filter part links)
    resolves =
        ap (λ l. at_places (arrived_of links) l) stay
        ∙ picked_filter (arrived_of links) (stays_at links settled) (stays team_rules links xs stood) places stays_is
        ∙ ap (λ l. resolved_from team_rules links l) list
        ∙ sym (resolved_part team_rules links (differ links set_of) part is.parents)

-- what is found of each such part
pub is_resolved : (links : List Link) → IsSet name_of links → (judged : List (Option Reason)) → AreJudged links judged → (marked : List Bool) (places found : List ℕ)
    → All (λ p. p < length (arrived_of links)) places → ((part : Link → Bool) → ArePartOf links (length judged) part marked → at_places (arrived_of links) places ≡ filter part (lawful team_rules links))
    → (settled : Settled) → IsSettled links (at_places (arrived_of links) places) settled → found ≡ filter (stays_at links settled) places
    → (it : Resolved) → it.positions.items ≡ found → it.settled ≡ settled → IsResolved links (length judged) marked it
is_resolved links set_of judged are marked places found given of_part settled so stay it positions same = record {
  given = subst (λ l. All (λ p. p < length (arrived_of links)) l) (sym (positions ∙ stay)) (All-filter (stays_at links settled) (λ p. p < length (arrived_of links)) places given);
  positions = λ part is. ap (λ l. at_places (arrived_of links) l) positions ∙ resolves links set_of judged are marked part is places found (of_part part is) settled so stay;
  settled = λ part is. subst (λ t. IsSettled links (filter part (lawful team_rules links)) t) (sym same) (subst (λ l. IsSettled links l settled) (of_part part is) so);
}
