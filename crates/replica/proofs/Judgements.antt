-- Judgements stay when a link comes, and the next one is found in the team of what is judged already.
use Rattle.std.proofs.Common.{◌≡◌, ℕ, zero, suc, ◌+◌, ◌<◌, ◌≤◌, false, List, [], ◌∷◌, ◌++◌, Option, Some, None, is_none, refl, sym, ◌∙◌, ap, subst, length, take, map, slice_get, add-one, arith}
use Rattle.std.specs.Option.{option_map_or}
use Rattle.std.proofs.lemmas.List.{length-map, length_push, map-append, take_all}
use Rattle.team_sets.specs.Order.{order_after}
use Rattle.team_sets.specs.OrderLaws.{IsSet}
use Rattle.team_sets.proofs.Arrivals.{arrived_extends}
use Rattle.team_sets.proofs.Stays.{past-stays}
use Rattle.team_model.specs.Judging.{name_of, prev_of, team, team_rules, unlawful_reason}
use Rattle.team_model.specs.declared.terms.Link.{Link}
use Rattle.team_model.specs.declared.terms.Reason.{Reason}
use Rattle.team_model.proofs.OfOrder.{map_alike}
use Rattle.link_graph.specs.Held.{arrived_of}
use Rattle.link_graph.specs.Webs.{without_last}
use Rattle.link_graph.proofs.NextOnes.{split_last}
use Rattle.link_graph.proofs.Webbing.{set_parts}
use Rattle.replica.specs.Judged.{AreJudged, is_lawful_at}
use Rattle.replica.specs.Views.{judgements}
use Rattle.link_graph.proofs.Arrived.{differ, to_order}

judged_push : (links : List Link) (z : Link) → IsSet name_of (links ++ z ∷ []) → AreJudged (links ++ z ∷ []) (judgements links)
judged_push links z set_of =
    let parts = set_parts links z set_of in
    let more = order_after name_of prev_of (length (links ++ z ∷ [])) (arrived_of links) (links ++ z ∷ []) in
    let grows : arrived_of (links ++ z ∷ []) ≡ arrived_of links ++ more = (arrived_extends name_of prev_of links z).extends in
    let same : map (unlawful_reason team_rules (links ++ z ∷ [])) (arrived_of links) ≡ judgements links =
    map_alike (unlawful_reason team_rules (links ++ z ∷ [])) (unlawful_reason team_rules links) (arrived_of links)
    (λ x k. ap (λ l. team_rules.refusal (team team_rules l) x.entry) (past-stays name_of prev_of links z (differ links parts.0) parts.1 x (to_order links parts.0 x k))) in
    sym (ap (λ l. take (length (judgements links)) (map (unlawful_reason team_rules (links ++ z ∷ [])) l)) grows
    ∙ ap (λ l. take (length (judgements links)) l) (map-append (unlawful_reason team_rules (links ++ z ∷ [])) (arrived_of links) more)
    ∙ ap (λ l. take (length (judgements links)) (l ++ map (unlawful_reason team_rules (links ++ z ∷ [])) more)) same
    ∙ take_front (judgements links) (map (unlawful_reason team_rules (links ++ z ∷ [])) more))
  where
    take_front : (xs ys : List (Option Reason)) → take (length xs) (xs ++ ys) ≡ xs
    take_front [] ys = refl
    take_front (x ∷ xs) ys = ap (λ l. x ∷ l) (take_front xs ys)

-- what was judged without the last link is judged with it
pub judged_before : (links : List Link) (known : List (Option Reason)) → 0 < length links → IsSet name_of links → known ≡ judgements (without_last links) → AreJudged links known
judged_before links known some set_of is =
    let z = split_last links some in
    subst (λ k. AreJudged links k) (sym is)
    (subst (λ l. AreJudged l (judgements (without_last links))) (sym z.1) (judged_push (without_last links) z.0 (subst (λ l. IsSet name_of l) z.1 set_of)))

module _ (links : List Link) (judged : List (Option Reason)) (are : AreJudged links judged) where
  -- at most all connected links are judged
  pub judged_few : length judged ≤ length (arrived_of links)
  judged_few =
      let cut = length_take (length judged) (judgements links) in
      let all = length-map (arrived_of links) (unlawful_reason team_rules links) in
      omega (arith, ap length are, cut, all)
    where
      length_take : (n : ℕ) (xs : List (Option Reason)) → length (take n xs) ≤ length xs
      length_take zero xs = omega arith
      length_take (suc n) [] = omega arith
      length_take (suc n) (x ∷ xs) = let h = length_take n xs in omega (arith, h)

  -- a judgement is that of the link of its position
  pub judged_at : (i : ℕ) (x : Link) → i < length judged → slice_get (arrived_of links) i ≡ Some x → slice_get judged i ≡ Some (unlawful_reason team_rules links x)
  judged_at i x h at = ap (λ l. slice_get l i) are ∙ at_front (length judged) (arrived_of links) i x h at
    where
      at_front : (n : ℕ) (xs : List Link) (i : ℕ) (x : Link) → i < n → slice_get xs i ≡ Some x → slice_get (take n (map (unlawful_reason team_rules links) xs)) i ≡ Some (unlawful_reason team_rules links x)
      at_front n [] i x h e = absurd (let bad : ◌≡◌ {A = Option Link} None (Some x) = e in cc)
      at_front zero (y ∷ ys) i x h e = absurd (omega arith)
      at_front (suc n) (y ∷ ys) zero x h e = let same : y ≡ x = cc in ap (λ (z : Link). Some (unlawful_reason team_rules links z)) same
      at_front (suc n) (y ∷ ys) (suc i) x h e = at_front n ys i x (omega arith) e

  pub lawful_at : (i : ℕ) (x : Link) → i < length judged → slice_get (arrived_of links) i ≡ Some x → is_lawful_at judged i ≡ is_none (unlawful_reason team_rules links x)
  lawful_at i x h at = ap (λ o. option_map_or (λ r. is_none r) o false) (judged_at i x h at)

  -- one more judgement
  pub judged_more : (x : Link) (o : Option Reason) (new : List (Option Reason)) → slice_get (arrived_of links) (length judged) ≡ Some x → o ≡ unlawful_reason team_rules links x
      → new ≡ judged ++ o ∷ [] → AreJudged links new
  judged_more x o new at answer is =
      let size : length new ≡ length judged + 1 = ap length is ∙ length_push judged o in
      is ∙ ap (λ r. judged ++ r ∷ []) answer ∙ ap (λ l. l ++ unlawful_reason team_rules links x ∷ []) are ∙ next (length judged) (arrived_of links) at
      ∙ ap (λ n. take n (judgements links)) (sym size)
    where
      next : (n : ℕ) (xs : List Link) → slice_get xs n ≡ Some x
          → take n (map (unlawful_reason team_rules links) xs) ++ unlawful_reason team_rules links x ∷ [] ≡ take (n + 1) (map (unlawful_reason team_rules links) xs)
      next n [] e = absurd (let bad : ◌≡◌ {A = Option Link} None (Some x) = e in cc)
      next zero (y ∷ ys) e = let same : y ≡ x = cc in ap (λ (z : Link). unlawful_reason team_rules links z ∷ []) (sym same)
      next (suc n) (y ∷ ys) e = rw add-one (ap (λ l. unlawful_reason team_rules links y ∷ l) (rw add-one at (next n ys e)))

  pub all_judged : length (arrived_of links) ≤ length judged → judged ≡ judgements links
  all_judged h = are ∙ take_all (length judged) (judgements links) (let all = length-map (arrived_of links) (unlawful_reason team_rules links) in omega (arith, h, all))
