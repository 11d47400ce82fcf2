-- Strikes stay when a link comes.
use Rattle.std.proofs.Common.{◌≡◌, ℕ, zero, suc, ◌<◌, Bool, true, false, not, ◌&&◌, List, [], ◌∷◌, ◌++◌, Option, Some, None, slice_get, length, refl, sym, ◌∙◌, ap, subst, arith}
use Rattle.std.specs.Option.{option_map_or}
use Rattle.std.proofs.lemmas.Bool.{and_parts}
use Rattle.std.proofs.lemmas.List.{length-map}
use Rattle.sha2.specs.Sha256.{sha256}
use Rattle.team_sets.specs.Names.{has_name, same_name}
use Rattle.team_sets.specs.Members.{IsIn}
use Rattle.team_sets.specs.Ancestry.{is_before}
use Rattle.team_sets.specs.Order.{names, order_after}
use Rattle.team_sets.specs.OrderLaws.{IsSet}
use Rattle.team_sets.proofs.Ancestors.{in_at}
use Rattle.team_sets.proofs.Arrivals.{arrived_extends}
use Rattle.team_sets.proofs.Stays.{before-stays}
use Rattle.team_model.specs.Strikes.{is_striking, strikes_by}
use Rattle.team_model.specs.Judging.{name_of, order_of, prev_of, strikes_in, team_rules, unlawful_reason}
use Rattle.team_model.specs.declared.terms.Link.{Link}
use Rattle.team_model.specs.declared.terms.Reason.{Reason}
use Rattle.link_graph.specs.Held.{arrived_of}
use Rattle.link_graph.specs.Webs.{without_last}
use Rattle.link_graph.proofs.NextOnes.{split_last}
use Rattle.link_graph.proofs.Webbing.{set_parts}
use Rattle.replica.specs.Judged.{is_lawful_at}
use Rattle.replica.specs.Kept.{AreAllJudged}
use Rattle.replica.specs.Striking.{AreStrikes, AreStriking, IsJudged, is_striker_at, link_strikes, strikes_any, strikes_between}
use Rattle.replica.specs.declared.judged.Judged.{Judged}
use Rattle.link_graph.proofs.Arrived.{differ, to_order}
use Rattle.replica.proofs.Judgements.{judged_before}
use Rattle.replica.proofs.Noting.{lawful_within}
use Rattle.link_graph.proofs.Picks.{some_at}

in_front : (xs ys : List Link) (i : ℕ) (x : Link) → slice_get xs i ≡ Some x → slice_get (xs ++ ys) i ≡ Some x
in_front [] ys i x e = absurd (let bad : ◌≡◌ {A = Option Link} None (Some x) = e in cc)
in_front (w ∷ ws) ys zero x e = e
in_front (w ∷ ws) ys (suc i) x e = in_front ws ys i x e

module _ (links : List Link) (z : Link) (set : IsSet name_of links) (fresh : has_name (names name_of links) z.name ≡ false) where
  strikes_last : (x y : Link) → IsIn x (order_of links) → IsIn y (order_of links) → strikes_in (links ++ z ∷ []) x y ≡ strikes_in links x y
  strikes_last x y k j =
      ap (λ b. (not (same_name x.name y.name) && not b && not (is_before name_of prev_of (links ++ z ∷ []) y.name x)) && strikes_by sha256 x.entry y.entry)
      (before-stays name_of prev_of links z (differ links set) fresh y j x.name)
      ∙ ap (λ b. (not (same_name x.name y.name) && not (is_before name_of prev_of links x.name y) && not b) && strikes_by sha256 x.entry y.entry)
      (before-stays name_of prev_of links z (differ links set) fresh x k y.name)

  here_too : (i : ℕ) (x : Link) → slice_get (arrived_of links) i ≡ Some x → slice_get (arrived_of (links ++ z ∷ [])) i ≡ Some x
  here_too i x e =
      ap (λ l. slice_get l i) (arrived_extends name_of prev_of links z).extends
      ∙ in_front (arrived_of links) (order_after name_of prev_of (length (links ++ z ∷ [])) (arrived_of links) (links ++ z ∷ [])) i x e

  link_strikes_last : (a b : ℕ) (x y : Link) → slice_get (arrived_of links) a ≡ Some x → slice_get (arrived_of links) b ≡ Some y → link_strikes (links ++ z ∷ []) a b ≡ link_strikes links a b
  link_strikes_last a b x y e f =
      ap (λ o. option_map_or (λ v. option_map_or (λ w. strikes_in (links ++ z ∷ []) v w) (slice_get (arrived_of (links ++ z ∷ [])) b) false) o false) (here_too a x e)
      ∙ ap (λ o. option_map_or (λ w. strikes_in (links ++ z ∷ []) x w) o false) (here_too b y f)
      ∙ strikes_last x y (to_order links set x (in_at (arrived_of links) a x e)) (to_order links set y (in_at (arrived_of links) b y f))
      ∙ sym (ap (λ o. option_map_or (λ v. option_map_or (λ w. strikes_in links v w) (slice_get (arrived_of links) b) false) o false) e ∙ ap (λ o. option_map_or (λ w. strikes_in links x w) o false) f)

  strikes_pushed : (reasons : List (Option Reason)) (pairs : List (ℕ × ℕ)) → length reasons ≡ length (arrived_of links) → AreStrikes links reasons pairs → AreStrikes (links ++ z ∷ []) reasons pairs
  strikes_pushed reasons pairs size are a b = are a b ∙ go (is_lawful_at reasons a && is_lawful_at reasons b) refl
    where
      go : (c : Bool) → (is_lawful_at reasons a && is_lawful_at reasons b) ≡ c → strikes_between links reasons a b ≡ strikes_between (links ++ z ∷ []) reasons a b
      go false e = ap (λ d. d && link_strikes links a b) e ∙ sym (ap (λ d. d && link_strikes (links ++ z ∷ []) a b) e)
      go true e =
          let both = and_parts (is_lawful_at reasons a) (is_lawful_at reasons b) e in
          let one : a < length reasons = lawful_within reasons a both.0 in
          let two : b < length reasons = lawful_within reasons b both.1 in
          let x = some_at (arrived_of links) a (omega (arith, one, size)) in
          let y = some_at (arrived_of links) b (omega (arith, two, size)) in
          ap (λ d. (is_lawful_at reasons a && is_lawful_at reasons b) && d) (sym (link_strikes_last a b x.0 y.0 x.1 y.1))

  strikes_any_last : (p : ℕ) → p < length (arrived_of links) → strikes_any (links ++ z ∷ []) p ≡ strikes_any links p
  strikes_any_last p h =
      let x = some_at (arrived_of links) p h in
      ap (λ o. option_map_or (λ w. is_striking w.entry.act) o false) (here_too p x.0 x.1 ∙ sym x.1)

  striking_pushed : (reasons : List (Option Reason)) (ps : List ℕ) → length reasons ≡ length (arrived_of links) → AreStriking links reasons ps → AreStriking (links ++ z ∷ []) reasons ps
  striking_pushed reasons ps size are p = are p ∙ go (is_lawful_at reasons p) refl
    where
      go : (c : Bool) → is_lawful_at reasons p ≡ c → is_striker_at links reasons p ≡ is_striker_at (links ++ z ∷ []) reasons p
      go false e = ap (λ d. d && strikes_any links p) e ∙ sym (ap (λ d. d && strikes_any (links ++ z ∷ []) p) e)
      go true e =
          let here : p < length reasons = lawful_within reasons p e in
          ap (λ d. is_lawful_at reasons p && d) (sym (strikes_any_last p (omega (arith, here, size))))

-- what was found without the last link is found with it
pub found_before : (links : List Link) (known : Judged) → 0 < length links → IsSet name_of links → AreAllJudged (without_last links) known → IsJudged links known
found_before links known some set_of is =
    let z = split_last links some in
    let parts = set_parts (without_last links) z.0 (subst (λ l. IsSet name_of l) z.1 set_of) in
    record {
      reasons = judged_before links known.reasons.items some set_of is.reasons;
      strikers = subst (λ l. AreStriking l known.reasons.items known.strikers.items) (sym z.1)
          (striking_pushed (without_last links) z.0 parts.0 parts.1 known.reasons.items known.strikers.items
          (ap length is.reasons ∙ length-map (arrived_of (without_last links)) (unlawful_reason team_rules (without_last links))) is.strikers);
      strikes = subst (λ l. AreStrikes l known.reasons.items known.strikes.items) (sym z.1)
          (strikes_pushed (without_last links) z.0 parts.0 parts.1 known.reasons.items known.strikes.items
          (ap length is.reasons ∙ length-map (arrived_of (without_last links)) (unlawful_reason team_rules (without_last links))) is.strikes);
    }
