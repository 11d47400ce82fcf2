-- The team of a past, as it is found: from the parents with their pasts, or from the one parent before it.
use Rattle.std.proofs.Common.{◌≡◌, ◌-◌, ◌<◌, ◌≤◌, ℕ, Bool, true, cond, List, [], ◌∷◌, Option, Some, sym, ◌∙◌, ap, length, map, filter, get_or, slice_get, arith}
use Rattle.sha2.specs.Sha256.{sha256}
use Rattle.team_sets.specs.Names.{Name, same_name}
use Rattle.team_sets.specs.OrderLaws.{IsSet}
use Rattle.team_sets.proofs.Pasts.{same_name-is}
use Rattle.team_model.specs.ActTable.{after, effect_by}
use Rattle.team_model.specs.Judging.{name_of, fold_team, past_of, resolved, team, team_rules}
use Rattle.team_model.specs.KeyLines.{lined}
use Rattle.team_model.specs.State.{State}
use Rattle.team_model.specs.declared.terms.Link.{Link}
use Rattle.team_model.proofs.Brought.{team_brings_in}
use Rattle.team_model.proofs.Teams.{team_is_fold}
use Rattle.link_graph.specs.Held.{arrived_of}
use Rattle.link_graph.specs.Positions.{at_places}
use Rattle.replica.specs.Below.{is_below, with_pasts}
use Rattle.replica.specs.Judged.{AreGiven, ArePartOf, FollowsOne, IsPastOf}
use Rattle.link_graph.proofs.Arrived.{at_order, differ}
use Rattle.replica.proofs.Belows.{below_closed, below_early, past_below}
use Rattle.replica.proofs.Follows.{RefusedStays, team_follows}
use Rattle.replica.proofs.Parts.{part_differ}

one_parent : (ns : List Name) (p : Name) → 1 ≤ length ns → length ns < 2 → p ≡ get_or ns 0 p → ns ≡ p ∷ []
one_parent [] p some few e = absurd (omega arith)
one_parent (n ∷ []) p some few e = ap (λ m. m ∷ []) (sym e)
one_parent (n ∷ m ∷ ms) p some few e = absurd (omega arith)

-- the one parent of a link is the link before it
pub follows_one : (links : List Link) (p : ℕ) (link before : Link) (ns : List Name) (parent : Name) → slice_get (arrived_of links) p ≡ Some link → slice_get (arrived_of links) (p - 1) ≡ Some before
    → ns ≡ link.prev → 1 ≤ length ns → length ns < 2 → parent ≡ get_or ns 0 parent → same_name parent before.name ≡ true → FollowsOne links p
follows_one links p link before ns parent here back parents some few read same x y at there =
    let one : ◌≡◌ {A = Option Link} (Some link) (Some x) = sym here ∙ at in
    let two : ◌≡◌ {A = Option Link} (Some before) (Some y) = sym back ∙ there in
    let is_x : link ≡ x = cc in
    let is_y : before ≡ y = cc in
    ap (λ (z : Link). z.prev) (sym is_x) ∙ sym parents ∙ one_parent ns parent some few read ∙ ap (λ n. n ∷ []) (same_name-is parent before.name same ∙ ap (λ (z : Link). z.name) is_y)

refused_stays : RefusedStays team_rules
refused_stays s e h = ap (λ b. cond b (lined (effect_by sha256 s e e.act) e) s) h

module _ (links : List Link) (set_of : IsSet name_of links) where
  -- from the parents
  pub from_parents : (p : ℕ) (x : Link) (s : State) → slice_get (arrived_of links) p ≡ Some x → s ≡ team team_rules (with_pasts links x.prev) → IsPastOf links p s
  from_parents p x s here is z at =
      let one : ◌≡◌ {A = Option Link} (Some x) (Some z) = sym here ∙ at in
      let same : x ≡ z = cc in
      is ∙ ap (λ l. team team_rules l) (past_below links set_of x (at_order links set_of p x here)) ∙ ap (λ (w : Link). team team_rules (past_of links w)) same

  -- from the one parent
  pub from_one : (p : ℕ) (y : Link) (last new : State) → slice_get (arrived_of links) (p - 1) ≡ Some y → FollowsOne links p → IsPastOf links (p - 1) last → new ≡ after last y.entry
      → IsPastOf links p new
  from_one p y last new there follows before is x at =
      is ∙ ap (λ s. after s y.entry) (before y there)
      ∙ sym (team_follows links (differ links set_of) x y (at_order links set_of p x at) (at_order links set_of (p - 1) y there) (follows x y at there) team_rules refused_stays
      (team_brings_in sha256))

  -- the marks of links with their pasts are those of a part
  pub below_is_part : (n : ℕ) (heads : List Name) (marked : List Bool) → AreGiven links n heads → marked ≡ map (λ x. is_below links heads x.name) (arrived_of links)
      → ArePartOf links n (λ x. is_below links heads x.name) marked
  below_is_part n heads marked given is = record {
    flags_are = is;
    parents = below_closed links set_of n heads given;
    early = below_early links set_of n heads given;
  }

  -- and their fold is the team of these links
  pub team_is : (n : ℕ) (heads : List Name) (marked : List Bool) (places : List ℕ) (s : State) → AreGiven links n heads → marked ≡ map (λ x. is_below links heads x.name) (arrived_of links)
      → ((part : Link → Bool) → ArePartOf links n part marked → at_places (arrived_of links) places ≡ resolved team_rules (filter part links))
      → s ≡ fold_team team_rules (at_places (arrived_of links) places) → s ≡ team team_rules (with_pasts links heads)
  team_is n heads marked places s given is resolves folded =
      folded ∙ ap (λ l. fold_team team_rules l) (resolves (λ x. is_below links heads x.name) (below_is_part n heads marked given is))
      ∙ sym (team_is_fold team_rules (with_pasts links heads) (part_differ team_rules links (differ links set_of) (λ x. is_below links heads x.name) (below_closed links set_of n heads given)))
