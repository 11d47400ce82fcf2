-- Settlement of some links is the same in two sets that say the same of them.
use Rattle.std.proofs.Common.{◌≡◌, not, ◌&&◌, ◌||◌, List, [], filter, map, unwrap_or, ◌∙◌, ap}
use Rattle.team_sets.specs.Names.{Name, has_name}
use Rattle.team_sets.specs.Members.{IsIn}
use Rattle.team_sets.specs.Places.{place_lt, least_place}
use Rattle.team_sets.specs.WaitingLaws.{HaveSameConnected}
use Rattle.team_sets.proofs.Lists.{any_alike, filter_alike}
use Rattle.team_sets.proofs.Decisions.{standing-members}
use Rattle.team_sets.proofs.OrderLeast.{of_filter}
use Rattle.team_sets.proofs.SameRanks.{standing-alike}
use Rattle.team_model.specs.Strikes.{brings_user, is_striking}
use Rattle.team_model.specs.Judging.{Rules, is_senior, name_of, order_of, place_of, prev_of, resolved_from, seniority, standing_strikers, stays, strikers, strikes_among}
use Rattle.team_model.specs.declared.terms.Link.{Link}
use Rattle.team_model.proofs.OfOrder.{map_alike, place-alike, strikes-alike}

module _ (rules : Rules) (links others : List Link) (same : HaveSameConnected name_of prev_of links others) (kept : List Link) (of : (x : Link) → IsIn x kept → IsIn x (order_of links)) where
  -- the same places bring users in
  pub firsts-alike : (u : Name) → least_place (map (place_of links) (filter (λ x. brings_user x.entry u) kept)) ≡ least_place (map (place_of others) (filter (λ x. brings_user x.entry u) kept))
  firsts-alike u =
      ap (λ l. least_place l)
      (map_alike (place_of links) (place_of others) (filter (λ x. brings_user x.entry u) kept) (λ x k. place-alike rules links others same x (of x (of_filter (λ x. brings_user x.entry u) x kept k).0)))

  senior-alike : (x y : Link) → IsIn x kept → IsIn y kept → is_senior links kept x y ≡ is_senior others kept x y
  senior-alike x y k j = λ i.
      place_lt (seniority-alike x.entry.user i) (seniority-alike y.entry.user i)
      || (not (place_lt (seniority-alike y.entry.user i) (seniority-alike x.entry.user i))
      && place_lt (place-alike rules links others same x (of x k) i) (place-alike rules links others same y (of y j) i))
    where
      seniority-alike : (u : Name) → seniority links kept u ≡ seniority others kept u
      seniority-alike u = ap (λ o. unwrap_or o (0, [])) (firsts-alike u)

  of_strikers : (x : Link) → IsIn x (strikers links kept) → IsIn x kept
  of_strikers x k = (of_filter (λ x. is_striking x.entry.act) x kept k).0

  standing_alike : standing_strikers rules links kept ≡ standing_strikers rules others kept
  standing_alike =
      standing-alike (is_senior links kept) (strikes_among rules.device_of links) (is_senior others kept) (strikes_among rules.device_of others) (strikers links kept)
      (record {
        ranked = λ x y k j. senior-alike x y (of_strikers x k) (of_strikers y j);
        struck = λ x y k j. strikes-alike rules links others same x y (of x (of_strikers x k)) (of y (of_strikers y j));
      })

  standing_in : (s : Link) → IsIn s (standing_strikers rules others kept) → IsIn s (order_of links)
  standing_in s k = of s (of_strikers s (standing-members (is_senior others kept) (strikes_among rules.device_of others) (strikers links kept) s k))

  pub resolved-alike : resolved_from rules links kept ≡ resolved_from rules others kept
  resolved-alike =
      ap (λ l. filter (stays rules links kept l) kept) standing_alike
      ∙ filter_alike (stays rules links kept (standing_strikers rules others kept)) (stays rules others kept (standing_strikers rules others kept)) kept
      (λ x k. ap (λ b. (not (is_striking x.entry.act) || has_name (map name_of (standing_strikers rules others kept)) x.name) && not b)
      (any_alike (λ s. strikes_among rules.device_of links s x) (λ s. strikes_among rules.device_of others s x) (standing_strikers rules others kept)
      (λ s j. strikes-alike rules links others same s x (standing_in s j) (of x k))))
