-- Where none of the lawful links strikes, all of them stay.
use Rattle.std.proofs.Common.{◌≡◌, true, false, not, ◌&&◌, ◌||◌, cond, List, [], ◌∷◌, filter, refl, ◌∙◌, ap}
use Rattle.std.specs.List.{AllByRecursion}
use Rattle.team_sets.specs.Settlement.{standing}
use Rattle.team_model.specs.Strikes.{is_striking}
use Rattle.team_model.specs.JudgingLaws.{IsHarmless}
use Rattle.team_model.specs.Judging.{Rules, is_senior, strikes_among, standing_strikers, stays, resolved_from}
use Rattle.team_model.specs.declared.terms.Link.{Link}

pub no_strikers : (links lawful xs : List Link) → AllByRecursion IsHarmless xs → filter (λ x. is_striking x.entry.act) xs ≡ []
no_strikers links lawful [] h = refl
no_strikers links lawful (x ∷ xs) h =
    ap (λ b. cond b (x ∷ filter (λ x. is_striking x.entry.act) xs) (filter (λ x. is_striking x.entry.act) xs)) h.0 ∙ no_strikers links lawful xs h.1

module _ (rules : Rules) (links lawful : List Link) where
  none_standing : AllByRecursion IsHarmless lawful → standing_strikers rules links lawful ≡ []
  none_standing h = ap (λ l. standing (is_senior links lawful) (strikes_among rules.device_of links) l) (no_strikers links lawful lawful h)

  all_stay : (xs : List Link) → AllByRecursion IsHarmless xs → filter (stays rules links lawful []) xs ≡ xs
  all_stay [] h = refl
  all_stay (x ∷ xs) h =
      ap (λ b. cond ((not b || false) && true) (x ∷ filter (stays rules links lawful []) xs) (filter (stays rules links lawful []) xs)) h.0
      ∙ ap (λ l. x ∷ l) (all_stay xs h.1)

  pub none_is_struck : AllByRecursion IsHarmless lawful → resolved_from rules links lawful ≡ lawful
  none_is_struck h = ap (λ l. filter (stays rules links lawful l) lawful) (none_standing h) ∙ all_stay lawful h
