-- The team of a set of links is sound, as the state that the entries of its resolved list make.
use Rattle.std.proofs.Common.{◌≡◌, List, [], ◌∷◌, fold, map, refl, sym, ◌∙◌, subst}
use Rattle.team_sets.specs.OrderLaws.{NamesDiffer}
use Rattle.team_model.specs.ActTable.{after}
use Rattle.team_model.specs.Judging.{name_of, resolved, team, team_rules}
use Rattle.team_model.specs.State.{State, empty_state}
use Rattle.team_model.specs.declared.terms.Link.{Link}
use Rattle.team_model.proofs.Teams.{team_is_fold}
use Rattle.team_reducer.specs.Sound.{IsSound}
use Rattle.team_reducer.proofs.Sounding.{states_sound}

-- links are taken by their entries alone
fold_entries : (xs : List Link) (s : State) → fold (λ s (x : Link). after s x.entry) s xs ≡ fold (λ s e. after s e) s (map (λ (x : Link). x.entry) xs)
fold_entries [] s = refl
fold_entries (x ∷ xs) s = fold_entries xs (after s x.entry)

pub teams_sound : (links : List Link) → NamesDiffer name_of links → IsSound (team team_rules links)
teams_sound links differ =
    subst (λ s. IsSound s) (sym (team_is_fold team_rules links differ ∙ fold_entries (resolved team_rules links) empty_state))
    (states_sound (map (λ (x : Link). x.entry) (resolved team_rules links)))
