-- The bound on the number of links in `team_within` doesn't matter once it is reached.
use Rattle.std.proofs.Common.{◌≡◌, ℕ, zero, suc, List, [], ◌∷◌, is_none, refl, ◌∙◌, ap, length, ◌≤◌, ◌<◌, arith}
use Rattle.team_sets.specs.OrderLaws.{NamesDiffer}
use Rattle.team_model.specs.Judging.{Rules, name_of, prev_of, order_of, past_of, resolved_from, fold_team, team_within, team, resolved}
use Rattle.team_model.specs.declared.terms.Link.{Link}
use Rattle.team_sets.proofs.Ancestors.{differ-past}
use Rattle.team_sets.proofs.Lists.{filter_alike}
use Rattle.team_sets.proofs.Pasts.{past-shorter}

none_of_zero : (links : List Link) → length links ≤ 0 → links ≡ []
none_of_zero [] h = refl
none_of_zero (x ∷ xs) h = absurd (omega arith)

module _ (rules : Rules) where
  pub within_same : (n m : ℕ) (links : List Link) → NamesDiffer name_of links → length links ≤ n → length links ≤ m → team_within rules n links ≡ team_within rules m links
  within_same zero zero links differ h k = refl
  within_same zero (suc m) links differ h k = rw (none_of_zero links h) refl
  within_same (suc n) zero links differ h k = rw (none_of_zero links k) refl
  within_same (suc n) (suc m) links differ h k =
      ap (λ l. fold_team rules (resolved_from rules links l))
      (filter_alike (λ x. is_none (rules.refusal (team_within rules n (past_of links x)) x.entry)) (λ x. is_none (rules.refusal (team_within rules m (past_of links x)) x.entry)) (order_of links)
      (λ x here. let less : length (past_of links x) < length links = past-shorter name_of prev_of links differ x here in
      ap (λ s. is_none (rules.refusal s x.entry)) (within_same n m (past_of links x) (differ-past name_of prev_of links differ x) (omega arith) (omega arith))))

  pub team_is_fold : (links : List Link) → NamesDiffer name_of links → team rules links ≡ fold_team rules (resolved rules links)
  team_is_fold links differ =
      within_same (length links) (suc (length links)) links differ (omega arith) (omega arith)
      ∙ ap (λ l. fold_team rules (resolved_from rules links l))
      (filter_alike (λ x. is_none (rules.refusal (team_within rules (length links) (past_of links x)) x.entry)) (λ x. is_none (rules.refusal (team rules (past_of links x)) x.entry)) (order_of links)
      (λ x here. let less : length (past_of links x) < length links = past-shorter name_of prev_of links differ x here in
      ap (λ s. is_none (rules.refusal s x.entry)) (within_same (length links) (length (past_of links x)) (past_of links x) (differ-past name_of prev_of links differ x) (omega arith) (omega arith))))
