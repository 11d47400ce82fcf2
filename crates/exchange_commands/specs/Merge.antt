-- What `merge FILE BUNDLE` does.
use Rattle.std.specs.Prelude.{◌≡◌, ℕ, List, [], ◌∷◌}
use Rattle.link_text.specs.TeamFile.{file_text}
use Rattle.link_graph.specs.Held.{Held}
use Rattle.link_intake.specs.declared.item_result.ItemResult.{ItemResult}
use Rattle.link_intake.specs.Giving.{IsBundleGiven}
use Rattle.link_intake.specs.ResultsText.{results_status, results_text}
use Rattle.outcomes.specs.Steps.{World, Outcome, acting, put}
use Rattle.outcomes.specs.Refusing.{FindsBytes, opening}
use Rattle.openers.specs.Team.{FindsTeam}
use Rattle.team_words.specs.declared.command.Command.{Command}
use Rattle.team_words.specs.declared.command.Command.TheVariants.{Merge}

-- the file is replaced by that of the new links, and what became of the items is printed
abbrev pub merged : List ℕ → Held → List ItemResult → Outcome
merged file new results = acting (results_status results) 0 (put file (file_text new.team new.links) ∷ []) (results_text results)

-- the items of the bundle are given to the links of the file
abbrev pub merging : List ℕ → Held → List ℕ → World → Outcome → Type 0
merging file held bundle w o = (new : Held) × (results : List ItemResult) × IsBundleGiven held bundle new results × (o ≡ merged file new results)

abbrev pub merges : List ℕ → List ℕ → World → Outcome → Type 0
merges file bundle = opening FindsTeam file (λ held. opening FindsBytes bundle (λ given. merging file held given))

abbrev pub does_merge : Command → World → Outcome → Type 0
does_merge (Merge file bundle) w o = merges file bundle w o
does_merge _ w o = ⊥
