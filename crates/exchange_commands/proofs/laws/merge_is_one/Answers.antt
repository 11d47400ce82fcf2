use Rattle.std.proofs.Common.{◌≡◌, ◌∙◌, ℕ, List, Option, None, Some, sym, ap}
use Rattle.link_graph.specs.Held.{Held}
use Rattle.link_text.specs.TeamFile.{IsHeld}
use Rattle.link_intake.specs.Giving.{BundleIsGivenOnce}
use Rattle.link_intake.specs.declared.item_result.ItemResult.{ItemResult}
use Rattle.outcomes.specs.Steps.{World, Outcome}
use Rattle.outcomes.specs.Refusing.{FindsBytes, holds, opening}
use Rattle.outcomes.proofs.Opened.{bytes_found_once, opening_is_one}
use Rattle.openers.specs.Team.{FindsTeam}
use Rattle.exchange_commands.specs.Merge.{merged, merging}
use Rattle.exchange_commands.proofs.laws.merge_is_one.Goals as goal

one_merge : BundleIsGivenOnce → (file : List ℕ) (held : Held) (given : List ℕ) → IsHeld held.team held.links → (w : World) (o p : Outcome) → merging file held given w o → merging file held given w p → o ≡ p
one_merge once file held given is w o p h k =
    let one = once held h.0 k.0 given h.1 k.1 is h.2 k.2 in
    h.3 ∙ ap (λ (n : Held). merged file n h.1) one.1 ∙ ap (λ (r : List ItemResult). merged file k.0 r) one.0 ∙ sym k.3

is_held : (f : Option (List ℕ)) (held : Held) → FindsTeam f (holds held) → IsHeld held.team held.links
is_held (Some bytes) held h = h.file.held
is_held None held h = absurd h

pub returns : goal.returns
returns c = λ file bundle. opening_is_one FindsTeam file (λ held. opening FindsBytes bundle (λ given. merging file held given)) c.team_is_found_once.ensures
    (λ f held found. opening_is_one FindsBytes bundle (λ given. merging file held given) bytes_found_once
    (λ f2 given found2. one_merge c.bundle_is_given_once.ensures file held given (is_held f held found)))
