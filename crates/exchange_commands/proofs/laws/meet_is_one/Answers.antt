use Rattle.std.proofs.Common.{◌≡◌, ◌∙◌, ℕ, Bool, true, false, List, Option, None, Some, sym, ap}
use Rattle.team_sets.specs.Names.{same_name}
use Rattle.link_graph.specs.Held.{Held}
use Rattle.link_text.specs.TeamFile.{IsHeld}
use Rattle.head_sync.specs.Meetings.{MeetingIsOne}
use Rattle.head_sync.specs.declared.meeting.Met.{Met}
use Rattle.outcomes.specs.Steps.{World, Outcome}
use Rattle.outcomes.specs.Refusing.{holds, opening}
use Rattle.outcomes.proofs.Opened.{opening_is_one}
use Rattle.openers.specs.Team.{FindsTeam}
use Rattle.exchange_commands.specs.Meet.{by_team, meeting, met}
use Rattle.exchange_commands.proofs.laws.meet_is_one.Goals as goal

one_meeting : MeetingIsOne → (file other : List ℕ) (one two : Held) → IsHeld one.team one.links → IsHeld two.team two.links → (same : Bool) (o p : Outcome) → by_team same file other one two o
    → by_team same file other one two p → o ≡ p
one_meeting once file other one two hk hm false o p h k = h ∙ sym k
one_meeting once file other one two hk hm true o p h k =
    let same = once one two h.0 h.1 k.0 k.1 h.2 k.2 hk hm h.3 k.3 in
    h.4 ∙ ap (λ (x : Held). met file other one two x h.1 h.2) same.0 ∙ ap (λ (x : Held). met file other one two k.0 x h.2) same.1
    ∙ ap (λ (x : Met). met file other one two k.0 k.1 x) same.2 ∙ sym k.4

is_held : (f : Option (List ℕ)) (held : Held) → FindsTeam f (holds held) → IsHeld held.team held.links
is_held (Some bytes) held h = h.file.held
is_held None held h = absurd h

pub returns : goal.returns
returns c = λ file other. opening_is_one FindsTeam file (λ one. opening FindsTeam other (λ two. meeting file other one two)) c.team_is_found_once.ensures
    (λ f one found. opening_is_one FindsTeam other (λ two. meeting file other one two) c.team_is_found_once.ensures
    (λ f2 two found2. λ (w : World) (o p : Outcome) h k. one_meeting c.meeting_is_one.ensures file other one two (is_held f one found) (is_held f2 two found2) (same_name one.team two.team) o p h k))
