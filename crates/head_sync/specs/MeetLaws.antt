-- What a meeting comes to: each end holds what it held and what was connected at the other, and nothing else.
use Rattle.std.specs.Prelude.{◌≡◌, ◌-◌, ◌^◌, ℕ, List, map, min}
use Rattle.team_sets.specs.Members.{IsIn}
use Rattle.team_model.specs.Judging.{order_of}
use Rattle.team_model.specs.declared.terms.Link.{Link}
use Rattle.link_text.specs.LinkText.{text}
use Rattle.link_text.specs.TeamFile.{IsHeld}
use Rattle.link_graph.specs.Heads.{heads_of}
use Rattle.link_graph.specs.Held.{Held}
use Rattle.team_files.specs.declared.item.Item.TheVariants.{Text}
use Rattle.link_intake.specs.Giving.{IsGiven}
use Rattle.link_intake.specs.ResultsText.{count, is_refused}
use Rattle.link_intake.specs.UnionLaws.{Fits, IsUnion, NoClash}
use Rattle.link_intake.specs.declared.item_result.ItemResult.{ItemResult}
use Rattle.head_sync.specs.Meetings.{IsMet}
use Rattle.head_sync.specs.Sessions.{asked_for, lacking}
use Rattle.head_sync.specs.declared.meeting.Met.{Met}

-- The texts that one end is given in a meeting: those that it asks the other for at its start.
abbrev pub exchanged : Held → Held → List (List ℕ)
exchanged k m = asked_for m (lacking k (heads_of m.links)) (heads_of k.links)

-- These texts were given in turn to the one end, and so many were refused.
abbrev pub IsExchanged : Held → Held → Held → ℕ → Type 0
IsExchanged k m kept refused = (results : List ItemResult) × IsGiven k (map Text (exchanged k m)) kept results × (refused ≡ min (count is_refused results) (2 ^ 32 - 1))

-- Each end was given what it asked for when both began, in the order of the other's team: no message was refused or is missing.
abbrev pub MeetingExchanges : Type 0
MeetingExchanges = (k m kept other : Held) (met : Met) → IsHeld k.team k.links → IsHeld m.team m.links → k.team ≡ m.team → IsMet k m kept other met
    → IsExchanged k m kept met.refused_by_first × IsExchanged m k other met.refused_by_second

-- The text is that of a connected link.
abbrev pub IsConnectedText : Held → List ℕ → Type 0
IsConnectedText m b = (x : Link) × IsIn x (order_of m.links) × (text x ≡ b)

-- Where no two different texts of what an end holds and of what is connected at the other have one name, and the limits hold of all, the
-- end holds then what it held and what was connected at the other, and nothing else.
abbrev pub Unites : Held → Held → Held → Type 0
Unites k m kept = NoClash k (IsConnectedText m) → Fits k (IsConnectedText m) → IsUnion k (IsConnectedText m) kept

abbrev pub MeetingUnites : Type 0
MeetingUnites = (k m kept other : Held) (met : Met) → IsHeld k.team k.links → IsHeld m.team m.links → k.team ≡ m.team → IsMet k m kept other met → Unites k m kept × Unites m k other
