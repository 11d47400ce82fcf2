-- Two ends that see each other: in turns each takes the oldest message that waits for it, until none waits.
use Rattle.std.specs.Prelude.{◌≡◌, ◌⊎◌, ◌<◌, ◌+◌, ℕ, zero, suc, List, [], ◌∷◌, ◌++◌, length}
use Rattle.std.specs.List.{concat}
use Rattle.sha2.specs.Sha256.{sha256}
use Rattle.link_text.specs.TeamFile.{IsHeld}
use Rattle.link_graph.specs.Held.{Held}
use Rattle.head_sync.specs.Sessions.{IsForOther, IsNoMessage, IsTaken, IsUnawaited, Progress, greeting_of, started}
use Rattle.head_sync.specs.declared.meeting.Met.{Met}

-- An end: its session, what it holds, and the messages that wait for it, the oldest first.
pub record End : Type 0 where
  pub session : Progress
  pub held : Held
  pub inbox : List (List ℕ)

-- The bytes are no message to the team that is awaited.
abbrev pub IsRefused : Progress → Held → List ℕ → Type 0
IsRefused s k bytes = IsNoMessage bytes ⊎ (IsForOther k.team bytes ⊎ IsUnawaited s k.team bytes)

-- An end takes a message, or refuses it and stays as it was.
abbrev pub Hears : Progress → Held → List ℕ → Progress → Held → List (List ℕ) → Type 0
Hears s k bytes new kept sent = IsTaken s k bytes new kept sent ⊎ (IsRefused s k bytes × (new ≡ s) × (kept ≡ k) × (sent ≡ []))

-- By the messages that wait: an end for which none does is passed over.
abbrev pub IsTurnOf : List (List ℕ) → End → End → End → End → List (List ℕ) → Type 0
IsTurnOf [] one two new other passed = (new ≡ one) × (other ≡ two) × (passed ≡ [])
IsTurnOf (m ∷ ms) one two new other passed =
    (sent : List (List ℕ)) × Hears one.session one.held m new.session new.held sent × (new.inbox ≡ ms) × (other ≡ record two { inbox = two.inbox ++ sent }) × (passed ≡ m ∷ [])

-- The first end takes its oldest message, and what it sends waits for the other after what waits there.
abbrev pub IsTurn : End → End → End → End → List (List ℕ) → Type 0
IsTurn one two new other passed = IsTurnOf one.inbox one two new other passed

-- So many rounds are had, in each of which first the one end and then the other has its turn, and then no message waits. These passed.
abbrev pub AreRounds : ℕ → End → End → End → End → List (List ℕ) → Type 0
AreRounds zero one two last other passed = (one.inbox ≡ []) × (two.inbox ≡ []) × (last ≡ one) × (other ≡ two) × (passed ≡ [])
AreRounds (suc n) one two last other passed =
    (0 < length one.inbox + length two.inbox)
    × ((one2 : End) × (two2 : End) × (first : List (List ℕ)) × IsTurn one two one2 two2 first
    × ((two3 : End) × (one3 : End) × (second : List (List ℕ)) × IsTurn two2 one2 two3 one3 second
    × ((rest : List (List ℕ)) × AreRounds n one3 two3 last other rest × (passed ≡ first ++ (second ++ rest)))))

-- An end at the start, for which the greeting of the other waits.
abbrev pub meeting_end : Held → Held → End
meeting_end k other = record { session = started; held = k; inbox = greeting_of other ∷ [] }

-- Two ends met: these messages passed, and so the ends stand when none waits any more.
abbrev pub HaveMet : Held → Held → End → End → List (List ℕ) → Type 0
HaveMet k m one two passed = (n : ℕ) × AreRounds n (meeting_end k m) (meeting_end m k) one two passed

-- What is answered of a meeting of two held sets, and what both hold after it: how many messages passed, the digest of these in the order in
-- which they were taken, and how many links each end refused.
pub record IsMet (k m kept other : Held) (met : Met) : Type 0 where
  pub one : End
  pub two : End
  pub passed : List (List ℕ)
  pub meeting : HaveMet k m one two passed
  pub first : kept ≡ one.held
  pub second : other ≡ two.held
  pub count : met.messages ≡ length passed
  pub digest : met.digest ≡ sha256 (concat passed)
  pub refused_first : met.refused_by_first ≡ one.session.refused
  pub refused_second : met.refused_by_second ≡ two.session.refused

-- One thing alone comes of a meeting of two held sets.
abbrev pub MeetingIsOne : Type 0
MeetingIsOne = (k m kept other kept2 other2 : Held) (met met2 : Met) → IsHeld k.team k.links → IsHeld m.team m.links → IsMet k m kept other met → IsMet k m kept2 other2 met2
    → (kept ≡ kept2) × (other ≡ other2) × (met ≡ met2)
