-- How a meeting goes on, turn by turn. Only private contracts cite it.
use Rattle.std.specs.Prelude.{◌≡◌, ◌≤◌, ◌+◌, ◌*◌, ◌⊎◌, ℕ, cond, List, [], ◌∷◌, ◌++◌, length, is_none}
use Rattle.std.specs.List.{concat}
use Rattle.sha2.specs.Hashers.{Holds256}
use Rattle.link_graph.specs.Held.{Held}
use Rattle.head_sync.specs.Meetings.{End, Hears}
use Rattle.head_sync.specs.Sessions.{Progress}
use Rattle.head_sync.specs.declared.meeting.Passed.{Passed}
use Rattle.head_sync.specs.declared.meeting.Waiting.{Waiting}

-- The end, with what its keeper holds.
abbrev pub end_of : Waiting → Held → End
end_of w k = record { session = w.session; held = k; inbox = w.inbox.items }

-- An end takes its oldest message, if one waits, and adds what it sends to those that wait for the other.
abbrev pub TakesTurn : Progress → Held → List (List ℕ) → Progress → Held → List (List ℕ) → List (List ℕ) → List (List ℕ) → List (List ℕ) → Type 0
TakesTurn s k [] new kept left box boxed passed = (new ≡ s) × (kept ≡ k) × (left ≡ []) × (boxed ≡ box) × (passed ≡ [])
TakesTurn s k (m ∷ ms) new kept left box boxed passed =
    (sent : List (List ℕ)) × Hears s k m new kept sent × (left ≡ ms) × (boxed ≡ box ++ sent) × (passed ≡ m ∷ [])

-- Those that passed now are counted, and follow the others in the digest.
pub record IsPassedOn (old new : Passed) (now : List (List ℕ)) : Type 0 where
  pub count : new.count ≡ old.count + length now
  pub hasher : (m : List ℕ) → Holds256 old.hasher m → Holds256 new.hasher (m ++ concat now)

-- How much an end may still take that it answers: a greeting, a question, the last links, and that the other is done.
abbrev pub work : Progress → ℕ
work s = cond s.greeted 0 2 + cond s.asked 0 1 + cond s.awaits_links 1 0 + cond (is_none s.ends.heard) 1 0

-- More than an end sends at once.
abbrev pub most_sent : ℕ
most_sent = 16386

-- What is left of a meeting at most, where so many messages wait for this end.
abbrev pub weight : Progress → ℕ → ℕ
weight s waiting = work s * most_sent + waiting

-- Each message that passes makes less of what is left.
abbrev pub IsLighter : Progress → List (List ℕ) → Progress → List (List ℕ) → List (List ℕ) → List (List ℕ) → List (List ℕ) → Type 0
IsLighter s inbox new left box boxed passed = weight new (length left) + length boxed + length passed ≤ weight s (length inbox) + length box
