-- Two ends whose messages may be lost, come late and come again: where an end has said that it is done and has heard the same heads, both
-- ends had the same connected links when they said so.
use Rattle.std.specs.Prelude.{◌≡◌, ℕ, Bool, true, false, List, [], ◌∷◌, ◌++◌, Option, Some, None, Result, Ok, Err}
use Rattle.team_sets.specs.Names.{Name}
use Rattle.team_sets.specs.Members.{IsIn}
use Rattle.team_model.specs.declared.terms.Link.{Link}
use Rattle.link_text.specs.LinkText.{text}
use Rattle.link_text.specs.TeamFile.{IsHeld}
use Rattle.link_graph.specs.Below.{is_connected}
use Rattle.link_graph.specs.Held.{Held}
use Rattle.head_sync.specs.Sessions.{Answers, Progress, greeting_of, started}
use Rattle.head_sync.specs.declared.fault.SyncFault.{SyncFault}

-- One end: its session, what it holds, the messages that it sent so far, and what it held when it said that it was done.
pub record Party : Type 0 where
  pub session : Progress
  pub held : Held
  pub sent : List (List ℕ)
  pub at_done : Option Held

-- An end that has sent its greeting.
abbrev pub began : Held → Party
began k = record { session = started; held = k; sent = greeting_of k ∷ []; at_done = None }

-- What is sent with an answer.
abbrev pub sent_with : Result (List (List ℕ)) SyncFault → List (List ℕ)
sent_with (Ok sent) = sent
sent_with (Err fault) = []

-- What an end held when it said that it was done, once a message was taken: what it holds now, where it has said so just now.
abbrev pub held_at_done : Option (List Name) → Option (List Name) → Option Held → Held → Option Held
held_at_done None (Some heads) before k = Some k
held_at_done None None before k = before
held_at_done (Some said) now before k = before

-- An end is given a message that the other end has sent: any of them, and any number of times. Whatever it answers, want of memory
-- included, is done.
pub record IsGivenOne (other old new : Party) : Type 0 where
  pub message : List ℕ
  pub was_sent : IsIn message other.sent
  pub result : Result (List (List ℕ)) SyncFault
  pub answers : Answers old.session old.held message new.session new.held result
  pub sends : new.sent ≡ old.sent ++ sent_with result
  pub marks : new.at_done ≡ held_at_done old.session.ends.sent new.session.ends.sent old.at_done new.held

-- Messages are delivered, each to the first end or to the second. What isn't delivered is lost.
abbrev pub AreDelivered : List Bool → Party → Party → Party → Party → Type 0
AreDelivered [] one two last other = (last ≡ one) × (other ≡ two)
AreDelivered (true ∷ more) one two last other = (mid : Party) × IsGivenOne two one mid × AreDelivered more mid two last other
AreDelivered (false ∷ more) one two last other = (mid : Party) × IsGivenOne one two mid × AreDelivered more one mid last other

-- Links of one name in both have one text.
abbrev pub NamesAgree : Held → Held → Type 0
NamesAgree k m = (l o : Link) → IsIn l k.links → IsIn o m.links → l.name ≡ o.name → text l ≡ text o

-- The same links are connected in both.
abbrev pub AreInStep : Held → Held → Type 0
AreInStep k m = (n : Name) → is_connected k.links n ≡ is_connected m.links n

-- Both ends have said that they are done, and this is what they held then.
pub record AreDone (one two : Party) : Type 0 where
  pub first : Held
  pub second : Held
  pub first_held : one.at_done ≡ Some first
  pub second_held : two.at_done ≡ Some second
  pub in_step : NamesAgree first second → AreInStep first second

-- Whatever messages come, in whatever order and number: where an end has sent and heard Done with equal heads, so has the other end sent
-- Done, and the links that were connected in both when they sent it are the same, by name.
abbrev pub EndsAgree : Type 0
EndsAgree = (k m : Held) (deliveries : List Bool) (one two : Party) (heads : List Name) → IsHeld k.team k.links → IsHeld m.team m.links
    → AreDelivered deliveries (began k) (began m) one two → one.session.ends.sent ≡ Some heads → one.session.ends.heard ≡ Some heads → AreDone one two
