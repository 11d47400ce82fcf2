-- How one end of an exchange stands, and what it makes of the messages that it takes.
use Rattle.std.specs.Prelude.{◌≡◌, ◌≢◌, ◌⊎◌, ◌+◌, ◌-◌, ◌^◌, ℕ, Bool, true, false, not, ◌&&◌, ◌||◌, cond, min, nat_le, nat_lt, List, [], ◌∷◌, ◌++◌, filter, length, map, sum, Some, None, Result, Ok, Err, IfOk, OnErr, is_none}
use Rattle.tg_text.specs.Reading.{IsExact}
use Rattle.team_sets.specs.Names.{Name}
use Rattle.link_text.specs.LinkText.{text}
use Rattle.link_graph.specs.Below.{below_of, is_connected}
use Rattle.link_graph.specs.Heads.{heads_of}
use Rattle.link_graph.specs.Held.{Held}
use Rattle.team_files.specs.declared.item.Item.TheVariants.{Text}
use Rattle.link_intake.specs.Giving.{IsGiven, IsPartGiven}
use Rattle.link_intake.specs.ResultsText.{count, is_refused}
use Rattle.link_intake.specs.declared.item_result.ItemResult.{ItemResult}
use Rattle.head_sync.specs.Messages.{Content, IsMessage, ask, done, give, hello, message_text, most_given_bytes, most_given_links}
use Rattle.head_sync.specs.declared.ends.Ends.{Ends}
use Rattle.head_sync.specs.declared.fault.SyncFault.{SyncFault}
use Rattle.head_sync.specs.declared.fault.SyncFault.TheVariants.{BadMessage, Memory, OtherTeam, OutOfTurn}

-- What an end has taken: whether it was greeted and was asked, whether links are still to come, the heads of the Done sent and of the
-- Done heard, and how many links it refused.
pub record Progress : Type 0 where
  pub greeted : Bool
  pub asked : Bool
  pub awaits_links : Bool
  pub ends : Ends
  pub refused : ℕ

-- Nothing was taken yet.
abbrev pub started : Progress
started = record { greeted = false; asked = false; awaits_links = false; ends = record { sent = None; heard = None }; refused = 0 }

-- Whether a message is in turn. The other end greets once. It may ask once, and say once that it is done, after it has greeted. Links
-- are awaited from the asking on, until a message of them says that no more follow.
abbrev pub awaits : Progress → Content → Bool
awaits s (hello heads) = not s.greeted
awaits s (ask names marks) = s.greeted && not s.asked
awaits s (give more texts) = s.awaits_links
awaits s (done heads) = s.greeted && is_none s.ends.heard

-- The message with which an end greets.
abbrev pub greeting_of : Held → List ℕ
greeting_of k = message_text k.team (hello (heads_of k.links))

-- The message with which an end says that it is done.
abbrev pub closing_of : Held → List ℕ
closing_of k = message_text k.team (done (heads_of k.links))

-- The session once it has said that it is done.
abbrev pub closed : Progress → Held → Progress
closed s k = record s { ends = record s.ends { sent = Some (heads_of k.links) } }

-- Those of the heads that aren't connected here.
abbrev pub lacking : Held → List Name → List Name
lacking k heads = filter (λ n. not (is_connected k.links n)) heads

-- Once it is greeted, an end asks for what it lacks, with its own heads as marks; an end that lacks nothing is done.
abbrev pub asking : Held → List Name → List (List ℕ)
asking k [] = closing_of k ∷ []
asking k (n ∷ ns) = message_text k.team (ask (n ∷ ns) (heads_of k.links)) ∷ []

abbrev pub after_hello : Progress → Held → List Name → Progress
after_hello s k [] = closed (record s { greeted = true }) k
after_hello s k (n ∷ ns) = record s { greeted = true; awaits_links = true }

-- Whether one more text fits into a message with these: at least one does.
abbrev pub fits : List (List ℕ) → List ℕ → Bool
fits [] t = true
fits (u ∷ us) t = nat_lt (length (u ∷ us)) most_given_links && nat_le (sum (map length (u ∷ us)) + length t) most_given_bytes

-- The messages that give texts in their order, where those now stand in the message at hand: each has as many as fit, all but the last
-- say that more follow, and one is sent where there is no text.
abbrev pub gives : Name → List (List ℕ) → List (List ℕ) → List (List ℕ)
gives team now [] = message_text team (give false now) ∷ []
gives team now (t ∷ ts) = cond (fits now t) (gives team (now ++ t ∷ []) ts) (message_text team (give true now) ∷ gives team (t ∷ []) ts)

-- The texts of what the other end asks for and lacks.
abbrev pub asked_for : Held → List Name → List Name → List (List ℕ)
asked_for k names marks = map text (below_of k.links names marks)

-- After the last links an end is done.
abbrev pub closing : Held → Bool → List (List ℕ)
closing k true = []
closing k false = closing_of k ∷ []

-- The number of refused links stays at the greatest.
abbrev pub counted : Progress → ℕ → Progress
counted s n = record s { refused = min (s.refused + n) (2 ^ 32 - 1) }

abbrev pub after_give : Progress → Held → Bool → Progress
after_give s k true = s
after_give s k false = closed (record s { awaits_links = false }) k

-- What an end makes of a message that is awaited: how it stands then, what it holds then, and what it sends. It offers each text that it is
-- given once, in their order, and nothing else.
abbrev pub Makes : Progress → Held → Content → Progress → Held → List (List ℕ) → Type 0
Makes s k (hello heads) new kept sent = (kept ≡ k) × (new ≡ after_hello s k (lacking k heads)) × (sent ≡ asking k (lacking k heads))
Makes s k (ask names marks) new kept sent = (kept ≡ k) × (new ≡ record s { asked = true }) × (sent ≡ gives k.team [] (asked_for k names marks))
Makes s k (give more texts) new kept sent =
    (results : List ItemResult) × IsGiven k (map Text texts) kept results × (new ≡ after_give (counted s (count is_refused results)) kept more) × (sent ≡ closing kept more)
Makes s k (done heads) new kept sent = (kept ≡ k) × (new ≡ record s { ends = record s.ends { heard = Some heads } }) × (sent ≡ [])

-- The bytes are an awaited message, and this is what is made of it.
pub record IsTaken (s : Progress) (k : Held) (bytes : List ℕ) (new : Progress) (kept : Held) (sent : List (List ℕ)) : Type 0 where
  pub content : Content
  pub message : IsMessage bytes k.team content
  pub awaited : awaits s content ≡ true
  pub makes : Makes s k content new kept sent

-- The bytes are no message.
abbrev pub IsNoMessage : List ℕ → Type 0
IsNoMessage bytes = (team : Name) (c : Content) → ¬ (IsMessage bytes team c)

-- The bytes are a message to another team.
abbrev pub IsForOther : Name → List ℕ → Type 0
IsForOther team bytes = (other : Name) × (c : Content) × IsMessage bytes other c × (other ≢ team)

-- The bytes are a message to the team that isn't in turn.
abbrev pub IsUnawaited : Progress → Name → List ℕ → Type 0
IsUnawaited s team bytes = (c : Content) × IsMessage bytes team c × (awaits s c ≡ false)

-- Nothing was offered, or some first texts of a message that gives links.
abbrev pub IsPartTaken : Held → List ℕ → Held → Type 0
IsPartTaken k bytes kept = (kept ≡ k) ⊎ ((more : Bool) × (texts : List (List ℕ)) × IsMessage bytes k.team (give more texts) × IsPartGiven k (map Text texts) kept)

-- What is held after an answer. Where memory was short the end may hold some of the links of the message.
abbrev pub Keeps : Held → List ℕ → Held → Result (List (List ℕ)) SyncFault → Type 0
Keeps k bytes kept (Ok sent) = Unit {0}
Keeps k bytes kept (Err Memory) = IsPartTaken k bytes kept
Keeps k bytes kept (Err BadMessage) = kept ≡ k
Keeps k bytes kept (Err OtherTeam) = kept ≡ k
Keeps k bytes kept (Err OutOfTurn) = kept ≡ k

-- What an end answers to bytes, how it stands then, and what it holds. Each fault comes exactly where its cause holds, unless memory is
-- short, and leaves the session as it was: so a message that found no memory may be taken again.
pub record Answers (s : Progress) (k : Held) (bytes : List ℕ) (new : Progress) (kept : Held) (result : Result (List (List ℕ)) SyncFault) : Type 0 where
  pub taken : IfOk result (λ sent. IsTaken s k bytes new kept sent)
  pub stays : OnErr result (new ≡ s)
  pub keeps : Keeps k bytes kept result
  pub bad_message : IsExact Memory BadMessage (IsNoMessage bytes) result
  pub other_team : IsExact Memory OtherTeam (IsForOther k.team bytes) result
  pub out_of_turn : IsExact Memory OutOfTurn (IsUnawaited s k.team bytes) result
