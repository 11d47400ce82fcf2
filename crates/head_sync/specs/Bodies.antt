-- What messages say, as the reader keeps it. Only private contracts cite it.
use Rattle.std.specs.Prelude.{◌≡◌, ℕ, Bool, List, ◌++◌, map, Result, Ok, Err, IfOk, codes}
use Rattle.std.specs.Borrow.{Bor}
use Rattle.team_sets.specs.Names.{Name}
use Rattle.link_text.specs.Takes.{HasNoLine}
use Rattle.head_sync.specs.Messages.{Content, IsMessage, ask, done, give, hello, name_lines}
use Rattle.head_sync.specs.declared.fault.ReadFault.{ReadFault}
use Rattle.head_sync.specs.declared.fault.ReadFault.TheVariants.{BadMessage, Memory}
use Rattle.head_sync.specs.declared.fault.SyncFault.{SyncFault}
use Rattle.head_sync.specs.declared.fault.SyncFault.TheVariants as sync
use Rattle.head_sync.specs.declared.message.Body.{Body}
use Rattle.head_sync.specs.declared.message.Body.TheVariants as body
use Rattle.head_sync.specs.declared.message.Kind.{Kind}
use Rattle.head_sync.specs.declared.message.Kind.TheVariants as kind
use Rattle.head_sync.specs.declared.message.Message.{Message}

-- The same fault, of the reading and of the session.
abbrev pub fault_of : ReadFault → SyncFault
fault_of BadMessage = sync.BadMessage
fault_of Memory = sync.Memory

-- The lent texts as they stand.
abbrev pub lent : List (Bor (List ℕ)) → List (List ℕ)
lent texts = map (λ (t : Bor (List ℕ)). t.now) texts

abbrev pub content_of : Body → Content
content_of (body.Hello heads) = hello heads
content_of (body.Ask names marks) = ask names marks
content_of (body.Give more texts) = give more (lent texts)
content_of (body.Done heads) = done heads

abbrev pub word_of : Kind → List ℕ
word_of kind.Hello = codes "hello"
word_of kind.Ask = codes "ask"
word_of kind.Give = codes "give"
word_of kind.Done = codes "done"

-- The value that is seen of what is answered is this one, or want of memory is the answer.
abbrev pub GivesSeen : {X Y : Type 0} → (X → Y) → Y → Result X ReadFault → Type 0
GivesSeen see y (Ok x) = see x ≡ y
GivesSeen see y (Err fault) = fault ≡ Memory

-- What is read of a whole text is in its range and spelled so, and what is in its range and spelled so is read, unless memory is short.
pub record ReadsWhole {X Y : Type 0} (see : X → Y) (IsY : Y → Type 0) (spell : Y → List ℕ) (text : List ℕ) (result : Result X ReadFault) : Type 0 where
  pub found : IfOk result (λ x. IsY (see x) × (text ≡ spell (see x)))
  pub only : (y : Y) → IsY y → text ≡ spell y → GivesSeen see y result

-- The value is answered and the rest is left, unless memory is short.
abbrev pub GivesAndLeaves : {X : Type 0} → X → List ℕ → List ℕ → Result X ReadFault → Type 0
GivesAndLeaves x rest new (Ok y) = (y ≡ x) × (new ≡ rest)
GivesAndLeaves x rest new (Err fault) = fault ≡ Memory

-- The names of the lines of the word at the front are answered, up to the first line that is none, where they are in their range.
pub record TakesNames (IsX : List Name → Type 0) (word old new : List ℕ) (result : Result (List Name) ReadFault) : Type 0 where
  pub found : IfOk result (λ names. IsX names × (old ≡ name_lines word names ++ new))
  pub only : (names : List Name) (rest : List ℕ) → IsX names → HasNoLine word rest → old ≡ name_lines word names ++ rest → GivesAndLeaves names rest new result

-- All kinds are in their range,
abbrev pub IsAnyKind : Kind → Type 0
IsAnyKind k = Unit {0}

-- and both words of what follows.
abbrev pub IsAnyMore : Bool → Type 0
IsAnyMore more = Unit {0}

-- The bytes are a message, and say what is answered; what is a message is read so, unless memory is short.
pub record ReadsMessage (bytes : List ℕ) (result : Result Message ReadFault) : Type 0 where
  pub found : IfOk result (λ m. IsMessage bytes m.team (content_of m.body))
  pub only : (team : Name) (c : Content) → IsMessage bytes team c → GivesSeen {Y = Name × Content} (λ (m : Message). (m.team, content_of m.body)) (team, c) result
