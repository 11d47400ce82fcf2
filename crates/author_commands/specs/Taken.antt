-- How a graph or a replica answers to a link of the team for which there is room.
use Rattle.std.specs.Prelude.{◌≡◌, ◌≢◌, ◌<◌, ℕ, List, [], ◌∷◌, ◌++◌, Result, Err}
use Rattle.lms_keep.specs.KeyText.{IsKeyState, leaves}
use Rattle.lms_keep.specs.declared.key_state.KeyState.{KeyState}
use Rattle.team_model.specs.declared.terms.Link.{Link}
use Rattle.link_text.specs.LinkText.{IsValid, text}
use Rattle.link_text.specs.declared.draft.Draft.{Draft}
use Rattle.link_graph.specs.Held.{Held}
use Rattle.link_graph.specs.Taking.{Answers, HasSpace}
use Rattle.link_graph.specs.declared.take_fault.TakeFault.{TakeFault}
use Rattle.link_graph.specs.declared.take_fault.TakeFault.TheVariants.{TooLong, BadText, OtherTeam, BadSignature, Full}
use Rattle.link_graph.specs.declared.took.Took.{Took}
use Rattle.author_commands.specs.Authoring.{signature_by}
use Rattle.author_commands.specs.Signing.{IsSignable, authored}

-- the bytes are a link of the team, for which there is room
pub record MayTake (held : Held) (bytes : List ℕ) : Type 0 where
  pub link : Link
  pub valid : IsValid held.team bytes link
  pub space : HasSpace held.team held.links link

-- the link of these bytes is held after the others
abbrev pub HoldsWith : Held → Held → List ℕ → Type 0
HoldsWith old new bytes = (link : Link) → IsValid old.team bytes link → new ≡ record old { links = old.links ++ link ∷ [] }

-- none of these five faults is answered
pub record IsNotRefused (result : Result Took TakeFault) : Type 0 where
  pub short : result ≢ Err TooLong
  pub text : result ≢ Err BadText
  pub team : result ≢ Err OtherTeam
  pub signature : result ≢ Err BadSignature
  pub room : (links bytes : ℕ) → result ≢ Err (Full links bytes)

-- so it is with the text of a link that was planned for held links, and signed by a leaf of its key
abbrev pub AuthoredIsTaken : Type 0
AuthoredIsTaken = (held new : Held) (s : KeyState) (d : Draft) (result : Result Took TakeFault) → IsKeyState s → s.next < leaves s.lms → IsSignable held s d
    → Answers held new (text (authored d (signature_by s d))) result → IsNotRefused result
