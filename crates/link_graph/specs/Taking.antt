-- What becomes of a text that is given to a graph: it is taken, or held already, or why it isn't taken.
use Rattle.std.specs.Prelude.{◌≡◌, ◌≤◌, ◌<◌, ◌↔◌, ℕ, true, false, List, [], ◌∷◌, ◌++◌, length, Result, Ok, Err, IfOk, OnErr}
use Rattle.tg_text.specs.Limits.{most_file_bytes, most_link_bytes, most_links}
use Rattle.tg_text.specs.Reading.{IsExact}
use Rattle.team_sets.specs.Names.{Name, has_name}
use Rattle.team_sets.specs.Members.{IsIn}
use Rattle.team_sets.specs.Order.{names}
use Rattle.team_model.specs.Judging.{name_of}
use Rattle.team_model.specs.declared.terms.Link.{Link}
use Rattle.link_text.specs.Faults.{IsBadText, IsOfOther, IsUnverified}
use Rattle.link_text.specs.LinkText.{text, IsValid}
use Rattle.link_text.specs.TeamFile.{file_text}
use Rattle.link_graph.specs.Held.{Held, answer_of}
use Rattle.link_graph.specs.declared.take_fault.TakeFault.{TakeFault}
use Rattle.link_graph.specs.declared.take_fault.TakeFault.TheVariants.{TooLong, BadText, OtherTeam, BadSignature, NameClash, Full, Memory}
use Rattle.link_graph.specs.declared.took.Took.{Took}
use Rattle.link_graph.specs.declared.took.Took.TheVariants.{New, Waiting, Again}

-- This very text is held.
abbrev pub HasText : List Link → List ℕ → Type 0
HasText links bytes = (l : Link) × IsIn l links × (text l ≡ bytes)

-- No link of this name is held.
abbrev pub IsFresh : List Link → Link → Type 0
IsFresh links l = has_name (names name_of links) l.name ≡ false

-- The link is within the limits of a team.
pub record HasSpace (team : Name) (links : List Link) (l : Link) : Type 0 where
  pub few : length links < most_links
  pub short : length (file_text team (links ++ l ∷ [])) ≤ most_file_bytes

-- The link of these bytes is held after the others.
pub record Takes (old new : Held) (bytes : List ℕ) (took : Took) : Type 0 where
  pub link : Link
  pub valid : IsValid old.team bytes link
  pub fresh : IsFresh old.links link
  pub space : HasSpace old.team old.links link
  pub held : new ≡ record old { links = old.links ++ link ∷ [] }
  pub answer : took ≡ answer_of old.links new.links

-- What an answer says.
abbrev pub IsTaken : Held → Held → List ℕ → Took → Type 0
IsTaken old new bytes Again = HasText old.links bytes × (new ≡ old)
IsTaken old new bytes Waiting = Takes old new bytes Waiting
IsTaken old new bytes (New positions) = Takes old new bytes (New positions)

-- Another text is held under the name of a link of the team.
pub record Clashes (old : Held) (bytes : List ℕ) (n : Name) : Type 0 where
  pub link : Link
  pub valid : IsValid old.team bytes link
  pub other : ¬ (HasText old.links bytes)
  pub taken : has_name (names name_of old.links) link.name ≡ true
  pub name : n ≡ link.name

-- A new link of the team, for which there is no room beside so many links, whose file has so many bytes.
pub record IsFull (old : Held) (bytes : List ℕ) (held size : ℕ) : Type 0 where
  pub link : Link
  pub valid : IsValid old.team bytes link
  pub fresh : IsFresh old.links link
  pub space : ¬ (HasSpace old.team old.links link)
  pub count : held ≡ length old.links
  pub bytes_held : size ≡ length (file_text old.team old.links)

-- What a graph answers to a text, and what it holds then. `Again` is answered exactly where the text is held. Each fault
-- comes exactly where its cause holds, unless memory is short, and leaves all as it was.
pub record Answers (old new : Held) (bytes : List ℕ) (result : Result Took TakeFault) : Type 0 where
  pub taken : IfOk result (λ took. IsTaken old new bytes took)
  pub again : HasText old.links bytes → result ≡ Ok Again
  pub fault : OnErr result (new ≡ old)
  pub too_long : (result ≡ Err TooLong) ↔ (most_link_bytes < length bytes)
  pub bad_text : IsExact Memory BadText (IsBadText bytes) result
  pub other_team : IsExact Memory OtherTeam (IsOfOther old.team bytes) result
  pub bad_signature : IsExact Memory BadSignature (IsUnverified old.team bytes) result
  pub name_clash : (n : Name) → IsExact Memory (NameClash n) (Clashes old bytes n) result
  pub full : (held size : ℕ) → IsExact Memory (Full held size) (IsFull old bytes held size) result
