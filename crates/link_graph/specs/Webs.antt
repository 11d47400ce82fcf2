-- The parts of a graph fit together.
use Rattle.std.specs.Prelude.{◌≡◌, ℕ, ◌-◌, ◌≤◌, ◌<◌, List, length, take}
use Rattle.tg_text.specs.Limits.{most_links}
use Rattle.team_sets.specs.OrderLaws.{IsSet}
use Rattle.team_model.specs.Judging.{name_of}
use Rattle.link_graph.specs.Held.{arrived_of}
use Rattle.link_graph.specs.Children.{HasChildren}
use Rattle.link_graph.specs.Lines.{HasRoom, IsLineup}
use Rattle.link_graph.specs.Positions.{HasEntries, linked}
use Rattle.link_graph.specs.declared.web.Web.{Web}
use Rattle.team_model.specs.declared.terms.Link.{Link}

-- These links have connected and line up.
pub record IsConnecting (web : Web) (placed : List Link) : Type 0 where
  pub entries : HasEntries web.holding web.connected
  pub linked : linked web.holding web.connected ≡ placed
  pub lineup : IsLineup placed web.lineup
  pub room : HasRoom (length web.connected) web.lineup

-- All parts are those of the held links.
pub record IsWeb (web : Web) : Type 0 where
  pub set : IsSet name_of web.holding
  pub few : length web.holding ≤ most_links
  pub children : HasChildren web.holding web.children.lists
  pub connected : IsConnecting web (arrived_of web.holding)

-- The links without the one that came last.
abbrev pub without_last : List Link → List Link
without_last links = take (length links - 1) links

-- All have connected that may, and those of the first positions line up.
pub record IsUnlined (web : Web) (before : ℕ) : Type 0 where
  pub set : IsSet name_of web.holding
  pub few : length web.holding ≤ most_links
  pub entries : HasEntries web.holding web.connected
  pub linked : linked web.holding web.connected ≡ arrived_of web.holding
  pub within : before ≤ length web.connected
  pub lineup : IsLineup (take before (arrived_of web.holding)) web.lineup
  pub room : HasRoom before web.lineup

-- The link that came last is held, and has not been looked at.
pub record IsAwaiting (web : Web) : Type 0 where
  pub some : 0 < length web.holding
  pub set : IsSet name_of web.holding
  pub few : length web.holding ≤ most_links
  pub connected : IsConnecting web (arrived_of (without_last web.holding))
