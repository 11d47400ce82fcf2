-- What a graph keeps: valid links of its team, within the limits, with all that is found of them. Only the invariant of `Graph` cites it.
use Rattle.std.specs.Prelude.{◌≡◌, ℕ, ◌≤◌, length}
use Rattle.std.specs.List.{AllByRecursion}
use Rattle.tg_text.specs.Limits.{most_file_bytes}
use Rattle.team_sets.specs.Names.{Name}
use Rattle.ancestry.specs.Positions.{Parents}
use Rattle.link_text.specs.LinkText.{text, IsValid}
use Rattle.link_text.specs.TeamFile.{file_text}
use Rattle.link_graph.specs.Held.{arrived_of}
use Rattle.link_graph.specs.Parentage.{parents_in}
use Rattle.link_graph.specs.Webs.{IsWeb}
use Rattle.link_graph.specs.declared.web.Web.{Web}

pub record IsGraph (team : Name) (web : Web) (ancestry : Parents) (bytes : ℕ) : Type 0 where
  pub valid : AllByRecursion (λ l. IsValid team (text l) l) web.holding
  pub size : bytes ≡ length (file_text team web.holding)
  pub short : bytes ≤ most_file_bytes
  pub fits : IsWeb web
  pub parents : ancestry ≡ parents_in (arrived_of web.holding)
