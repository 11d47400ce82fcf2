-- What a view says of a set of links, and what became of a link by its name. Positions are those of the connected links, in the
-- order in which they connected.
use Rattle.std.specs.Prelude.{◌≡◌, ◌<◌, List, All, length, map, find, Option, option_map}
use Rattle.team_sets.specs.Names.{Name, same_name}
use Rattle.link_graph.specs.Held.{arrived_of}
use Rattle.link_graph.specs.Positions.{at_places}
use Rattle.team_model.specs.Judging.{resolved, team, team_rules, unlawful_reason, verdict}
use Rattle.team_model.specs.declared.terms.Link.{Link}
use Rattle.team_model.specs.declared.terms.Reason.{Reason}
use Rattle.team_model.specs.declared.terms.Verdict.{Verdict}
use Rattle.replica.specs.declared.view.View.{View}

-- the team, the positions of the resolved list, and what became of the link of each position
pub record IsViewOf (links : List Link) (view : View) : Type 0 where
  pub state : view.state ≡ team team_rules links
  pub given : All (λ p. p < length (arrived_of links)) view.resolved
  pub resolved : at_places (arrived_of links) view.resolved ≡ resolved team_rules links
  pub verdicts : view.verdicts ≡ map (verdict team_rules links) (arrived_of links)

-- why the link of each position is unlawful, if it is
abbrev pub judgements : List Link → List (Option Reason)
judgements links = map (unlawful_reason team_rules links) (arrived_of links)

-- what became of the link of this name, if it is held
abbrev pub verdict_named : List Link → Name → Option Verdict
verdict_named links n = option_map (verdict team_rules links) (find (λ x. same_name n x.name) links)
