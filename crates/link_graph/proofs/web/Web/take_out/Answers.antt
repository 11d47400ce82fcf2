use Rattle.std.proofs.Common.{◌∙◌, subst, List}
use Rattle.team_model.specs.declared.terms.Link.{Link}
use Rattle.link_graph.specs.Lines.{IsLineup}
use Rattle.link_graph.specs.Positions.{linked}
use Rattle.link_graph.proofs.Webbing.{cut_is, web_cut}
use Rattle.link_graph.proofs.web.Web.take_out.Goals as goal

pub add_all-requires-clause-few : goal.add_all-requires-clause-few
add_all-requires-clause-few c =
    (cut_is c.args.self.now c.remove_from_parents.new.self.holding c.links.result.now c.truncate.new.self c.remove_from_parents.new.self.connected c.args.connected c.requires.web c.requires.some c.requires.connected
    c.remove_from_parents.ensures.held c.remove_from_parents.ensures.connected c.truncate.ensures (c.links.ensures ∙ c.pop.ensures)).count

pub add_all-requires-clause-entries : goal.add_all-requires-clause-entries
add_all-requires-clause-entries c =
    (cut_is c.args.self.now c.remove_from_parents.new.self.holding c.links.result.now c.truncate.new.self c.remove_from_parents.new.self.connected c.args.connected c.requires.web c.requires.some c.requires.connected
    c.remove_from_parents.ensures.held c.remove_from_parents.ensures.connected c.truncate.ensures (c.links.ensures ∙ c.pop.ensures)).entries

pub add_all-requires-clause-first : goal.add_all-requires-clause-first
add_all-requires-clause-first c =
    (cut_is c.args.self.now c.remove_from_parents.new.self.holding c.links.result.now c.truncate.new.self c.remove_from_parents.new.self.connected c.args.connected c.requires.web c.requires.some c.requires.connected
    c.remove_from_parents.ensures.held c.remove_from_parents.ensures.connected c.truncate.ensures (c.links.ensures ∙ c.pop.ensures)).first

pub returns-clause-web : goal.returns-clause-web
returns-clause-web c =
    let is = cut_is c.args.self.now c.remove_from_parents.new.self.holding c.pop.new.self c.truncate.new.self c.remove_from_parents.new.self.connected c.args.connected c.requires.web c.requires.some c.requires.connected
    c.remove_from_parents.ensures.held c.remove_from_parents.ensures.connected c.truncate.ensures c.pop.ensures in
    web_cut c.args.self.now _ c.remove_from_parents.new.self.holding c.requires.web c.requires.some c.remove_from_parents.ensures.held c.pop.ensures c.remove_from_parents.ensures.children is.entries is.linked_is
    (subst (λ (l : List Link). IsLineup (linked l c.truncate.new.self) c.add_all.new.self) c.links.ensures c.add_all.ensures.whole) c.add_all.ensures.room
