use Rattle.std.proofs.Common.{◌∙◌, ◌-◌, ap, get_or, List, ℕ}
use Rattle.team_model.specs.declared.terms.Link.{Link}
use Rattle.link_graph.specs.Children.{child_places}
use Rattle.link_graph.specs.Webs.{without_last}
use Rattle.link_graph.proofs.Webbing.{child_last}
use Rattle.link_graph.proofs.web.Web.remove_from_parents.Goals as goal

pub returns-clause-children : goal.returns-clause-children
returns-clause-children c =
    c.remove.ensures (λ (n : List ℕ). child_places 0 (without_last c.args.self.now.holding) n) (c.len-last.result - 1)
    (λ n.
    c.requires.children n
    ∙ child_last c.args.self.now.holding c.index-links-last.result (c.len-last.result - 1) c.as_slice.result.now n c.requires.some (ap (λ k. k - 1) c.len-last.ensures)
    (c.index-links-last.is ∙ ap (λ (l : List Link). get_or l (c.len-last.result - 1) c.index-links-last.result) c.links.ensures) c.as_slice.ensures)
