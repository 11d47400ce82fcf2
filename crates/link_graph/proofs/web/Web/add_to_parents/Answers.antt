use Rattle.std.proofs.Common.{◌∙◌, ◌++◌, ◌-◌, ap, sym, get_or, List, ℕ}
use Rattle.team_model.specs.declared.terms.Link.{Link}
use Rattle.link_graph.specs.Children.{named}
use Rattle.link_graph.proofs.Webbing.{child_last, on_ok}
use Rattle.link_graph.proofs.web.Web.add_to_parents.Goals as goal

pub returns-clause-ok : goal.returns-clause-ok
returns-clause-ok c =
    on_ok c.add.result _ _
    (λ has n.
    has n ∙ ap (λ (l : List ℕ). l ++ named (c.len-last.result - 1) c.as_slice.result.now n) (c.requires.children n)
    ∙ sym (child_last c.args.self.now.holding c.index-links-last.result (c.len-last.result - 1) c.as_slice.result.now n c.requires.some (ap (λ k. k - 1) c.len-last.ensures)
    (c.index-links-last.is ∙ ap (λ (l : List Link). get_or l (c.len-last.result - 1) c.index-links-last.result) c.links.ensures) c.as_slice.ensures))
    c.add.ensures.ok
