use Rattle.std.proofs.Common.{◌∙◌, sym, ap, arith, List, length}
use Rattle.team_model.specs.declared.terms.Link.{Link}
use Rattle.link_text.specs.TeamFile.{file_text}
use Rattle.link_graph.proofs.Facts.{empty_size}
use Rattle.link_graph.specs.Held.{arrived_of}
use Rattle.link_graph.specs.Parentage.{parents_in}
use Rattle.link_graph.proofs.graph.Graph.new.Goals as goal

pub invariant_of-result : goal.invariant_of-result
invariant_of-result c = record {
  valid = rw c.new.ensures.none tt;
  size = c.header_length.ensures.length ∙ empty_size c.args.team ∙ ap (λ (l : List Link). length (file_text c.args.team l)) (sym c.new.ensures.none);
  short = let h = c.header_length.ensures.small in omega (arith, h);
  fits = c.new.ensures.web;
  parents = c.new-2.ensures ∙ ap (λ (l : List Link). parents_in (arrived_of l)) (sym c.new.ensures.none);
}
