use Rattle.std.proofs.Common.{◌≡◌, ◌<◌, ◌∙◌, ap, sym, subst, length, slice_get, option_map, List}
use Rattle.team_sets.proofs.Lists.{some_at}
use Rattle.team_model.specs.declared.terms.Link.{Link}
use Rattle.link_text.specs.LinkText.{text}
use Rattle.link_graph.specs.Held.{Held, arrived_of}
use Rattle.link_graph.proofs.Names.{get_within}
use Rattle.link_graph.proofs.graph.Graph.text_at.Goals as goal

pub text_at-requires : goal.text_at-requires
text_at-requires c =
    let there : c.args.self.now.links ≡ c.self.inside.web.holding = ap (λ (h : Held). h.links) (sym c.self.view_is) in
    let x = some_at (arrived_of c.args.self.now.links) c.args.position c.requires.given in
    record { held = subst (λ (l : List Link). c.place_at.result < length l) there (get_within c.args.self.now.links c.place_at.result x.0 (c.place_at.ensures ∙ x.1)) }

pub returns : goal.returns
returns c =
    let there : c.args.self.now.links ≡ c.self.inside.web.holding = ap (λ (h : Held). h.links) (sym c.self.view_is) in
    ap (option_map text) (sym c.place_at.ensures ∙ ap (λ (l : List Link). slice_get l c.place_at.result) there) ∙ c.text_at.ensures
