use Rattle.std.proofs.Common.{◌≡◌, ◌∙◌, ◌<◌, ◌≤◌, ◌+◌, ◌++◌, ◌∷◌, [], sym, ap, subst, false, List, ℕ, length}
use Rattle.tg_text.specs.Limits.{most_file_bytes, most_links}
use Rattle.team_sets.specs.Names.{has_name}
use Rattle.team_sets.specs.Order.{names}
use Rattle.team_model.specs.Judging.{name_of}
use Rattle.team_model.specs.declared.terms.Link.{Link}
use Rattle.link_text.specs.LinkText.{IsValid, text}
use Rattle.link_text.specs.TeamFile.{file_text}
use Rattle.link_graph.specs.Held.{Held}
use Rattle.link_graph.proofs.Facts.{size_more, valid_push}
use Rattle.link_graph.proofs.graph.Graph.hold.Goals as goal

pub put_with_parents-requires : goal.put_with_parents-requires
put_with_parents-requires c = record {
  few = subst (λ (h : Held). length h.links < most_links) (sym c.self.view_is) c.requires.space.few;
  text = c.requires.valid.reads.is_text;
  fresh = subst (λ (h : Held). has_name (names name_of h.links) c.args.link.name ≡ false) (sym c.self.view_is) c.requires.fresh;
  web = c.self.invariant.fits;
  parents = c.self.invariant.parents;
}

pub invariant_of-self-2 : goal.invariant_of-self-2
invariant_of-self-2 c =
    let is : c.args.bytes.now ≡ text c.args.link = c.requires.valid.reads.is_text in
    let here : IsValid c.self.inside.team c.args.bytes.now c.args.link = subst (λ (h : Held). IsValid h.team c.args.bytes.now c.args.link) (sym c.self.view_is) c.requires.valid in
    let fits : length (file_text c.self.inside.team (c.self.inside.web.holding ++ c.args.link ∷ [])) ≤ most_file_bytes =
    subst (λ (h : Held). length (file_text h.team (h.links ++ c.args.link ∷ [])) ≤ most_file_bytes) (sym c.self.view_is) c.requires.space.short in
    let size : c.self.inside.bytes + c.frame_length.result ≡ length (file_text c.self.inside.team (c.self.inside.web.holding ++ c.args.link ∷ [])) =
    size_more (record { team = c.self.inside.team; links = c.self.inside.web.holding }) c.args.link c.self.inside.bytes c.frame_length.result (length c.args.bytes.now)
    c.self.invariant.size c.frame_length.ensures.length (ap (λ (b : List ℕ). length b) is) in
    record {
      valid = rw c.in_ok-took.ensures.ok (valid_push c.self.inside.team c.self.inside.web.holding c.args.link c.self.invariant.valid (subst (λ b. IsValid c.self.inside.team b c.args.link) is here));
      size = size ∙ ap (λ (l : List Link). length (file_text c.self.inside.team l)) (sym c.in_ok-took.ensures.ok);
      short = subst (λ n. n ≤ most_file_bytes) (sym size) fits;
      fits = c.put_with_parents.ensures.web;
      parents = c.put_with_parents.ensures.parents;
    }
