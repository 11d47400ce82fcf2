use Rattle.std.proofs.Common.{◌∙◌, ◌<◌, ◌≤◌, sym, ap, subst, arith, inl, inr, List, length}
use Rattle.tg_text.specs.Limits.{most_links}
use Rattle.team_model.specs.declared.terms.Link.{Link}
use Rattle.link_text.specs.TeamFile.{file_text}
use Rattle.link_graph.specs.Held.{Held}
use Rattle.link_graph.proofs.Facts.{long_more, many_more, space_more}
use Rattle.link_graph.proofs.graph.Graph.admit.Goals as goal

pub overflow_add-bytes : goal.overflow_add-bytes
overflow_add-bytes c = let short = c.self.invariant.short in let small = c.frame_length.ensures.small in omega (arith, short, small)

pub returns-then-links-ge-MOST_LINKS-clause-fault : goal.returns-then-links-ge-MOST_LINKS-clause-fault
returns-then-links-ge-MOST_LINKS-clause-fault c =
    let size = c.self.invariant.size ∙ ap (λ (h : Held). length (file_text h.team h.links)) c.self.view_is in (
      sym c.holds.ensures ∙ c.if-holds.false,
      elim c.then-links-ge-MOST_LINKS.either [
        | inl many ↦ many_more c.args.self.now c.args.link.now c.self.inside.bytes c.frame_length.result c.args.len size c.frame_length.ensures.length c.requires.len
            (subst (λ (l : List Link). most_links ≤ length l) c.links.ensures many)
        | inr more ↦ long_more c.args.self.now c.args.link.now c.self.inside.bytes c.frame_length.result c.args.len size c.frame_length.ensures.length c.requires.len more.1
      ],
      c.held.ensures,
      size,
    )

pub returns-clause-space : goal.returns-clause-space
returns-clause-space c =
    let size = c.self.invariant.size ∙ ap (λ (h : Held). length (file_text h.team h.links)) c.self.view_is in
    space_more c.args.self.now c.args.link.now c.self.inside.bytes c.frame_length.result c.args.len size c.frame_length.ensures.length c.requires.len
    (subst (λ (l : List Link). length l < most_links) c.links.ensures c.if-links-ge-MOST_LINKS.false) c.if-bytes-gt-MOST_FILE_BYTES.false
