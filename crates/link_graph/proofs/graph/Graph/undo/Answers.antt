use Rattle.std.proofs.Common.{◌∙◌, ap, arith, List, length}
use Rattle.team_model.specs.declared.terms.Link.{Link}
use Rattle.link_text.specs.TeamFile.{file_text}
use Rattle.link_graph.proofs.Ancestries.{cut-parents}
use Rattle.link_graph.proofs.Facts.{last_short, last_size, others_valid}
use Rattle.link_graph.proofs.graph.Graph.undo.Goals as goal

pub frame_length-frame-requires : goal.frame_length-frame-requires
frame_length-frame-requires c =
    last_short c.self.inside.team c.self.inside.web.holding c.last_len.result (rw (← c.self.view_is) at c.requires.held) c.self.invariant.valid c.last_len.ensures

pub overflow_sub-self : goal.overflow_sub-self
overflow_sub-self c =
    let size = last_size c.self.inside.team c.self.inside.web.holding c.last_len.result (rw (← c.self.view_is) at c.requires.held) c.self.invariant.valid c.last_len.ensures in
    let is = c.self.invariant.size in
    let frame = c.frame_length-frame.ensures.length in
    omega (arith, size, is, frame)

pub invariant_of-self : goal.invariant_of-self
invariant_of-self c =
    let some = rw (← c.self.view_is) at c.requires.held in
    let size = last_size c.self.inside.team c.self.inside.web.holding c.last_len.result (rw (← c.self.view_is) at c.requires.held) c.self.invariant.valid c.last_len.ensures in
    let is = c.self.invariant.size in
    let short = c.self.invariant.short in
    let frame = c.frame_length-frame.ensures.length in
    record {
      valid = rw c.take_out.ensures.held (others_valid c.self.inside.team c.self.inside.web.holding c.last_len.result (rw (← c.self.view_is) at c.requires.held) c.self.invariant.valid c.last_len.ensures);
      size = let same = ap (λ (l : List Link). length (file_text c.self.inside.team l)) c.take_out.ensures.held in omega (arith, size, is, frame, same);
      short = omega (arith, short);
      fits = c.take_out.ensures.web;
      parents = c.truncate.ensures
          ∙ cut-parents c.self.inside.web.holding c.take_out.new.self.holding c.args.connected c.self.inside.ancestry (rw (← c.self.view_is) at c.requires.held)
          (rw (← c.self.view_is) at c.requires.connected) c.self.invariant.parents c.take_out.ensures.held;
    }
