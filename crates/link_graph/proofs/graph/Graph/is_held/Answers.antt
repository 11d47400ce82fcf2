use Rattle.std.proofs.Common.{◌≤◌, subst}
use Rattle.tg_text.specs.Limits.{most_file_bytes}
use Rattle.link_graph.proofs.graph.Graph.is_held.Goals as goal

pub returns : goal.returns
returns c =
    rw (← c.self.view_is)
    (record {
      team = c.as_slice.ensures.range;
      valid = c.self.invariant.valid;
      set = c.self.invariant.fits.set;
      few = c.self.invariant.fits.few;
      short = subst (λ n. n ≤ most_file_bytes) c.self.invariant.size c.self.invariant.short;
    })
