use Rattle.std.proofs.Common.{◌∙◌, ap, List, insert}
use Rattle.team_sets.specs.Names.{Name, name_lt, put_in}
use Rattle.link_graph.specs.Heads.{place_before, without}
use Rattle.link_graph.proofs.HeadNames.{put_at}
use Rattle.link_graph.proofs.heads.add_head.Goals as goal

pub returns-clause-heads : goal.returns-clause-heads
returns-clause-heads c =
    c.insert_within.ensures.items
    ∙ ap (λ n. insert c.remove_parents.new.heads.items n c.args.link.now.name) (c.place_of-place.ensures.place ∙ ap (λ (l : List Name). place_before c.args.link.now.name l) c.deref.ensures.value)
    ∙ put_at c.args.link.now.name c.remove_parents.new.heads.items
    ∙ ap (λ (l : List Name). put_in name_lt c.args.link.now.name l) (c.remove_parents.ensures.names ∙ ap (λ (ps : List Name). without ps c.args.heads.now.items) c.as_slice.ensures)
