use Rattle.std.proofs.Common.{◌≡◌, ◌∙◌, ap, false, length, replicate, sym}
use Rattle.std.proofs.lemmas.List.{length-replicate}
use Rattle.link_graph.proofs.Marks.{whole_flags}
use Rattle.link_graph.proofs.below.find_within.Goals as goal

pub mark_within-requires : goal.mark_within-requires
mark_within-requires c =
    record { none = c.deref_mut.ensures.value ∙ c.in_ok-flags.ensures.items_if_clones_equal (λ y h. h) ∙ ap (λ n. replicate n false) c.connected.ensures }

pub returns : goal.returns
returns c =
    let zeros : c.in_ok-flags.flags.items ≡ replicate c.connected.result false = c.in_ok-flags.ensures.items_if_clones_equal (λ y h. h) in
    let same : length c.mark_within.new.flags ≡ length c.in_ok-flags.flags.items = c.mark_within.auto.flags ∙ ap length c.deref_mut.ensures.value in
    whole_flags c.in_ok-flags.flags.len c.mark_within.new.flags c.in_ok-flags.flags.items same
    (c.in_ok-flags.ensures.len ∙ sym (ap length zeros ∙ length-replicate c.connected.result false))
    ∙ c.mark_within.ensures
