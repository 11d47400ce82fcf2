use Rattle.std.proofs.Common.{◌≡◌, ◌||◌, ◌∙◌, Bool, List, ap, false, get_or, length, replicate, sym}
use Rattle.std.proofs.lemmas.List.{length-replicate}
use Rattle.team_sets.specs.Names.{has_name}
use Rattle.replica.specs.Settling.{standing_names}
use Rattle.link_graph.proofs.Marks.{none_marked, whole_flags}
use Rattle.replica.proofs.settling.standing_flags.Goals as goal

pub returns-clause-size : goal.returns-clause-size
returns-clause-size c =
    let zeros : c.in_ok-flags.flags.items ≡ replicate c.connected.result false = c.in_ok-flags.ensures.items_if_clones_equal (λ y h. h) in
    let same : length c.mark_standing.new.flags ≡ length c.in_ok-flags.flags.items = c.mark_standing.auto.flags ∙ ap length c.deref_mut.ensures.value in
    ap length
    (whole_flags c.in_ok-flags.flags.len c.mark_standing.new.flags c.in_ok-flags.flags.items same (c.in_ok-flags.ensures.len ∙ sym (ap length zeros ∙ length-replicate c.connected.result false)))
    ∙ same ∙ ap length zeros ∙ length-replicate c.connected.result false ∙ c.connected.ensures

pub returns-clause-marks : goal.returns-clause-marks
returns-clause-marks c =
    let zeros : c.in_ok-flags.flags.items ≡ replicate c.connected.result false = c.in_ok-flags.ensures.items_if_clones_equal (λ y h. h) in
    let same : length c.mark_standing.new.flags ≡ length c.in_ok-flags.flags.items = c.mark_standing.auto.flags ∙ ap length c.deref_mut.ensures.value in
    λ i x at.
    ap (λ (l : List Bool). get_or l i false)
    (whole_flags c.in_ok-flags.flags.len c.mark_standing.new.flags c.in_ok-flags.flags.items same (c.in_ok-flags.ensures.len ∙ sym (ap length zeros ∙ length-replicate c.connected.result false)))
    ∙ c.mark_standing.ensures.marks i x at
    ∙ ap (λ b. b || has_name (standing_names c.args.acts.now c.args.decisions.now) x.name)
    (ap (λ (l : List Bool). get_or l i false) (c.deref_mut.ensures.value ∙ zeros) ∙ none_marked c.connected.result i)
