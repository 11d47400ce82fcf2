use Rattle.std.proofs.Common.{◌≡◌, ◌||◌, ◌∙◌, Bool, List, ap, false, get_or, length, replicate, sym}
use Rattle.std.proofs.lemmas.List.{length-replicate}
use Rattle.replica.specs.Settling.{is_struck_at}
use Rattle.link_graph.proofs.Marks.{none_marked, whole_flags}
use Rattle.replica.proofs.settling.struck_flags.Goals as goal

pub returns-clause-size : goal.returns-clause-size
returns-clause-size c =
    let zeros : c.in_ok-flags.flags.items ≡ replicate (length c.args.standing.now) false = c.in_ok-flags.ensures.items_if_clones_equal (λ y h. h) in
    let same : length c.mark_struck.new.flags ≡ length c.in_ok-flags.flags.items = c.mark_struck.auto.flags ∙ ap length c.deref_mut.ensures.value in
    ap length
    (whole_flags c.in_ok-flags.flags.len c.mark_struck.new.flags c.in_ok-flags.flags.items same (c.in_ok-flags.ensures.len ∙ sym (ap length zeros ∙ length-replicate (length c.args.standing.now) false)))
    ∙ same ∙ ap length zeros ∙ length-replicate (length c.args.standing.now) false

pub returns-clause-marks : goal.returns-clause-marks
returns-clause-marks c =
    let zeros : c.in_ok-flags.flags.items ≡ replicate (length c.args.standing.now) false = c.in_ok-flags.ensures.items_if_clones_equal (λ y h. h) in
    let same : length c.mark_struck.new.flags ≡ length c.in_ok-flags.flags.items = c.mark_struck.auto.flags ∙ ap length c.deref_mut.ensures.value in
    λ i.
    ap (λ (l : List Bool). get_or l i false)
    (whole_flags c.in_ok-flags.flags.len c.mark_struck.new.flags c.in_ok-flags.flags.items same (c.in_ok-flags.ensures.len ∙ sym (ap length zeros ∙ length-replicate (length c.args.standing.now) false)))
    ∙ c.mark_struck.ensures.marks i
    ∙ ap (λ b. b || is_struck_at c.args.strikes.now c.args.standing.now i)
    (ap (λ (l : List Bool). get_or l i false) (c.deref_mut.ensures.value ∙ zeros) ∙ none_marked (length c.args.standing.now) i)
