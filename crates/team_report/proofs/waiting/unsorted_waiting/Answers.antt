use Rattle.std.proofs.Common.{◌≡◌, ◌∙◌, ◌<◌, List, ap, get_or, length, subst}
use Rattle.team_model.specs.declared.terms.Link.{Link}
use Rattle.team_report.proofs.Waits.{enters}
use Rattle.team_report.proofs.waiting.unsorted_waiting.Goals as goal

pub loop-place-preserved : goal.loop-place-preserved
loop-place-preserved c =
    let links = c.args.graph.now.links in
    let place = c.loop-place.place in
    let link = c.index-links-place.result in
    let within : place < length links = subst (λ (l : List Link). place < length l) c.links-links.ensures c.loop-place-test.true in
    let at : link ≡ get_or links place link = c.index-links-place.is ∙ ap (λ (l : List Link). get_or l place link) c.links-links.ensures in
    let next = enters links place link c.loop-place.entries.items c.enter.new.entries.items within at c.in_ok-enter.ensures c.loop-place.invariant.entries c.loop-place.invariant.linked in
    record { entries = next.0; linked = next.1 }
