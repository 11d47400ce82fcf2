use Rattle.std.proofs.Common.{◌∙◌, ◌&&◌, ◌++◌, not, length, nat_lt, ap, sym}
use Rattle.std.specs.List.{list_any}
use Rattle.team_sets.specs.Closure.{has}
use Rattle.key_reach.specs.Keys.{current_keys, is_tainted, same_key}
use Rattle.team_model.specs.KeyLines.{same_line}
use Rattle.team_model.specs.KeyTables.{is_allowed, key_table}
use Rattle.team_model.specs.Limits.{most_boxes}
use Rattle.team_reducer.proofs.Fitting.{regrouped}
use Rattle.team_reducer.proofs.boxes.box_fits.Goals as goal

pub returns-then-joins_well : goal.returns-then-joins_well
returns-then-joins_well c =
    let s = c.args.state.now in
    let b = c.args.line.now in
    let keys = current_keys (key_table c.args.keyed.now) in
    let held = s.boxes ++ c.args.taken.now in
    let room = not (list_any (same_line b) held) && nat_lt (length held) most_boxes in
    c.has_place.ensures ∙ ap (λ j. j && room) (sym c.if-joins_well.true ∙ c.joins_well.ensures)
    ∙ regrouped (has same_key keys b.to) (has same_key keys b.of) (is_allowed s b.to.scope b.of.scope) (not (is_tainted (key_table s) b.to)) room
