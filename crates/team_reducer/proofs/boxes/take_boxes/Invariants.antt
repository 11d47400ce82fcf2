use Rattle.std.proofs.Common.{◌≡◌, drop, fold}
use Rattle.key_reach.specs.Keys.{current_keys}
use Rattle.team_model.specs.KeyLines.{take_box, taken_boxes}
use Rattle.team_model.specs.KeyTables.{key_table}
use Rattle.team_reducer.proofs.boxes.take_boxes.Given as goal

abbrev pub invariant-loop-line : goal.invariant-loop-line
invariant-loop-line l = fold (take_box l.state (current_keys (key_table l.keyed))) l.taken.items (drop l.line-index l.boxes) ≡ taken_boxes l.state (current_keys (key_table l.keyed)) l.boxes
