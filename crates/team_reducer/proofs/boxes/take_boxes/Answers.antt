use Rattle.team_reducer.proofs.Fitting.{item-in}
use Rattle.team_reducer.proofs.boxes.take_boxes.Goals as goal

pub box_fits-requires : goal.box_fits-requires
box_fits-requires c = record {
  tainted = c.requires.tainted;
  known = c.requires.known c.line-item.result (item-in c.args.boxes.now c.loop-line.line-index c.line-item.result c.loop-line-test.true c.line-item.is);
}
