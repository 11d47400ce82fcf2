use Rattle.std.proofs.Common.{sym, subst}
use Rattle.team_files.specs.Bundles.{IsBundle}
use Rattle.team_files.specs.Pieces.{Answers, last_items}
use Rattle.team_files.proofs.ComingItems.{one_piece}
use Rattle.team_files.proofs.bundle.read_items.Goals as goal

pub returns : goal.returns
returns c =
    subst (IsBundle c.args.bytes.now) (sym c.in_ok-add_last.ensures)
    (one_piece c.args.bytes.now c.in_ok-items.items (last_items c.end.result) c.feed.new.self
    (subst (λ s. Answers s c.args.bytes.now c.in_ok-items.items c.feed.new.self) c.new-bundle.ensures c.in_ok-items.ensures.ok) c.end.ensures)
