use Rattle.link_intake.proofs.MergedFiles.{any_order}
use Rattle.link_intake.proofs.laws.merges_in_any_order.Goals as goal

pub returns : goal.returns
returns c = any_order c.link_is_spelled_once.ensures c.file_is_read_once.ensures c.bundle_is_read_once.ensures.once c.file_is_of_set.ensures
