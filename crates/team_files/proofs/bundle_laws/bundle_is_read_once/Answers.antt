use Rattle.std.proofs.Common.{[]}
use Rattle.tg_text.specs.Limits.{most_file_bytes}
use Rattle.team_files.proofs.ItemLists.{all_judged, judged_once}
use Rattle.team_files.proofs.bundle_laws.bundle_is_read_once.Goals as goal

pub returns-clause-once : goal.returns-clause-once
returns-clause-once c = λ input items others is other. judged_once _ [] input items others is other

pub returns-clause-some : goal.returns-clause-some
returns-clause-some c = λ input. all_judged most_file_bytes [] input
