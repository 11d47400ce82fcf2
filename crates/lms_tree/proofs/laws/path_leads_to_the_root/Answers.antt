use Rattle.lms_tree.proofs.Verified.{path_leads_to_the_root}
use Rattle.lms_tree.proofs.laws.path_leads_to_the_root.Goals as goal

pub returns : goal.returns
returns c = path_leads_to_the_root
