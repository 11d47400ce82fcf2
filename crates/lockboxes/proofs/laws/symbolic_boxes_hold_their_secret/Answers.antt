use Rattle.lockboxes.specs.SymbolicLaws.{unseal_content}
use Rattle.lockboxes.proofs.Contents.{content_of_box}
use Rattle.lockboxes.proofs.laws.symbolic_boxes_hold_their_secret.Goals as goal

pub returns : goal.returns
returns c = λ bytes secret content. (content_of_box bytes secret content, λ is. rw is.1 (unseal_content content secret is.0))
