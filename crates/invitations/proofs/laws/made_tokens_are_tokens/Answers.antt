use Rattle.invitations.proofs.LeafLaws.{made_tokens}
use Rattle.invitations.proofs.laws.made_tokens_are_tokens.Goals as goal

pub returns : goal.returns
returns c = made_tokens
