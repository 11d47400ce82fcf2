use Rattle.invitations.specs.Parts.{AreOfToken, made_token, of_token_text, token_parts}
use Rattle.invitations.specs.TokenText.{IsToken, token_text}
use Rattle.invitations.proofs.PartLaws.{in_range, reads_chosen}
use Rattle.invitations.proofs.TokenLaws.{token_made}
use Rattle.invitations.proofs.token_file.read_token.Goals as goal

pub token_in-requires : goal.token_in-requires
token_in-requires c = in_range AreOfToken of_token_text c.args.text.now c.in_ok-found.found c.in_ok-found.ensures

pub returns : goal.returns
returns c = reads_chosen AreOfToken of_token_text IsToken token_text made_token token_parts c.args.text.now c.in_ok-found.found c.token_in.result token_made c.in_ok-found.ensures c.token_in.ensures
