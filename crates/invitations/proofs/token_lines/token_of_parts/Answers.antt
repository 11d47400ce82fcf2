use Rattle.invitations.proofs.TokenLaws.{fields_of}
use Rattle.invitations.proofs.token_lines.token_of_parts.Goals as goal

pub returns-clause-fields : goal.returns-clause-fields
returns-clause-fields c = fields_of c.args.parts c.requires
