use Rattle.invitations.specs.TokenText.{IsTokenFile, token_file_text}
use Rattle.invitations.proofs.PartLaws.{in_range}
use Rattle.text_cases.proofs.invitation_tables.fresh_token.Goals as goal

pub fresh_in-requires : goal.fresh_in-requires
fresh_in-requires c = in_range IsTokenFile token_file_text c.as_slice.result.now c.in_ok-file.file c.in_ok-file.ensures
