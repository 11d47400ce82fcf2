use Rattle.std.proofs.Common.{refl}
use Rattle.std.proofs.lemmas.List.Concat.{concat_is}
use Rattle.lms_ots.specs.Digits.{u32str}
use Rattle.invitations.specs.TokenText.{signature_by}
use Rattle.invitations.proofs.LeafLaws.{token_signs}
use Rattle.invitations.proofs.proving.sign.Goals as goal

pub returns-clause-bytes : goal.returns-clause-bytes
unfolding signature_by u32str
returns-clause-bytes c =
    rw (c.in_ok-append-4.ensures.ok, c.in_ok-append-3.ensures.ok, c.in_ok-append-2.ensures.ok, c.in_ok-append.ensures.ok, c.new-out.ensures, c.to_be_bytes.ensures, c.ots_sign.ensures.bytes, c.id_of.ensures, c.as_slice.ensures, c.to_be_bytes-2.ensures, c.number.ensures, c.as_flattened.ensures.value, c.as_slice-2.ensures, concat_is c.args.token.now.path) refl

pub returns-clause-verifies : goal.returns-clause-verifies
returns-clause-verifies c = rw (returns-clause-bytes c) (token_signs c.args.token.now c.args.message.now c.requires)
