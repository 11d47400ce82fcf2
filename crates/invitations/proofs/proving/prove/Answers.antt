use Rattle.std.proofs.Common.{rules, ◌∙◌, ap, List, ℕ}
use Rattle.invitations.specs.TokenText.{signature_by}
use Rattle.invitations.proofs.LeafLaws.{proof_is}
use Rattle.invitations.proofs.proving.prove.Goals as goal

pub returns-clause-range : goal.returns-clause-range
returns-clause-range c = λ key.
    proof_is c.args.token.now c.args.user.now c.args.key.now c.args.seal.now c.in_ok-signature.signature c.requires c.as_slice.ensures.name key (record { size = search rules; bytes = search rules })
    (c.in_ok-signature.ensures.bytes ∙ ap (λ (m : List ℕ). signature_by c.args.token.now m) (c.as_slice-2.ensures ∙ c.in_ok-body.ensures))
