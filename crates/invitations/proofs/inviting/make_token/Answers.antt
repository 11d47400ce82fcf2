use Rattle.invitations.proofs.LeafLaws.{made_tokens}
use Rattle.invitations.proofs.inviting.make_token.Goals as goal

pub returns-clause-token : goal.returns-clause-token
returns-clause-token c =
    let terms = c.args.terms.now in
    rw (c.public.ensures, c.ots_random.ensures, c.in_ok-secrets.ensures, c.from_vec.ensures, c.in_ok-path.ensures, c.requires.tree)
    (made_tokens terms.team terms.kind terms.user c.args.key.now c.args.leaf c.requires.key c.are_named.ensures.team c.are_named.ensures.user c.requires.invited c.requires.leaf)
