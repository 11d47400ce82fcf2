use Rattle.std.proofs.Common.{◌≡◌, ◌-◌, ◌∙◌, sym, refl, arith}
use Rattle.invitations.specs.Making.{tokens_from}
use Rattle.invitations.proofs.TokenLists.{tokens_step, tokens_end, tokens_more}
use Rattle.invitations.proofs.inviting.make_of.Goals as goal

pub loop-leaf-init : goal.loop-leaf-init
loop-leaf-init c =
    let all : c.args.uses - 0 ≡ c.args.uses = omega arith in
    rw (c.new-tokens.ensures, all) (record { made = refl; all = tt })

pub loop-leaf-preserved : goal.loop-leaf-preserved
loop-leaf-preserved c =
    let terms = c.args.terms.now in
    rw c.in_ok-push.ensures.ok (record {
      made = tokens_step terms.team terms.kind terms.user c.args.key.now c.loop-leaf.leaf c.args.uses c.loop-leaf.tokens c.in_ok-token.token c.loop-leaf-test.true c.in_ok-token.ensures.made
          ∙ c.loop-leaf.invariant.made;
      all = tokens_more c.loop-leaf.tokens c.in_ok-token.token c.loop-leaf.invariant.all c.in_ok-token.ensures.token;
    })

pub returns-clause-made : goal.returns-clause-made
returns-clause-made c =
    let terms = c.args.terms.now in
    let all : c.loop-leaf.tokens ≡ tokens_from terms.team terms.kind terms.user c.args.key.now 0 c.args.uses =
    sym (tokens_end terms.team terms.kind terms.user c.args.key.now c.loop-leaf.leaf c.args.uses c.loop-leaf.tokens (omega arith)) ∙ c.loop-leaf.invariant.made in
    rw (c.public.ensures, c.in_ok-tree.ensures, all) refl

pub returns-clause-tokens : goal.returns-clause-tokens
returns-clause-tokens c = c.loop-leaf.invariant.all
