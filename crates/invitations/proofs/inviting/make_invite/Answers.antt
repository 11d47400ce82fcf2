use Rattle.std.proofs.Common.{arith, [], ◌∷◌, refl}
use Rattle.tg_outside.proofs.Drawn.{drawn_none, drawn_more, drawn_no_more}
use Rattle.invitations.proofs.TokenLists.{made_none}
use Rattle.invitations.proofs.inviting.make_invite.Goals as goal

pub returns-in_default-draw-clause-made : goal.returns-in_default-draw-clause-made
returns-in_default-draw-clause-made g c =
    let one = drawn_more _ _ _ [] c.in-Ok.first (drawn_none (g.E.Entropy.left c.args.entropy.now)) c.in-Ok.ensures.drawn in
    (c.in-Ok.first ∷ [], omega arith, drawn_no_more _ _ _ (c.in-Ok.first ∷ []) c.in_default-draw.field-0 one c.in_default-draw.ensures.drawn)

pub returns-in_err-invite-clause-made : goal.returns-in_err-invite-clause-made
returns-in_err-invite-clause-made g c =
    let one = drawn_more _ _ _ [] c.in-Ok.first (drawn_none (g.E.Entropy.left c.args.entropy.now)) c.in-Ok.ensures.drawn in
    let two = drawn_more _ _ _ (c.in-Ok.first ∷ []) c.in-Ok-draw.seed one c.in-Ok-draw.ensures.drawn in
    made_none _ _ c.args.team.now c.args.kind c.args.user c.args.uses _ c.in-Ok.first c.in-Ok-draw.seed c.from_residual.ensures.1 two

pub returns-clause-made : goal.returns-clause-made
returns-clause-made g c =
    let one = drawn_more _ _ _ [] c.in-Ok.first (drawn_none (g.E.Entropy.left c.args.entropy.now)) c.in-Ok.ensures.drawn in
    let two = drawn_more _ _ _ (c.in-Ok.first ∷ []) c.in-Ok-draw.seed one c.in-Ok-draw.ensures.drawn in
    (c.in-Ok.first, c.in-Ok-draw.seed, two, rw (← c.front_half.ensures.front) c.in_ok-invite.ensures.made)
