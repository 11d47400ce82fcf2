use Rattle.std.proofs.Common.{rules, arith, [], ◌∷◌, refl}
use Rattle.tg_outside.proofs.Drawn.{drawn_none, drawn_more, drawn_no_more}
use Rattle.lms_keep.proofs.making.make_key.Goals as goal

pub returns-in_default-draw-clause-made : goal.returns-in_default-draw-clause-made
returns-in_default-draw-clause-made g c =
    let one = drawn_more _ _ _ [] c.in-Ok.first (drawn_none (g.E.Entropy.left c.args.entropy.now)) c.in-Ok.ensures.drawn in
    (c.in-Ok.first ∷ [], omega arith, drawn_no_more _ _ _ (c.in-Ok.first ∷ []) c.in_default-draw.field-0 one c.in_default-draw.ensures.drawn)

pub returns-in_default-draw-2-clause-made : goal.returns-in_default-draw-2-clause-made
returns-in_default-draw-2-clause-made g c =
    let one = drawn_more _ _ _ [] c.in-Ok.first (drawn_none (g.E.Entropy.left c.args.entropy.now)) c.in-Ok.ensures.drawn in
    let two = drawn_more _ _ _ (c.in-Ok.first ∷ []) c.in-Ok-draw.seed one c.in-Ok-draw.ensures.drawn in
    (c.in-Ok.first ∷ c.in-Ok-draw.seed ∷ [], omega arith, drawn_no_more _ _ _ (c.in-Ok.first ∷ c.in-Ok-draw.seed ∷ []) c.in_default-draw-2.field-0 two c.in_default-draw-2.ensures.drawn)

pub returns-clause-made : goal.returns-clause-made
returns-clause-made g c =
    let one = drawn_more _ _ _ [] c.in-Ok.first (drawn_none (g.E.Entropy.left c.args.entropy.now)) c.in-Ok.ensures.drawn in
    let two = drawn_more _ _ _ (c.in-Ok.first ∷ []) c.in-Ok-draw.seed one c.in-Ok-draw.ensures.drawn in
    let three = drawn_more _ _ _ (c.in-Ok.first ∷ c.in-Ok-draw.seed ∷ []) c.in-Ok-draw-2.secret two c.in-Ok-draw-2.ensures.drawn in
    (c.in-Ok.first, c.in-Ok-draw.seed, c.in-Ok-draw-2.secret, three, rw c.id_of.ensures.front refl)

pub returns-clause-range : goal.returns-clause-range
returns-clause-range g c = λ named. record {
  user = named;
  kinds = (omega arith, omega arith, omega arith, omega arith);
  id = c.id_of.ensures.range;
  seed = record { size = search rules; bytes = search rules };
  secret = record { size = search rules; bytes = search rules };
  next = omega arith;
}
