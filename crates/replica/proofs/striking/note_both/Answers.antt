use Rattle.std.proofs.Common.{◌∙◌, refl, sym}
use Rattle.replica.proofs.Noting.{noted_with, noted_without}
use Rattle.replica.proofs.striking.note_both.Goals as goal

pub returns-then-not-is_lawful : goal.returns-then-not-is_lawful
returns-then-not-is_lawful c =
    noted_without c.args.graph.now.links c.args.reasons.now c.args.later c.args.earlier c.args.pairs.now.items c.args.pairs.now.items c.requires.before
    (sym c.is_lawful.ensures ∙ c.if-not-is_lawful.true) c.requires.so_far refl

pub returns : goal.returns
returns c =
    noted_with c.args.graph.now.links c.args.reasons.now c.args.later c.args.earlier c.args.pairs.now.items c.note_strike.new.pairs.items c.note_strike-2.new.pairs.items c.requires.before c.requires.lawful
    (sym c.is_lawful.ensures ∙ c.if-not-is_lawful.false) c.requires.so_far c.in_ok-note_strike.ensures c.in_ok-note_strike-2.ensures
