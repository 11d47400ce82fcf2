use Rattle.std.proofs.Common.{◌∙◌, sym}
use Rattle.replica.proofs.Noting.{none_noted}
use Rattle.replica.proofs.striking.note_strikes.Goals as goal

pub returns-then-not-is_lawful : goal.returns-then-not-is_lawful
returns-then-not-is_lawful c =
    none_noted c.args.graph.now.links c.args.reasons.now c.args.position c.requires.last c.args.pairs.now.items (sym c.is_lawful.ensures ∙ c.if-not-is_lawful.true) c.requires.before
