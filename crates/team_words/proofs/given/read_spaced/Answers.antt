use Rattle.std.proofs.Common.{◌∙◌, Global, map, string_bytes, sym}
use Rattle.team_words.proofs.GivenActs.{gives_other, gives_some}
use Rattle.team_words.proofs.given.read_spaced.Goals as goal

pub returns-then-fits : goal.returns-then-fits
returns-then-fits c =
    gives_some (map (string_bytes {Z = Global}) c.args.words.now) c.in-Some.act (rw (c.requires, c.in-Some.is) at c.in_ok-act.ensures) (sym c.fits.ensures ∙ c.if-fits.true)

pub returns-else-fits : goal.returns-else-fits
returns-else-fits c =
    gives_other (map (string_bytes {Z = Global}) c.args.words.now) c.in-Some.act (rw (c.requires, c.in-Some.is) at c.in_ok-act.ensures) (sym c.fits.ensures ∙ c.if-fits.false)
