use Rattle.std.proofs.Common.{rules}
use Rattle.team_files.proofs.Places.{ends_with, stands_at}
use Rattle.team_files.proofs.reading.place_of.Goals as goal

pub overflow_sub-end : goal.overflow_sub-end
overflow_sub-end c = let fits = ends_with c.args.bytes.now c.requires.0 c.args.content.now c.args.after.now c.requires.1 in search (rules, fits.0)

pub overflow_sub-start : goal.overflow_sub-start
overflow_sub-start c = let fits = ends_with c.args.bytes.now c.requires.0 c.args.content.now c.args.after.now c.requires.1 in search (rules, fits.1)

pub returns : goal.returns
returns c = let stands = stands_at c.args.bytes.now c.requires.0 c.args.content.now c.args.after.now c.requires.1 in search (rules, stands)
