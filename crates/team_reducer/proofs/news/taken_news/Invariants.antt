use Rattle.std.proofs.Common.{◌≡◌, drop, fold}
use Rattle.team_model.specs.KeyLines.{take_new, taken_news}
use Rattle.team_reducer.proofs.news.taken_news.Given as goal

abbrev pub invariant-loop-key : goal.invariant-loop-key
invariant-loop-key l = fold (take_new l.state l.entry) l.taken.items (drop l.key-index l.news) ≡ taken_news l.state l.entry l.news
