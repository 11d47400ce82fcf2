use Rattle.report_commands.proofs.Unheld.{explains_unheld}
use Rattle.report_commands.proofs.why.refuse_unheld.Goals as goal

pub returns-clause-said : goal.returns-clause-said
returns-clause-said c = explains_unheld c.args.graph.now.links c.args.name.now c.say.result c.requires.unheld c.say.ensures
