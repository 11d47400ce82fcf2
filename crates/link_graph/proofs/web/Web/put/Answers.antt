use Rattle.std.proofs.Common.{refl}
use Rattle.link_graph.proofs.Webbing.{awaiting_push}
use Rattle.link_graph.proofs.web.Web.put.Goals as goal

pub link_last-requires-clause-awaiting : goal.link_last-requires-clause-awaiting
link_last-requires-clause-awaiting c = awaiting_push c.args.self.now _ c.args.link c.requires.web c.requires.few c.requires.fresh c.in_ok-push.ensures.ok refl refl
