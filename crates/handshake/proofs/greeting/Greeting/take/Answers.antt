use Rattle.std.proofs.Common.{ap}
use Rattle.handshake.specs.Greetings.{End}
use Rattle.handshake.proofs.Taking.{asked, read_again, taken}
use Rattle.handshake.proofs.greeting.Greeting.take.Goals as goal

pub returns-clause-takes : goal.returns-clause-takes
returns-clause-takes c = taken c.args.state.now c.args.message.now c.args.self.now _ c.in_ok-found.found c.in_ok-reaction.reaction c.in_ok-found.ensures c.in_ok-reaction.ensures (ap (λ (x : End). record x { stage = c.in_ok-reaction.reaction.stage }) c.self.view_is)

pub returns-clause-asked : goal.returns-clause-asked
returns-clause-asked c = asked c.args.state.now c.args.self.now c.in_ok-found.found c.in_ok-reaction.reaction c.in_ok-reaction.ensures

pub returns-clause-read_again : goal.returns-clause-read_again
returns-clause-read_again c = read_again c.args.state.now c.args.message.now c.args.self.now c.in_ok-found.found c.in_ok-reaction.reaction c.in_ok-found.ensures c.in_ok-reaction.ensures
