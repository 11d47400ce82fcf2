use Rattle.std.proofs.Common.{◌∙◌, ap, arith, List, ℕ}
use Rattle.team_model.specs.declared.terms.Link.{Link}
use Rattle.link_graph.specs.Held.{arrived_of, took_of}
use Rattle.link_graph.specs.Positions.{linked}
use Rattle.link_graph.proofs.Webbing.{arrived_first, arrived_within, count_of}
use Rattle.link_graph.proofs.web.Web.line_up.Goals as goal

pub make_room-requires : goal.make_room-requires
make_room-requires c =
    let u = c.requires.unlined in
    let count = count_of c.args.self.now.holding (arrived_of c.args.self.now.holding) c.args.self.now.connected c.len.result u.entries u.linked c.len.ensures in
    let within = arrived_within c.args.self.now.holding u.set in
    record {
      few = let few = u.few in omega (arith, count, within, few);
      more = let h = u.within in omega (arith, h, c.len.ensures);
    }

pub add_all-requires-clause-few : goal.add_all-requires-clause-few
add_all-requires-clause-few c =
    let u = c.requires.unlined in
    let count = count_of c.args.self.now.holding (arrived_of c.args.self.now.holding) c.args.self.now.connected c.len.result u.entries u.linked c.len.ensures in
    let within = arrived_within c.args.self.now.holding u.set in
    let few = u.few in
    omega (arith, count, within, few, c.len.ensures)

pub add_all-requires-clause-first : goal.add_all-requires-clause-first
add_all-requires-clause-first c =
    arrived_first c.args.self.now.holding (linked c.links.result.now c.args.self.now.connected)
    (ap (λ (l : List Link). linked l c.args.self.now.connected) c.links.ensures ∙ c.requires.unlined.linked)

pub returns-in-Ok-clause-answer : goal.returns-in-Ok-clause-answer
returns-in-Ok-clause-answer c =
    let u = c.requires.unlined in
    c.in-Ok.ensures.answer ∙ ap (λ (n : ℕ). took_of c.args.before n) (count_of c.args.self.now.holding (arrived_of c.args.self.now.holding) c.args.self.now.connected c.len.result u.entries u.linked c.len.ensures)
