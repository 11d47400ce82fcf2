use Rattle.std.proofs.Common.{◌≡◌, ◌∙◌, ap, arith, length, take, refl, List, ℕ}
use Rattle.std.proofs.lemmas.Result.{IfOk-weaker}
use Rattle.team_sets.specs.Names.{Name}
use Rattle.link_graph.specs.Held.{arrived_of, took_of}
use Rattle.link_graph.specs.Positions.{linked}
use Rattle.link_graph.specs.Webs.{without_last}
use Rattle.link_graph.proofs.ChildLists.{take_front}
use Rattle.link_graph.proofs.Webbing.{awaiting_same, count_of, on_err, others_wait, unlined_when}
use Rattle.link_graph.proofs.web.Web.connect_last.Goals as goal

pub connect-requires : goal.connect-requires
connect-requires c =
    let w = c.requires.awaiting in
    record {
      few = let few = w.few in omega (arith, few);
      some = w.some;
      set = w.set;
      children = c.requires.children;
      entries = w.connected.entries;
      others = others_wait c.args.self.now.holding (linked c.args.self.now.holding c.args.self.now.connected) w.connected.linked;
    }

pub line_up-requires-clause-unlined : goal.line_up-requires-clause-unlined
line_up-requires-clause-unlined c =
    unlined_when c.args.self.now _ c.len-before.result c.requires.awaiting refl refl c.len-before.ensures c.in_ok-connect.ensures.entries c.in_ok-connect.ensures.follow c.in_ok-connect.ensures.grown

pub returns-clause-answer : goal.returns-clause-answer
returns-clause-answer c =
    let w = c.requires.awaiting in
    let size : c.len-before.result ≡ length (arrived_of (without_last c.args.self.now.holding)) =
    count_of c.args.self.now.holding (arrived_of (without_last c.args.self.now.holding)) c.args.self.now.connected c.len-before.result w.connected.entries w.connected.linked c.len-before.ensures in
    IfOk-weaker c.line_up.result _ _ (λ took h. h ∙ ap (λ (n : ℕ). took_of n (length (arrived_of c.args.self.now.holding))) size) c.line_up.ensures.answer

pub returns-clause-err : goal.returns-clause-err
returns-clause-err c =
    let back = ap (λ n. take n c.connect.new.connected) c.len-before.ensures ∙ ap (λ (l : List (Name × ℕ)). take (length c.args.self.now.connected) l) c.in_ok-connect.ensures.grown.1
    ∙ take_front c.args.self.now.connected c.in_ok-connect.ensures.grown.0 in
    on_err c.line_up.result _ _ _ _ _
    (λ err order heads room. awaiting_same c.args.self.now c.line_up.new.self c.requires.awaiting c.line_up.ensures.held (err ∙ back) order heads room)
    c.line_up.ensures.err c.line_up.ensures.order c.line_up.ensures.heads c.line_up.ensures.room
