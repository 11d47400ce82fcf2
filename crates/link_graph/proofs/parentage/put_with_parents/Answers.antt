use Rattle.std.proofs.Common.{◌≡◌, ◌∙◌, ap, sym, arith, length, List}
use Rattle.std.proofs.lemmas.List.{length_push}
use Rattle.team_model.specs.declared.terms.Link.{Link}
use Rattle.link_graph.specs.Held.{arrived_of}
use Rattle.link_graph.specs.Parentage.{parents_in}
use Rattle.link_graph.specs.Positions.{linked}
use Rattle.link_graph.specs.Webs.{without_last}
use Rattle.link_graph.proofs.Ancestries.{parents-so-far}
use Rattle.link_graph.proofs.Facts.{connected_count, connected_few}
use Rattle.link_graph.proofs.Webbing.{arrived_first, front_push}
use Rattle.link_graph.proofs.parentage.put_with_parents.Goals as goal

pub add_connected-requires : goal.add_connected-requires
add_connected-requires c =
    let web = c.put.ensures.web in
    let few = connected_few _ c.put.ensures.web in
    record {
      few = few;
      entries = rw c.links.ensures web.connected.entries;
      first = arrived_first c.put.new.self.holding (linked c.links.result.now c.put.new.self.connected) (ap (λ (l : List Link). linked l c.put.new.self.connected) c.links.ensures ∙ web.connected.linked);
      so_far = parents-so-far c.args.web.now.holding c.put.new.self.holding (linked c.links.result.now c.put.new.self.connected) c.args.link c.args.ancestry.now c.in_ok-took.ensures.ok
          (ap (λ (l : List Link). linked l c.put.new.self.connected) c.links.ensures ∙ web.connected.linked) c.requires.parents;
    }

pub take_out-requires : goal.take_out-requires
take_out-requires c =
    let back : without_last c.put.new.self.holding ≡ c.args.web.now.holding = front_push c.args.web.now.holding c.args.link c.put.new.self.holding c.in_ok-took.ensures.ok in
    record {
      some = let long = ap (λ (l : List Link). length l) c.in_ok-took.ensures.ok ∙ length_push c.args.web.now.holding c.args.link in omega (arith, long);
      connected = c.len-before.ensures ∙ connected_count c.args.web.now c.requires.web ∙ ap (λ (l : List Link). length (arrived_of l)) (sym back);
      web = c.put.ensures.web;
    }

pub returns-in-Ok-clause-parents : goal.returns-in-Ok-clause-parents
returns-in-Ok-clause-parents c =
    c.in-Ok.ensures.ok ∙ ap (λ (l : List Link). parents_in (linked l c.put.new.self.connected)) c.links.ensures ∙ ap (λ (l : List Link). parents_in l) c.put.ensures.web.connected.linked

pub returns-in-Err-clause-parents : goal.returns-in-Err-clause-parents
returns-in-Err-clause-parents c =
    c.in-Err.ensures.err ∙ c.requires.parents
    ∙ ap (λ (l : List Link). parents_in (arrived_of l)) (sym (c.take_out.ensures.held ∙ front_push c.args.web.now.holding c.args.link c.put.new.self.holding c.in_ok-took.ensures.ok))
