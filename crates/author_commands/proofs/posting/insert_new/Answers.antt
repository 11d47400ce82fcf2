use Rattle.std.proofs.Common.{subst}
use Rattle.link_text.specs.TeamFile.{IsHeld}
use Rattle.link_graph.specs.Held.{Held}
use Rattle.author_commands.proofs.Taken.{holds_with, only_memory}
use Rattle.author_commands.proofs.posting.insert_new.Goals as goal

pub want_of_memory-requires : goal.want_of_memory-requires
want_of_memory-requires g c =
    let held = subst (λ (h : Held). IsHeld h.team h.links) c.graph.ensures c.is_held.ensures in
    only_memory c.link_is_spelled_once.ensures c.args.replica.now c.insert.new.self c.args.text.now c.insert.result c.requires.may c.insert.ensures held c.requires.fresh c.in-Err.fault c.in-Err.is

pub returns-in-Ok : goal.returns-in-Ok
returns-in-Ok g c =
    let held = subst (λ (h : Held). IsHeld h.team h.links) c.graph.ensures c.is_held.ensures in
    record {
      ok = holds_with c.link_is_spelled_once.ensures c.args.replica.now c.insert.new.self c.args.text.now c.insert.result c.requires.may c.insert.ensures held c.requires.fresh c.in-Ok._took c.in-Ok.is;
    }
