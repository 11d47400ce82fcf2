use Rattle.std.proofs.Common.{◌∙◌, ℕ, All, List, ap, length, sym, subst}
use Rattle.team_sets.specs.Names.{has_name}
use Rattle.link_graph.specs.Held.{arrived_of}
use Rattle.link_graph.specs.Positions.{at_places}
use Rattle.replica.specs.Settling.{IsPairWithin, is_struck_at, standing_names}
use Rattle.replica.proofs.Noting.{pairs_within}
use Rattle.replica.proofs.Settles.{is_settled}
use Rattle.replica.proofs.settling.settle.Goals as goal

pub decide-requires-clause-acts : goal.decide-requires-clause-acts
decide-requires-clause-acts c =
    (at_places (arrived_of c.args.graph.now.links) c.args.lawful.now, record { lawful = c.requires.lawful; acts = c.deref.ensures.value ∙ c.in_ok-acts.ensures })

pub struck_flags-requires : goal.struck_flags-requires
struck_flags-requires c =
    let links = c.args.graph.now.links in
    record {
      within = subst (λ (n : ℕ). All (IsPairWithin n) c.deref-4.result.now) (sym (ap length c.deref-5.ensures.value ∙ c.in_ok-standing.ensures.size))
          (subst (λ (l : List (ℕ × ℕ)). All (IsPairWithin (length (arrived_of links))) l) (sym c.deref-4.ensures.value)
          (pairs_within links c.args.judged.now.reasons.items c.args.judged.now.strikes.items c.requires.judged.reasons c.requires.judged.strikes));
    }

pub returns : goal.returns
returns c =
    let links = c.args.graph.now.links in
    let xs = at_places (arrived_of links) c.args.lawful.now in
    let decided = c.in_ok-decisions.ensures xs (record { lawful = c.requires.lawful; acts = c.deref.ensures.value ∙ c.in_ok-acts.ensures }) in
    is_settled links c.is_held.ensures.set c.args.judged.now.reasons.items c.args.marked.now c.args.judged.now.strikes.items c.requires.judged.strikes xs c.requires.lawful _
    c.in_ok-acts.ensures decided c.in_ok-standing.ensures.size (c.in_ok-struck.ensures.size ∙ ap length c.deref-5.ensures.value ∙ c.in_ok-standing.ensures.size)
    (λ i x at. c.in_ok-standing.ensures.marks i x at ∙ (λ j. has_name (standing_names (c.deref-2.ensures.value j) (c.deref-3.ensures.value j)) x.name))
    (λ i. c.in_ok-struck.ensures.marks i ∙ (λ j. is_struck_at (c.deref-4.ensures.value j) (c.deref-5.ensures.value j) i))
