use Rattle.std.proofs.Common.{◌≡◌, ◌∙◌, true, ap, length, replicate, sym, subst}
use Rattle.std.proofs.lemmas.List.{length-map}
use Rattle.team_model.specs.Judging.{team_rules, unlawful_reason}
use Rattle.link_graph.specs.Held.{arrived_of}
use Rattle.replica.specs.Views.{IsViewOf}
use Rattle.replica.specs.declared.view.View.{View}
use Rattle.replica.proofs.Wholes.{settled_is, view_is, whole_part}
use Rattle.replica.proofs.viewing.view_of.Goals as goal

pub resolve-requires-clause-part : goal.resolve-requires-clause-part
resolve-requires-clause-part g c =
    let links = c.args.graph.now.links in
    let many : length c.args.judged.now.reasons.items ≡ length (arrived_of links) = ap length c.requires.reasons ∙ length-map (arrived_of links) (unlawful_reason team_rules links) in (
      λ x. true,
      whole_part links c.is_held.ensures.set (length c.args.judged.now.reasons.items) c.deref.result.now many (c.deref.ensures.value ∙ c.in_ok-all.ensures.items_if_clones_equal (λ y h. h) ∙ ap (λ n. replicate n true) (c.connected.ensures ∙ sym many)),
    )

pub take_turns-requires-clause-settled : goal.take_turns-requires-clause-settled
take_turns-requires-clause-settled g c =
    let links = c.args.graph.now.links in
    let many : length c.args.judged.now.reasons.items ≡ length (arrived_of links) = ap length c.requires.reasons ∙ length-map (arrived_of links) (unlawful_reason team_rules links) in
    settled_is links c.is_held.ensures.set (length c.args.judged.now.reasons.items) c.deref.result.now c.in_ok-resolved.resolved many
    (c.deref.ensures.value ∙ c.in_ok-all.ensures.items_if_clones_equal (λ y h. h) ∙ ap (λ n. replicate n true) (c.connected.ensures ∙ sym many)) c.in_ok-resolved.ensures

pub returns : goal.returns
returns g c =
    let links = c.args.graph.now.links in
    let many : length c.args.judged.now.reasons.items ≡ length (arrived_of links) = ap length c.requires.reasons ∙ length-map (arrived_of links) (unlawful_reason team_rules links) in
    subst (λ (v : View). IsViewOf links v)
    (λ i. record { state = c.in_ok-turns.turns.state; resolved = sym (c.from_vec.ensures) i; verdicts = sym (c.from_vec-2.ensures) i })
    (view_is links c.is_held.ensures.set (length c.args.judged.now.reasons.items) c.deref.result.now c.in_ok-resolved.resolved c.in_ok-turns.turns.state c.in_ok-turns.turns.verdicts.items many
    (c.deref.ensures.value ∙ c.in_ok-all.ensures.items_if_clones_equal (λ y h. h) ∙ ap (λ n. replicate n true) (c.connected.ensures ∙ sym many)) c.in_ok-resolved.ensures c.in_ok-turns.ensures.state c.in_ok-turns.ensures.verdicts)
