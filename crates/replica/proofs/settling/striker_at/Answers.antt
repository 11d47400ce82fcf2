use Rattle.std.proofs.Common.{◌≡◌, ◌∙◌, Option, Some, sym}
use Rattle.team_model.specs.declared.terms.Link.{Link}
use Rattle.replica.proofs.Seniorities.{bringer_there, striker_is}
use Rattle.replica.proofs.settling.striker_at.Goals as goal

pub unwrap-requires : goal.unwrap-requires
unwrap-requires c =
    bringer_there c.args.graph.now.links c.is_held.ensures.set c.args.seniority.now c.args.position c.requires.ranked c.link_at-link.result.now c.link_at-link.ensures c.unwrap-height.result
    (sym c.rank.ensures ∙ c.unwrap-height.ensures) c.position.result c.position.ensures

pub returns : goal.returns
returns c = λ x at.
    let one : ◌≡◌ {A = Option Link} (Some c.link_at-link.result.now) (Some x) = sym c.link_at-link.ensures ∙ at in
    let same : c.link_at-link.result.now ≡ x = cc in
    rw (← same)
    (striker_is c.args.graph.now.links c.is_held.ensures.set c.args.seniority.now c.args.position c.requires.ranked c.link_at-link.result.now c.link_at-link.ensures c.unwrap-height.result c.unwrap.result
    c.height.result (sym c.rank.ensures ∙ c.unwrap-height.ensures) (sym c.position.ensures ∙ c.unwrap.ensures) (rw c.link_at-link.ensures at c.height.ensures))
