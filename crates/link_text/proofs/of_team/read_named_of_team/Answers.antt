use Rattle.std.proofs.Common.{sym, ◌∙◌}
use Rattle.link_text.proofs.OfTeam.{unverified, verified}
use Rattle.link_text.proofs.of_team.read_named_of_team.Goals as goal

pub returns-then-branch : goal.returns-then-branch
returns-then-branch c =
    verified c.args.team.now c.args.bytes.now c.requires.short c.in_ok-link.link c.in_ok-link.ensures.found (c.is_of_team.ensures.0 c.if-not-is_of_team.false)
    (sym c.in_ok-proves.ensures ∙ c.if-branch.true)

pub returns-else-branch : goal.returns-else-branch
returns-else-branch c =
    unverified c.args.team.now c.args.bytes.now c.requires.short c.in_ok-link.link c.in_ok-link.ensures.found (c.is_of_team.ensures.0 c.if-not-is_of_team.false)
    (sym c.in_ok-proves.ensures ∙ c.if-branch.false)
