use Rattle.std.proofs.Common.{◌≡◌, drop}
use Rattle.team_report.specs.WhyText.{link_named}
use Rattle.team_report.proofs.why.link_named.Given as goal

-- the name is looked for among those that are left
abbrev pub invariant-loop-link : goal.invariant-loop-link
invariant-loop-link l = link_named (drop l.link-index l.links) l.name ≡ link_named l.links l.name
