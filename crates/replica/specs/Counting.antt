-- What holds of each link of a held set that counts.
use Rattle.std.specs.Prelude.{◌≡◌, true, List}
use Rattle.sha2.specs.Sha256.{sha256}
use Rattle.team_sets.specs.Names.{Name}
use Rattle.team_sets.specs.Members.{IsIn}
use Rattle.team_model.specs.CountingLaws.{CountsRightly, IsByListed}
use Rattle.team_model.specs.Judging.{before_turn, fold_team, team_rules, verdict}
use Rattle.team_model.specs.declared.terms.Link.{Link}
use Rattle.team_model.specs.declared.terms.Verdict.TheVariants.{Counts}
use Rattle.link_text.specs.LinkText.{proves}
use Rattle.link_text.specs.TeamFile.{IsHeld}

-- the link verifies under its key; its device is the SHA-256 of that key, and is listed for its author in the state at its turn, unless
-- the link founds the team; and it is permitted at its turn, and struck by no standing removal
pub record IsRight (links : List Link) (x : Link) : Type 0 where
  pub verifies : proves x ≡ true
  pub device : x.entry.device ≡ sha256 x.key
  pub listed : IsByListed (fold_team team_rules (before_turn team_rules links x)) x.entry
  pub counts : CountsRightly team_rules links x

-- so it is with each link of a held set that counts
abbrev pub CountingLinksAreRight : Type 0
CountingLinksAreRight = (team : Name) (links : List Link) → IsHeld team links → (x : Link) → IsIn x links → verdict team_rules links x ≡ Counts → IsRight links x
