-- Each text is a function of the set of links: the order of a list of them plays no part.
use Rattle.std.specs.Prelude.{◌≡◌, List}
use Rattle.team_sets.specs.Members.{HaveSameMembers}
use Rattle.team_sets.specs.Names.{Name}
use Rattle.team_sets.specs.OrderLaws.{IsSet}
use Rattle.team_model.specs.Judging.{name_of}
use Rattle.team_model.specs.declared.terms.Link.{Link}
use Rattle.team_report.specs.HeadsText.{heads_text}
use Rattle.team_report.specs.LogText.{log_text}
use Rattle.team_report.specs.WhyText.{why_named}

pub record HaveSameTexts (links others : List Link) : Type 0 where
  pub log : log_text links ≡ log_text others
  pub heads : heads_text links ≡ heads_text others
  pub why : (n : Name) → why_named links n ≡ why_named others n

-- two lists of the same links, in whatever order, have the same texts of log, heads and why
abbrev pub TextsAreOfSet : Type 0
TextsAreOfSet = (links others : List Link) → IsSet name_of links → IsSet name_of others → HaveSameMembers links others → HaveSameTexts links others
