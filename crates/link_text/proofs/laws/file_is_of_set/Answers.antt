use Rattle.std.proofs.Common.{ap, flat_map, ◌++◌}
use Rattle.team_sets.proofs.Sorted.{ascending-of_set, names-strict, set-apart}
use Rattle.team_sets.specs.SortedLaws.{by_names}
use Rattle.team_model.specs.Judging.{name_of}
use Rattle.link_text.specs.LinkText.{text}
use Rattle.link_text.specs.TeamFile.{header, frame}
use Rattle.link_text.proofs.laws.file_is_of_set.Goals as goal

pub returns : goal.returns
returns c t links others d e same =
    ap (λ l. header t ++ flat_map (λ x. frame (text x)) l)
    (ascending-of_set (by_names name_of) (names-strict name_of) links others (set-apart name_of links d) (set-apart name_of others e) same)
