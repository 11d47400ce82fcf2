-- The connected links of a team in the order in which they connect, as links arrive one by one.
use Rattle.std.specs.Prelude.{List}
use Rattle.team_sets.specs.Arrival as sets
use Rattle.team_model.specs.Judging.{name_of, prev_of}
use Rattle.team_model.specs.declared.terms.Link.{Link}

-- the link of position i is the i-th of these
abbrev pub arrived : List Link → List Link
arrived links = sets.arrived name_of prev_of links
