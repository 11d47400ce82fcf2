-- What a graph holds, and what is answered when a link is taken.
use Rattle.std.specs.Prelude.{ℕ, ◌-◌, List, length, if◌then◌else◌, nat_lt}
use Rattle.std.specs.List.{range_with_len}
use Rattle.team_sets.specs.Names.{Name}
use Rattle.team_sets.specs.Arrival.{arrived}
use Rattle.team_model.specs.Judging.{name_of, prev_of}
use Rattle.team_model.specs.declared.terms.Link.{Link}
use Rattle.link_graph.specs.declared.took.Took.{Took}
use Rattle.link_graph.specs.declared.took.Took.TheVariants.{New, Waiting}

-- The team, and its links in the order in which they came.
pub record Held : Type 0 where
  pub team : Name
  pub links : List Link

-- The connected links in the order in which they connected: the link of position i is the i-th of these.
abbrev pub arrived_of : List Link → List Link
arrived_of links = arrived name_of prev_of links

-- With so many positions given before and now, the new ones, if there are some.
abbrev pub took_of : ℕ → ℕ → Took
took_of before now = if nat_lt before now then New (range_with_len before (now - before)) else Waiting

-- The answer where the links became more.
abbrev pub answer_of : List Link → List Link → Took
answer_of old new = took_of (length (arrived_of old)) (length (arrived_of new))
