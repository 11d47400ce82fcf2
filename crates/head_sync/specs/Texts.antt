-- The texts of connected links by their positions. Only private contracts cite it.
use Rattle.std.specs.Prelude.{ℕ, List, map}
use Rattle.team_model.specs.declared.terms.Link.{Link}
use Rattle.link_text.specs.LinkText.{text}
use Rattle.link_graph.specs.Held.{arrived_of}
use Rattle.link_graph.specs.Positions.{at_places}

abbrev pub texts_at : List Link → List ℕ → List (List ℕ)
texts_at links positions = map text (at_places (arrived_of links) positions)
