-- What `heads` prints: a line for each head, with its name, in ascending order.
use Rattle.std.specs.Prelude.{ℕ, List, [], ◌∷◌, flat_map}
use Rattle.tg_text.specs.Spelling.{line_of, spell_hex}
use Rattle.team_sets.specs.Names.{Name}
use Rattle.team_model.specs.declared.terms.Link.{Link}
use Rattle.link_graph.specs.Heads.{heads_of}

abbrev pub head_line : Name → List ℕ
head_line n = line_of (spell_hex n ∷ [])

abbrev pub heads_text : List Link → List ℕ
heads_text links = flat_map head_line (heads_of links)
