-- Links by their names.
use Rattle.std.specs.Prelude.{ℕ, List, find, Option, option_map}
use Rattle.team_sets.specs.Names.{Name, same_name}
use Rattle.team_model.specs.declared.terms.Link.{Link}
use Rattle.link_text.specs.LinkText.{text}

-- A link's name with its text.
abbrev pub text_entry : Link → Name × List ℕ
text_entry l = (l.name, text l)

-- The text of the link of this name.
abbrev pub text_named : List Link → Name → Option (List ℕ)
text_named links n = option_map text (find (λ l. same_name n l.name) links)
