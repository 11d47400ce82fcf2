-- What `log` prints: a line for each link, with its name, its author, the word of its act, and what became of it.
use Rattle.std.specs.Prelude.{ℕ, Bool, not, List, [], ◌∷◌, ◌++◌, filter, flat_map}
use Rattle.tg_text.specs.Spelling.{line_of, spell_hex}
use Rattle.acts.specs.ActText.{act_word}
use Rattle.team_sets.specs.Names.{has_name}
use Rattle.team_sets.specs.Order.{names}
use Rattle.team_model.specs.Judging.{name_of, order_of, team_rules, verdict}
use Rattle.team_model.specs.declared.terms.Link.{Link}
use Rattle.team_model.specs.declared.terms.Verdict.{Verdict}
use Rattle.link_text.specs.TeamFile.{by_name}
use Rattle.team_report.specs.VerdictWords.{spell_verdict}

-- the line of a link of which this became
abbrev pub judged_line : Link → Verdict → List ℕ
judged_line x v = line_of (spell_hex x.name ∷ x.entry.user ∷ act_word x.entry.act ∷ spell_verdict v ∷ [])

abbrev pub log_line : List Link → Link → List ℕ
log_line links x = judged_line x (verdict team_rules links x)

abbrev pub is_connected : List Link → Link → Bool
is_connected links x = has_name (names name_of (order_of links)) x.name

-- the links that wait for a parent, in ascending order of names
abbrev pub waiting_links : List Link → List Link
waiting_links links = by_name (filter (λ x. not (is_connected links x)) links)

-- The connected links stand in the order of the team, and after them those that wait.
abbrev pub log_text : List Link → List ℕ
log_text links = flat_map (log_line links) (order_of links ++ waiting_links links)
