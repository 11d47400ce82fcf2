-- What `why` prints of a link: its name, its author, its act, its height in the graph, and what became of it.
use Rattle.std.specs.Prelude.{ℕ, if◌then◌else◌, List, [], ◌∷◌, ◌++◌, codes, find, Option, Some, None, option_map}
use Rattle.std.specs.Option.{option_map_or}
use Rattle.tg_text.specs.Spelling.{line_of, spell_decimal, spell_hex}
use Rattle.acts.specs.ActText.{spell_act}
use Rattle.team_sets.specs.Ancestry.{height}
use Rattle.team_sets.specs.Names.{Name, same_name}
use Rattle.team_model.specs.Judging.{name_of, prev_of, team_rules, verdict}
use Rattle.team_model.specs.declared.terms.Link.{Link}
use Rattle.team_model.specs.declared.terms.Verdict.{Verdict}
use Rattle.team_report.specs.LogText.{is_connected}
use Rattle.team_report.specs.VerdictWords.{spell_verdict}

-- a link that waits for a parent has no height
abbrev pub height_in : List Link → Link → Option ℕ
height_in links x = if is_connected links x then Some (height name_of prev_of links x) else None

-- the text of a link with this height, of which this became
abbrev pub explained : Link → Option ℕ → Verdict → List ℕ
explained x h v =
    line_of (codes "link" ∷ spell_hex x.name ∷ [])
    ++ line_of (codes "author" ∷ x.entry.user ∷ spell_hex x.entry.device ∷ [])
    ++ line_of (codes "act" ∷ spell_act x.entry.act ∷ [])
    ++ option_map_or (λ n. line_of (codes "height" ∷ spell_decimal n ∷ [])) h []
    ++ line_of (codes "verdict" ∷ spell_verdict v ∷ [])

abbrev pub why_text : List Link → Link → List ℕ
why_text links x = explained x (height_in links x) (verdict team_rules links x)

-- the link of this name, where it is held
abbrev pub link_named : List Link → Name → Option Link
link_named links n = find (λ x. same_name n x.name) links

-- What is printed of the link of this name, where it is held.
abbrev pub why_named : List Link → Name → Option (List ℕ)
why_named links n = option_map (why_text links) (link_named links n)
