-- What is answered of a name that no held link has.
use Rattle.std.proofs.Common.{◌≡◌, ◌∙◌, List, Option, Some, None, false, Result, Ok, Err, IfOk, option_map, refl, sym, ap}
use Rattle.std.specs.Option.{option_map_or}
use Rattle.std.proofs.lemmas.Bool.{false≢true}
use Rattle.tg_text.specs.declared.memory.Memory.{Memory}
use Rattle.team_sets.specs.Names.{Name, has_name, same_name}
use Rattle.team_sets.specs.Order.{names}
use Rattle.team_sets.proofs.Decisions.{find_of}
use Rattle.team_sets.proofs.Parts.{name_in}
use Rattle.team_sets.proofs.Pasts.{same_name-is}
use Rattle.team_model.specs.Judging.{name_of, prev_of}
use Rattle.team_model.specs.declared.terms.Link.{Link}
use Rattle.outcomes.specs.Steps.{saying}
use Rattle.outcomes.specs.declared.answer.Answer.{Answer}
use Rattle.team_report.specs.WhyText.{link_named, why_text}
use Rattle.report_commands.specs.Why.{explaining, not_held}

no_link : (links : List Link) (n : Name) → has_name (names name_of links) n ≡ false → link_named links n ≡ None
no_link links n none = go (link_named links n) refl
  where
    go : (o : Option Link) → link_named links n ≡ o → o ≡ None
    go None e = refl
    go (Some x) e =
        let of = find_of (λ y. same_name n y.name) links x e in
        absurd (false≢true (sym none ∙ name_in name_of prev_of links x of.0 n (sym (same_name-is n x.name of.1))))

pub explains_unheld : (links : List Link) (n : Name) (r : Result Answer Memory) → has_name (names name_of links) n ≡ false
    → IfOk r (λ a. (a.status ≡ 4) × (a.text ≡ not_held)) → IfOk r (λ a. explaining links n ≡ saying a.status a.text)
explains_unheld links n (Err memory) none said = tt
explains_unheld links n (Ok a) none said =
    ap (λ (o : Option Link). option_map_or (λ text. saying 0 text) (option_map (why_text links) o) (saying 4 not_held)) (no_link links n none)
    ∙ (λ i. saying (sym said.0 i) (sym said.1 i))
