-- Which links count.
use Rattle.std.specs.Prelude.{Bool, true, false, List, filter}
use Rattle.team_model.specs.Judging.{Rules, order_of, verdict}
use Rattle.team_model.specs.declared.terms.Link.{Link}
use Rattle.team_model.specs.declared.terms.Verdict.{Verdict}
use Rattle.team_model.specs.declared.terms.Verdict.TheVariants.{Counts}

abbrev pub is_counting : Verdict → Bool
is_counting Counts = true
is_counting _ = false

module _ (rules : Rules) where
  -- the links that count. Waiting links don't, so the connected ones are looked through, in the order of the team
  abbrev pub counting_links : List Link → List Link
  counting_links links = filter (λ x. is_counting (verdict rules links x)) (order_of links)
