use Rattle.std.proofs.Common.{◌≡◌, ◌-◌, ◌∙◌, ℕ, List, Result, Ok, Err, IfOk, length}
use Rattle.tg_text.specs.declared.memory.Memory.{Memory}
use Rattle.team_sets.specs.Names.{Name}
use Rattle.team_model.specs.Judging.{order_of, team, team_rules}
use Rattle.team_model.specs.ShowText.{count_counting, show_text}
use Rattle.team_model.specs.State.{State}
use Rattle.team_model.specs.declared.terms.Link.{Link}
use Rattle.team_report.specs.Shown.{shown}
use Rattle.team_report.specs.declared.show.Counts.{Counts}
use Rattle.team_report.proofs.show.show_text.Goals as goal

-- a text that is written of the counts and the team of links is a text of these links
text_of_counts : (t u : Name) (links : List Link) (k : Counts) (s : State) (r : Result (List ℕ) Memory) → u ≡ t → k.held ≡ length links → k.waiting ≡ length links - length (order_of links)
    → k.counting ≡ count_counting links → s ≡ team team_rules links → IfOk r (λ out. out ≡ shown u k s) → IfOk r (λ out. out ≡ show_text t links)
text_of_counts t u links k s (Ok out) same held waiting counting state h =
    h ∙ (λ i. shown (same i) (record { held = held i; waiting = waiting i; counting = counting i }) (state i))
text_of_counts t u links k s (Err e) same held waiting counting state h = tt

pub returns : goal.returns
returns c =
    text_of_counts c.args.replica.now.team c.team.result c.args.replica.now.links c.count_links.result c.state.result.now c.write_all.result c.team.ensures
    c.count_links.ensures.held c.count_links.ensures.waiting c.count_links.ensures.counting c.state.ensures c.write_all.ensures
