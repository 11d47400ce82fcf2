use Rattle.std.proofs.Common.{◌≡◌, ◌∙◌, false, List, Some, Ok, refl, sym, ap, subst, rules}
use Rattle.std.specs.List.{AllByRecursion}
use Rattle.std.specs.Result.{result_err}
use Rattle.tg_text.specs.Spelling.{IsHash}
use Rattle.team_sets.specs.Names.{Name}
use Rattle.lms_keep.specs.declared.key_state.KeyState.{KeyState}
use Rattle.acts.specs.declared.entry.Act.{Act}
use Rattle.acts.specs.declared.entry.Entry.{Entry}
use Rattle.team_model.specs.ActTable.{refusal}
use Rattle.team_model.specs.Judging.{team, team_rules}
use Rattle.team_model.specs.State.{State}
use Rattle.link_text.specs.TeamFile.{IsHeld}
use Rattle.link_graph.specs.Held.{Held}
use Rattle.replica.specs.Below.{with_pasts}
use Rattle.team_author.specs.Drafting.{IsDraft}
use Rattle.team_author.specs.Planning.{base_of, entry_of, is_full, parents_of, planned}
use Rattle.team_author.proofs.Drafts.{planned_draft}
use Rattle.team_author.proofs.Plans.{planned_is, planned_refused, refused_so}
use Rattle.team_author.proofs.Rooms.{room_of}
use Rattle.team_author.proofs.planning.plan_plain.Goals as goal

pub returns-in_err-permits-clause-plan : goal.returns-in_err-permits-clause-plan
returns-in_err-permits-clause-plan c =
    let reason = c.in_err-permits.field-0.0 in
    let held : Held = c.args.replica.now in
    let s : KeyState = c.args.author.now in
    let key = c.args.key.now in
    let act : Act = c.args.act.now in
    let entry = c.in_ok-entry.entry in
    let room : is_full held ≡ false = search rules in
    let parents : c.in_ok-parents.parents ≡ parents_of held.links = search rules in
    let state : c.in_ok-state.state ≡ base_of held.links =
    c.in_ok-state.ensures ∙ ap (λ (ns : List Name). team team_rules (with_pasts held.links ns)) (c.as_slice.ensures ∙ parents) in
    let refused : result_err c.permits.result ≡ Some reason = rw c.in_err-permits.was refl in
    let here : refusal (base_of held.links) (entry_of s key act c.args.time) ≡ refusal c.in_ok-state.state entry =
    sym (ap (λ (e : Entry). refusal c.in_ok-state.state e) c.in_ok-entry.ensures ∙ ap (λ (t : State). refusal t (entry_of s key act c.args.time)) state) in
    refused_so (planned held s key act c.args.time) c.from_residual-in_err-permits.result reason
    (planned_refused held s key act c.args.time reason room (here ∙ sym c.permits.ensures ∙ refused)) c.from_residual-in_err-permits.ensures.1

pub returns-clause-draft : goal.returns-clause-draft
returns-clause-draft c =
    let held : Held = c.args.replica.now in
    let s : KeyState = c.args.author.now in
    let key = c.args.key.now in
    let act : Act = c.args.act.now in
    let plan : planned held s key act c.args.time ≡ Ok c.draft_of.result = search rules in
    let is = planned_is held s key act c.args.time c.draft_of.result plan in
    let same : c.in_ok-parents.parents ≡ parents_of held.links = search rules in
    let names : AllByRecursion IsHash (parents_of held.links) = subst (λ (ns : List Name). AllByRecursion IsHash ns) same c.in_ok-parents.ensures.names in
    subst IsDraft is.draft
    (planned_draft held s key act c.args.time (subst (λ (h : Held). IsHeld h.team h.links) c.graph.ensures c.is_held.ensures) names c.requires.author c.requires.key c.requires.act c.requires.short c.ranges.time.fits is.permitted)

pub returns-clause-room : goal.returns-clause-room
returns-clause-room c =
    let held : Held = c.args.replica.now in
    let plan : planned held c.args.author.now c.args.key.now c.args.act.now c.args.time ≡ Ok c.draft_of.result = search rules in
    room_of held (planned_is held c.args.author.now c.args.key.now c.args.act.now c.args.time c.draft_of.result plan).room
