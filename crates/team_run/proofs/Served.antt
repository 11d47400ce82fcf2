-- How a command ends whose files are as it needs them.
use Rattle.std.proofs.Common.{◌≡◌, ◌≤◌, ◌<◌, ◌⊎◌, ◌∙◌, inl, inr, ℕ, Bool, true, false, cond, nat_lt, List, Option, Some, None, is_some, option_map, Result, Ok, Err, refl, sym, ap, subst, arith}
use Rattle.std.specs.Option.{option_map_or}
use Rattle.std.proofs.lemmas.Bool.{cases_lt}
use Rattle.acts.specs.declared.entry.Act.{Act}
use Rattle.team_sets.specs.Names.{same_name}
use Rattle.team_model.specs.ShowText.{show_text}
use Rattle.team_model.specs.declared.terms.Link.{Link}
use Rattle.lms_tree.specs.Signatures.{public_key}
use Rattle.lms_keep.specs.KeyText.{leaves}
use Rattle.lms_keep.specs.Signing.{tree_key}
use Rattle.lms_keep.specs.declared.key_state.KeyState.{KeyState}
use Rattle.link_text.specs.declared.draft.Draft.{Draft}
use Rattle.link_graph.specs.Held.{Held}
use Rattle.lockboxes.specs.Keeping.{Keeper}
use Rattle.openers.specs.Key.{FindsKey}
use Rattle.openers.specs.Team.{FindsTeam}
use Rattle.team_author.specs.Planning.{planned}
use Rattle.team_author.specs.declared.plan_fault.PlanFault.{PlanFault}
use Rattle.team_author.specs.declared.plan_fault.PlanFault.TheVariants as plan
use Rattle.author_commands.specs.Authoring.{by_found_text, by_leaf, by_plan, found_text, keyed, planning, signature_by}
use Rattle.author_commands.specs.Plain.{IsDoneBy, plain_plan}
use Rattle.author_commands.specs.Signing.{authored}
use Rattle.author_commands.specs.declared.planner.Planned.{Planned}
use Rattle.author_commands.specs.declared.planner.Planned.TheVariants.{Writes}
use Rattle.outcomes.specs.Ending.{IsCaused, Runs}
use Rattle.outcomes.specs.Refusing.{FindsBytes, FindsNone, holds, opening}
use Rattle.outcomes.specs.Seeing.{AreKnown, Contents, Counts, Rises}
use Rattle.outcomes.specs.Steps.{World, Outcome, saying}
use Rattle.report_commands.specs.Keys.{IsKeysSaid}
use Rattle.report_commands.specs.Why.{explaining, not_held}
use Rattle.team_report.specs.HeadsText.{heads_text}
use Rattle.team_report.specs.LogText.{log_text}
use Rattle.team_report.specs.WhyText.{link_named, why_text}
use Rattle.team_words.specs.declared.command.Command.{Command}
use Rattle.team_words.specs.declared.command.Command.TheVariants.{Heads, Keys, Log, Make, Meet, Merge, Newkey, Plain, Show, Why}
use Rattle.key_commands.specs.Make.{making_team}
use Rattle.key_commands.specs.Newkey.{drawn_key, making}
use Rattle.exchange_commands.specs.Meet.{by_team, meeting}
use Rattle.exchange_commands.specs.Merge.{merging}
use Rattle.team_run.specs.Running.{does}
use Rattle.team_run.specs.Serving.{EndsMet, EndsWell, IsComplete, Serves, clash_status, plan_status}
use Rattle.team_run.proofs.Openings.{absent_opens, founds, key_opens, team_opens, there_opens}

status_is : (o p : Outcome) → o ≡ p → o.status ≡ p.status
status_is o p e = ap (λ (x : Outcome). x.status) e

-- how it ends that a link was planned
module _ (file key_file : List ℕ) (held : Held) (s : KeyState) (w : World) (o : Outcome) where
  posted_status : (link : Link) (found : Option Bool) → (by_found_text file held link found).status ≡ clash_status found
  posted_status link None = refl
  posted_status link (Some true) = refl
  posted_status link (Some false) = refl

  signed_status : (d : Draft) → by_plan file key_file held s (Writes d) w o → o.status ≡ plan_status held s (Ok d)
  signed_status d (q, posted, is) =
      let link = authored d (signature_by s d) in
      ap (λ (x : Outcome). x.status) is ∙ ap (λ (x : Outcome). x.status) posted ∙ posted_status link (found_text held link)

  planned_status : (r : Result Draft PlanFault) (p : Planned) → IsDoneBy r p → by_plan file key_file held s p w o → o.status ≡ plan_status held s r
  planned_status (Ok d) p h b = signed_status d (subst (λ (x : Planned). by_plan file key_file held s x w o) h b)
  planned_status (Err plan.Full) p h b = ap (λ (x : Outcome). x.status) (subst (λ (x : Planned). by_plan file key_file held s x w o) h b)
  planned_status (Err (plan.NotPermitted reason)) p h b = ap (λ (x : Outcome). x.status) (subst (λ (x : Planned). by_plan file key_file held s x w o) h b)
  planned_status (Err plan.Memory) p h b = absurd h

  leaf_status : (act : Act) (b : Bool) → by_leaf b (planning (plain_plan act w.moment) file key_file held s) w o
      → o.status ≡ cond b (plan_status held s (planned held s (public_key (tree_key s)) act w.moment)) 4
  leaf_status act false d = ap (λ (x : Outcome). x.status) d
  leaf_status act true d = planned_status (planned held s (public_key (tree_key s)) act w.moment) d.0 d.1 d.2

-- how it ends that a link was asked for
why_status : (links : List Link) (found : Option Link) → (option_map_or (λ text. saying 0 text) (option_map (why_text links) found) (saying 4 not_held)).status ≡ cond (is_some found) 0 4
why_status links None = refl
why_status links (Some x) = refl

-- how two ends of one team end, or two teams
met_ends : (file other : List ℕ) (one two : Held) (o : Outcome) (same : Bool) → by_team same file other one two o → EndsMet same one two o.status
met_ends file other one two o true (kept, given, m, is, e) = (kept, given, m, is, ap (λ (x : Outcome). x.status) e)
met_ends file other one two o false e = ap (λ (x : Outcome). x.status) e

pub ends_well : (keeper : Keeper) (command : Command) (w : World) (o : Outcome) → Serves command w → does keeper command w o → EndsWell command w o.status
ends_well keeper (Make file key_file user title) w o serves d =
    let first = absent_opens file (λ none. opening FindsNone key_file (λ none. founds keeper.public_of file key_file user title)) w o serves.0 d in
    let second = absent_opens key_file (λ none. founds keeper.public_of file key_file user title) w o serves.1 first.2 in
    status_is o (making_team keeper.public_of file key_file title w.moment (drawn_key user w)) second.2
ends_well keeper (Newkey key_file user) w o serves d =
    let opened = absent_opens key_file (λ none w o. o ≡ making keeper.public_of key_file (drawn_key user w)) w o serves d in
    status_is o (making keeper.public_of key_file (drawn_key user w)) opened.2
ends_well keeper (Plain file key_file act) w o serves d =
    let plans = plain_plan act w.moment in
    let first = team_opens file (λ held. opening FindsKey key_file (λ s. keyed plans file key_file held s)) w o serves.0.0 serves.0.1 d.1 in
    let second = key_opens key_file (λ s. keyed plans file key_file first.0 s) w o serves.1.0 serves.1.1 serves.1.2 serves.1.3 first.4 in
    record {
      held = first.0;
      key = second.0;
      in_file = subst (λ (f : Option (List ℕ)). FindsTeam f (holds first.0)) (sym first.2) first.3;
      in_key_file = subst (λ (f : Option (List ℕ)). FindsKey f (holds second.0)) (sym second.2) second.3;
      ends = leaf_status file key_file first.0 second.0 w o act (nat_lt second.0.next (leaves second.0.lms)) second.4;
    }
ends_well keeper (Merge file bundle) w o serves d =
    let first = team_opens file (λ held. opening FindsBytes bundle (λ given. merging file held given)) w o serves.0.0 serves.0.1 d in
    let second = there_opens bundle (λ given. merging file first.0 given) w o serves.1.0 serves.1.1 first.4 in
    let m = second.2 in
    record {
      bytes = first.1;
      given = second.0;
      new = m.0;
      results = m.1;
      held = first.2;
      bundled = second.1;
      merged = record { old = first.0; held = first.3; intake = m.2 };
      ends = ap (λ (x : Outcome). x.status) m.3;
    }
ends_well keeper (Meet file other) w o serves d =
    let first = team_opens file (λ one. opening FindsTeam other (λ two. meeting file other one two)) w o serves.0.0 serves.0.1 d in
    let second = team_opens other (λ two. meeting file other first.0 two) w o serves.1.0 serves.1.1 first.4 in
    record {
      one = first.0;
      two = second.0;
      in_file = subst (λ (f : Option (List ℕ)). FindsTeam f (holds first.0)) (sym first.2) first.3;
      in_other = subst (λ (f : Option (List ℕ)). FindsTeam f (holds second.0)) (sym second.2) second.3;
      ends = met_ends file other first.0 second.0 o (same_name first.0.team second.0.team) second.4;
    }
ends_well keeper (Show file) w o serves d =
    let opened = team_opens file (λ held w o. o ≡ saying 0 (show_text held.team held.links)) w o serves.0 serves.1 d in
    status_is o (saying 0 (show_text opened.0.team opened.0.links)) opened.4
ends_well keeper (Log file) w o serves d =
    let opened = team_opens file (λ held w o. o ≡ saying 0 (log_text held.links)) w o serves.0 serves.1 d in
    status_is o (saying 0 (log_text opened.0.links)) opened.4
ends_well keeper (Heads file) w o serves d =
    let opened = team_opens file (λ held w o. o ≡ saying 0 (heads_text held.links)) w o serves.0 serves.1 d in
    status_is o (saying 0 (heads_text opened.0.links)) opened.4
ends_well keeper (Why file name) w o serves d =
    let opened = team_opens file (λ held w o. o ≡ explaining held.links name) w o serves.0 serves.1 d in
    record {
      held = opened.0;
      in_file = subst (λ (f : Option (List ℕ)). FindsTeam f (holds opened.0)) (sym opened.2) opened.3;
      ends = status_is o (explaining opened.0.links name) opened.4 ∙ why_status opened.0.links (link_named opened.0.links name);
    }
ends_well keeper (Keys file key_file) w o serves d =
    let first = team_opens file (λ held. opening FindsKey key_file (λ s. IsKeysSaid keeper held s)) w o serves.0.0 serves.0.1 d in
    let second = key_opens key_file (λ s. IsKeysSaid keeper first.0 s) w o serves.1.0 serves.1.1 serves.1.2 serves.1.3 first.4 in
    let said = second.4 in
    status_is o (saying 0 said.text) said.said

-- by the clauses of a run: its status is an outcome's, or a count rose, or memory was short
module _ (keeper : Keeper) (command : Command) (old new : Contents) (before now : Counts) (status : ℕ) (runs : Runs (does keeper command) old new status) (cause : IsCaused before now status) where
  high : ¬ (Rises before now) → 5 ≤ status → (5 < status) ⊎ (status ≤ 5) → (w : World) → EndsWell command w status ⊎ (status ≡ 6)
  high calm least (inl more) w = let most = cause.range in inr (omega (arith, more, most))
  high calm least (inr most) w = absurd (calm (cause.fault (omega (arith, least, most))))

  by_status : (w : World) → AreKnown old w → Serves command w → ¬ (Rises before now) → (status < 5) ⊎ (5 ≤ status) → EndsWell command w status ⊎ (status ≡ 6)
  by_status w is serves calm (inr least) = high calm least (cases_lt 5 status) w
  by_status w is serves calm (inl low) =
      let ran = runs.done w is low in
      inl (subst (λ (n : ℕ). EndsWell command w n) (sym ran.2) (ends_well keeper command w ran.0 serves ran.1))

  pub complete : IsComplete command old before now status
  complete w is serves calm = by_status w is serves calm (cases_lt status 5)

-- a command whose run did nothing for want of memory
pub complete_short : (command : Command) (old : Contents) (before now : Counts) → IsComplete command old before now 6
complete_short command old before now w is serves calm = inr refl
