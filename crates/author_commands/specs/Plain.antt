-- What `plain FILE KEYFILE ACT FIELDS` does.
use Rattle.std.specs.Prelude.{◌≡◌, ◌<◌, ◌^◌, ℕ, List, Result, Ok, Err}
use Rattle.acts.specs.declared.entry.Act.{Act}
use Rattle.lms_tree.specs.Signatures.{public_key}
use Rattle.lms_keep.specs.Signing.{tree_key}
use Rattle.lms_keep.specs.declared.key_state.KeyState.{KeyState}
use Rattle.link_text.specs.declared.draft.Draft.{Draft}
use Rattle.link_graph.specs.Held.{Held}
use Rattle.team_author.specs.Planning.{planned}
use Rattle.team_author.specs.declared.plan_fault.PlanFault.{PlanFault}
use Rattle.team_author.specs.declared.plan_fault.PlanFault.TheVariants as plan
use Rattle.outcomes.specs.Steps.{World, Outcome}
use Rattle.team_words.specs.declared.command.Command.{Command}
use Rattle.team_words.specs.declared.command.Command.TheVariants.{Plain}
use Rattle.author_commands.specs.Authoring.{authors}
use Rattle.author_commands.specs.declared.planner.Planned.{Planned}
use Rattle.author_commands.specs.declared.planner.Planned.TheVariants.{Refuses, Writes}
use Rattle.author_commands.specs.declared.refusal.Refusal.TheVariants.{NotPermitted, Full}

-- what is done by a plan
abbrev pub IsDoneBy : Result Draft PlanFault → Planned → Type 0
IsDoneBy (Ok d) p = p ≡ Writes d
IsDoneBy (Err plan.Full) p = p ≡ Refuses Full
IsDoneBy (Err (plan.NotPermitted reason)) p = p ≡ Refuses (NotPermitted reason)
IsDoneBy (Err plan.Memory) p = ⊥

-- the act is planned at a time, without key lines
abbrev pub plain_plan : Act → ℕ → Held → KeyState → Planned → Type 0
plain_plan act time held s p = IsDoneBy (planned held s (public_key (tree_key s)) act time) p

-- the time is the clock's, which is below 2^64
abbrev pub plains : List ℕ → List ℕ → Act → World → Outcome → Type 0
plains file key_file act w o = (w.moment < 2 ^ 64) × authors (plain_plan act w.moment) file key_file w o

abbrev pub does_plain : Command → World → Outcome → Type 0
does_plain (Plain file key_file act) w o = plains file key_file act w o
does_plain _ w o = ⊥
