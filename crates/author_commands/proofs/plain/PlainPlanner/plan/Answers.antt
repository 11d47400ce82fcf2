use Rattle.std.proofs.Common.{◌≡◌, List, ℕ, Ok, subst, sym}
use Rattle.acts.specs.declared.entry.Act.{Act}
use Rattle.lms_keep.specs.Signing.{tree_key}
use Rattle.lms_keep.specs.declared.key_state.KeyState.{KeyState}
use Rattle.link_text.specs.declared.draft.Draft.{Draft}
use Rattle.link_graph.specs.Held.{Held}
use Rattle.team_author.specs.Planning.{planned}
use Rattle.team_words.specs.Acts.{MayGive}
use Rattle.key_commands.proofs.MadeBytes.{public_is}
use Rattle.author_commands.proofs.PlainActs.{act_short, plain_signable}
use Rattle.author_commands.proofs.plain.PlainPlanner.plan.Goals as goal

pub plan_plain-requires-clause-key : goal.plan_plain-requires-clause-key
plan_plain-requires-clause-key c = rw c.requires.key (public_is (tree_key c.args.author.now) c.requires.author.id)

pub plan_plain-requires-clause-short : goal.plan_plain-requires-clause-short
plan_plain-requires-clause-short c = act_short c.as_act.result.now (subst (λ (a : Act). MayGive a) (sym c.as_act.ensures.act) c.as_act.ensures.may)

pub returns-in-Ok-clause-sound : goal.returns-in-Ok-clause-sound
returns-in-Ok-clause-sound c =
    let held : Held = c.args.replica.now in
    let s : KeyState = c.args.author.now in
    let act : Act = c.as_act.result.now in
    let time = c.args.self.now.time in
    let d : Draft = c.in-Ok.draft in
    let may : MayGive act = subst (λ (a : Act). MayGive a) (sym c.as_act.ensures.act) c.as_act.ensures.may in
    let plan : planned held s c.args.key.now act time ≡ Ok d = rw c.in-Ok.is at c.plan_plain.ensures.plan in
    plain_signable held s act time d may (subst (λ (k : List ℕ). planned held s k act time ≡ Ok d) c.requires.key plan)
    (rw c.in-Ok.is at c.plan_plain.ensures.draft) (rw c.in-Ok.is at c.plan_plain.ensures.room)
