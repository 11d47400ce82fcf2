use Rattle.std.proofs.Common.{◌∙◌, ℕ, List, Option, ap, slice_get, subst, sym}
use Rattle.team_model.specs.ActTable.{refusal}
use Rattle.team_model.specs.declared.terms.Reason.{Reason}
use Rattle.link_graph.specs.Held.{arrived_of}
use Rattle.replica.specs.Striking.{AreStrikes, AreStriking, AreStrikingBefore}
use Rattle.replica.proofs.Judgements.{judged_more}
use Rattle.replica.proofs.Noted.{striking_before}
use Rattle.replica.proofs.Noting.{strikes_before}
use Rattle.replica.proofs.judging.add_judgement.Goals as goal

pub note_strikes-requires-clause-before : goal.note_strikes-requires-clause-before
note_strikes-requires-clause-before c =
    strikes_before c.args.graph.now.links c.args.judged.now.reasons.items c.err.result c.deref.result.now c.args.position c.args.judged.now.strikes.items c.requires.before
    (c.deref.ensures.value ∙ c.in_ok-push.ensures.items) c.requires.judged.strikes

pub note_strikes-requires-clause-strikers : goal.note_strikes-requires-clause-strikers
note_strikes-requires-clause-strikers c =
    subst (λ (l : List ℕ). AreStrikingBefore c.args.graph.now.links c.deref.result.now c.args.position l) (sym c.deref-2.ensures.value)
    (striking_before c.args.graph.now.links c.args.judged.now.reasons.items c.err.result c.deref.result.now c.args.position c.args.judged.now.strikers.items c.requires.before
    (c.deref.ensures.value ∙ c.in_ok-push.ensures.items) c.requires.judged.strikers)

pub note_striker-requires-clause-before : goal.note_striker-requires-clause-before
note_striker-requires-clause-before c =
    striking_before c.args.graph.now.links c.args.judged.now.reasons.items c.err.result c.deref-3.result.now c.args.position c.args.judged.now.strikers.items c.requires.before
    (c.deref-3.ensures.value ∙ c.in_ok-push.ensures.items) c.requires.judged.strikers

pub returns-clause-judged : goal.returns-clause-judged
returns-clause-judged c =
    let links = c.args.graph.now.links in
    let link = c.link_at-link.result.now in
    record {
      reasons = judged_more links c.args.judged.now.reasons.items c.requires.judged.reasons link c.err.result c.push.new.self.items
          (ap (λ n. slice_get (arrived_of links) n) c.requires.before ∙ c.link_at-link.ensures)
          (c.err.ensures.value ∙ c.permits.ensures ∙ ap (λ s. refusal s link.entry) (c.requires.past link c.link_at-link.ensures)) c.in_ok-push.ensures.items;
      strikers = subst (λ (r : List (Option Reason)). AreStriking links r c.note_striker.new.strikers.items) c.deref-3.ensures.value c.in_ok-note_striker.ensures;
      strikes = subst (λ (r : List (Option Reason)). AreStrikes links r c.note_strikes.new.pairs.items) c.deref.ensures.value c.in_ok-note_strikes.ensures;
    }
