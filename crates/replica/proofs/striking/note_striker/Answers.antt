use Rattle.std.proofs.Common.{◌∙◌, ◌&&◌, ap, refl, sym}
use Rattle.replica.specs.Judged.{is_lawful_at}
use Rattle.replica.specs.Striking.{strikes_any}
use Rattle.replica.proofs.Noted.{striking_more, striking_same}
use Rattle.replica.proofs.Noting.{and_none}
use Rattle.replica.proofs.striking.note_striker.Goals as goal
use Rattle.replica.proofs.striking.note_striker.Goals.{else-is_lawful-via-then-is_lawful+else-strikes_any, else-is_lawful-via-else-is_lawful}

pub returns-in_ok-push : goal.returns-in_ok-push
returns-in_ok-push c =
    let links = c.args.graph.now.links in
    striking_more links c.args.reasons.now c.args.position c.requires.last c.args.strikers.now.items c.push.new.self.items c.requires.before
    (ap (λ b. b && strikes_any links c.args.position) (sym c.is_lawful.ensures ∙ c.if-is_lawful.true) ∙ sym c.strikes_any.ensures ∙ c.if-strikes_any.true) c.in_ok-push.ensures.items

pub returns-else-is_lawful : goal.returns-else-is_lawful
returns-else-is_lawful c =
    let links = c.args.graph.now.links in
    elim c.else-is_lawful.branch [
      | else-is_lawful-via-then-is_lawful+else-strikes_any w ↦
          striking_same links c.args.reasons.now c.args.position c.requires.last c.args.strikers.now.items c.args.strikers.now.items c.requires.before
          (ap (λ b. is_lawful_at c.args.reasons.now c.args.position && b) (sym w.strikes_any.ensures ∙ w.if-strikes_any.false) ∙ and_none (is_lawful_at c.args.reasons.now c.args.position)) refl
      | else-is_lawful-via-else-is_lawful w ↦
          striking_same links c.args.reasons.now c.args.position c.requires.last c.args.strikers.now.items c.args.strikers.now.items c.requires.before
          (ap (λ b. b && strikes_any links c.args.position) (sym c.is_lawful.ensures ∙ w.if-is_lawful.false)) refl
    ]
