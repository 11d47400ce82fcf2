use Rattle.std.proofs.Common.{[], ◌∷◌, ◌≡◌, ℕ, List, refl, subst, sym}
use Rattle.head_sync.specs.Meetings.{Hears}
use Rattle.head_sync.specs.Waiting.{IsPassedOn, TakesTurn}
use Rattle.head_sync.proofs.Weights.{turn_lighter}
use Rattle.head_sync.proofs.meeting.take_turn.Goals as goal

pub returns : goal.returns
returns g c =
    let s = c.args.end.now.session in
    let k = g.H.LinkKeeper.held c.args.keeper.now in
    let kept = g.H.LinkKeeper.held c.hear.new.keeper in
    let new = c.hear.new.session in
    let inbox = c.args.end.now.inbox.items in
    let left = c.pop_front.new.self.items in
    let box = c.args.other.now.items in
    let boxed = c.wait_all.new.inbox.items in
    let message = c.in-Some.message in
    let turn : TakesTurn s k inbox new kept left box boxed (message ∷ []) =
    subst (λ (b : List (List ℕ)). TakesTurn s k b new kept left box boxed (message ∷ [])) (sym c.in-Some.ensures.items) (c.in_ok-sent.sent, subst (λ (b : List ℕ). Hears s k b new kept c.in_ok-sent.sent) c.as_slice-2.ensures c.in_ok-sent.ensures, refl, c.in_ok-wait_all.ensures, refl) in
    let held = c.is_held.ensures in
    record { turn = (message ∷ [], subst (λ (b : List ℕ). IsPassedOn c.args.passed.now c.add.new.self (b ∷ [])) c.as_slice.ensures c.add.ensures, turn, turn_lighter s new k kept inbox left box boxed (message ∷ []) (record { team = held.team; valid = held.valid; set = held.set; few = held.few; short = held.short }) turn) }
