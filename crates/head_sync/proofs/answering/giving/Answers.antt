use Rattle.std.proofs.Common.{[], ◌∷◌, ◌++◌, true, ◌≡◌, ◌∙◌, sym, ap, ℕ, List, min, ◌+◌, ◌-◌, ◌^◌, length, subst, rules}
use Rattle.head_sync.specs.Messages.{give, message_text}
use Rattle.head_sync.proofs.Giving.{IsGiving, giving_fits, giving_next, now_at}
use Rattle.head_sync.proofs.answering.giving.Goals as goal
use Rattle.head_sync.proofs.answering.giving.Goals.{then-not-fits+in_ok-give_text+in_ok-push, else-not-fits}

pub loop-i-preserved : goal.loop-i-preserved
loop-i-preserved g c =
    let k = g.H.LinkKeeper.held c.args.keeper.now in
    let positions = c.args.positions.now in
    let t = c.text_at-text.result.now in
    let i = c.loop-i.i in
    let inv = c.loop-i.invariant in
    let before : IsGiving k.team k.links positions c.loop-i.sent c.loop-i.start c.loop-i.size i = record { within = inv.within; some = inv.some; count = inv.count; size_is = inv.size; made = inv.made } in
    elim c.if-not-fits.branch [
      | then-not-fits+in_ok-give_text+in_ok-push w ↦
          let r = giving_next k.team k.links positions c.loop-i.sent c.loop-i.start c.loop-i.size i t before c.loop-i-test.true c.text_at-text.ensures (sym c.fits.ensures ∙ w.if-not-fits.true) c.size_with-size.result
          (c.size_with-size.ensures ∙ ap (λ (n : ℕ). min (n + length t) (2 ^ 64 - 1)) w.size-is) in
          let sent : c.if-not-fits.sent ≡ c.loop-i.sent ++ message_text k.team (give true (now_at k.links positions c.loop-i.start i)) ∷ [] =
          w.sent-is ∙ w.in_ok-push.ensures.ok ∙ ap (λ (m : List ℕ). c.loop-i.sent ++ m ∷ []) w.in_ok-give_text.ensures in
          rw (w.start-is, sent) (record { within = r.within; some = r.some; count = r.count; size = r.size_is; made = r.made })
      | else-not-fits w ↦
          let r = giving_fits k.team k.links positions c.loop-i.sent c.loop-i.start c.loop-i.size i t before c.loop-i-test.true c.text_at-text.ensures (sym c.fits.ensures ∙ w.if-not-fits.false) c.size_with-size.result
          (c.size_with-size.ensures ∙ ap (λ (n : ℕ). min (n + length t) (2 ^ 64 - 1)) w.size-is) in
          rw (w.start-is, w.sent-is) (record { within = r.within; some = r.some; count = r.count; size = r.size_is; made = r.made })
    ]
