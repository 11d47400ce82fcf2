-- One thing alone comes of a message, of a turn and of a meeting.
use Rattle.std.proofs.Common.{◌≡◌, ◌<◌, ◌+◌, ◌⊎◌, inl, inr, ℕ, zero, suc, Bool, true, false, List, [], ◌∷◌, ◌++◌, length, map, refl, sym, ◌∙◌, ap, subst, arith}
use Rattle.std.specs.List.{concat}
use Rattle.std.proofs.lemmas.Bool.{false≢true}
use Rattle.sha2.specs.Sha256.{sha256}
use Rattle.team_sets.specs.Names.{Name}
use Rattle.link_text.specs.LinkText.{LinkIsSpelledOnce}
use Rattle.link_text.specs.TeamFile.{IsHeld}
use Rattle.link_graph.specs.Held.{Held}
use Rattle.team_files.specs.declared.item.Item.TheVariants.{Text}
use Rattle.link_intake.specs.Giving.{ItemsAreGivenOnce}
use Rattle.link_intake.specs.ResultsText.{count, is_refused}
use Rattle.link_intake.specs.declared.item_result.ItemResult.{ItemResult}
use Rattle.head_sync.specs.Meetings.{AreRounds, End, HaveMet, Hears, IsMet, IsRefused, IsTurn, IsTurnOf, MeetingIsOne, meeting_end}
use Rattle.head_sync.specs.Messages.{Content, IsMessage, ask, done, give, hello}
use Rattle.head_sync.specs.Sessions.{IsTaken, Makes, Progress, after_give, awaits, closing, counted}
use Rattle.head_sync.specs.declared.meeting.Met.{Met}
use Rattle.head_sync.proofs.HeldSets.{IsSoundHeld, held_given}
use Rattle.head_sync.proofs.ReadOnce.{message_once}

module _ (given_once : ItemsAreGivenOnce) (spelled_once : LinkIsSpelledOnce) where
  module _ (s : Progress) (k : Held) (held : IsSoundHeld k) (new other : Progress) (kept left : Held) (sent more : List (List ℕ)) where
    makes_once : (c : Content) → Makes s k c new kept sent → Makes s k c other left more → (new ≡ other) × (kept ≡ left) × (sent ≡ more)
    makes_once (hello heads) a b = (a.1 ∙ sym b.1, a.0 ∙ sym b.0, a.2 ∙ sym b.2)
    makes_once (ask names marks) a b = (a.1 ∙ sym b.1, a.0 ∙ sym b.0, a.2 ∙ sym b.2)
    makes_once (done heads) a b = (a.1 ∙ sym b.1, a.0 ∙ sym b.0, a.2 ∙ sym b.2)
    makes_once (give last texts) a b =
        let one = given_once k kept left (map Text texts) a.0 b.0 held a.1 b.1 in (
          a.2 ∙ ap (λ (r : List ItemResult). after_give (counted s (count is_refused r)) kept last) one.0
              ∙ ap (λ (h : Held). after_give (counted s (count is_refused b.0)) h last) one.1 ∙ sym b.2,
          one.1,
          a.3 ∙ ap (λ (h : Held). closing h last) one.1 ∙ sym b.3,
        )

    taken_once : (bytes : List ℕ) → IsTaken s k bytes new kept sent → IsTaken s k bytes other left more → (new ≡ other) × (kept ≡ left) × (sent ≡ more)
    taken_once bytes a b =
        let same = (message_once bytes k.team k.team a.content b.content a.message b.message).1 in
        makes_once a.content a.makes (subst (λ (c : Content). Makes s k c other left more) (sym same) b.makes)

  -- a message that is taken isn't refused
  taken_or_not : (s new : Progress) (k kept : Held) (bytes : List ℕ) (sent : List (List ℕ)) → IsTaken s k bytes new kept sent → IsRefused s k bytes → ⊥
  taken_or_not s new k kept bytes sent a (inl n) = n k.team a.content a.message
  taken_or_not s new k kept bytes sent a (inr (inl o)) = o.3 (message_once bytes o.0 k.team o.1 a.content o.2 a.message).0
  taken_or_not s new k kept bytes sent a (inr (inr u)) =
      let same = (message_once bytes k.team k.team a.content u.0 a.message u.1).1 in
      false≢true (sym u.2 ∙ ap (λ (c : Content). awaits s c) (sym same) ∙ a.awaited)

  hears_once : (s new other : Progress) (k kept left : Held) (bytes : List ℕ) (sent more : List (List ℕ)) → IsSoundHeld k → Hears s k bytes new kept sent → Hears s k bytes other left more
      → (new ≡ other) × (kept ≡ left) × (sent ≡ more)
  hears_once s new other k kept left bytes sent more held (inl a) (inl b) = taken_once s k held new other kept left sent more bytes a b
  hears_once s new other k kept left bytes sent more held (inl a) (inr b) = absurd (taken_or_not s new k kept bytes sent a b.0)
  hears_once s new other k kept left bytes sent more held (inr a) (inl b) = absurd (taken_or_not s other k left bytes more b a.0)
  hears_once s new other k kept left bytes sent more held (inr a) (inr b) = (a.1 ∙ sym b.1, a.2 ∙ sym b.2, a.3 ∙ sym b.3)

  makes_held : (s new : Progress) (k kept : Held) (c : Content) (sent : List (List ℕ)) → IsSoundHeld k → Makes s k c new kept sent → IsSoundHeld kept
  makes_held s new k kept (hello heads) sent held a = subst IsSoundHeld (sym a.0) held
  makes_held s new k kept (ask names marks) sent held a = subst IsSoundHeld (sym a.0) held
  makes_held s new k kept (give last texts) sent held a = held_given spelled_once k kept (map Text texts) a.0 held a.1
  makes_held s new k kept (done heads) sent held a = subst IsSoundHeld (sym a.0) held

  hears_held : (s new : Progress) (k kept : Held) (bytes : List ℕ) (sent : List (List ℕ)) → IsSoundHeld k → Hears s k bytes new kept sent → IsSoundHeld kept
  hears_held s new k kept bytes sent held (inl a) = makes_held s new k kept a.content sent held a.makes
  hears_held s new k kept bytes sent held (inr a) = subst IsSoundHeld (sym a.2) held

  same_end : (x y : End) → x.session ≡ y.session → x.held ≡ y.held → x.inbox ≡ y.inbox → x ≡ y
  same_end x y s h b = λ i. record { session = s i; held = h i; inbox = b i }

  module _ (one two : End) (held : IsSoundHeld one.held) where
    turn_once : (inbox : List (List ℕ)) (a b c d : End) (p q : List (List ℕ)) → IsTurnOf inbox one two a b p → IsTurnOf inbox one two c d q → (a ≡ c) × (b ≡ d) × (p ≡ q)
    turn_once [] a b c d p q x y = (x.0 ∙ sym y.0, x.1 ∙ sym y.1, x.2 ∙ sym y.2)
    turn_once (m ∷ ms) a b c d p q x y =
        let h = hears_once one.session a.session c.session one.held a.held c.held m x.0 y.0 held x.1 y.1 in (
          same_end a c h.0 h.1 (x.2 ∙ sym y.2),
          x.3 ∙ ap (λ (sent : List (List ℕ)). record two { inbox = two.inbox ++ sent }) h.2 ∙ sym y.3,
          x.4 ∙ sym y.4,
        )

    turn_held : (inbox : List (List ℕ)) (a b : End) (p : List (List ℕ)) → IsSoundHeld two.held → IsTurnOf inbox one two a b p → IsSoundHeld a.held × IsSoundHeld b.held
    turn_held [] a b p other x = (subst (λ (e : End). IsSoundHeld e.held) (sym x.0) held, subst (λ (e : End). IsSoundHeld e.held) (sym x.1) other)
    turn_held (m ∷ ms) a b p other x = (
      hears_held one.session a.session one.held a.held m x.0 held x.1,
      subst (λ (e : End). IsSoundHeld e.held) (sym x.3) other,
    )

  none_waits : (x y : List (List ℕ)) → x ≡ [] → y ≡ [] → 0 < length x + length y → ⊥
  none_waits x y e f h = omega (arith, h, ap length e, ap length f)

  rounds_once : (n m : ℕ) (one two a b c d : End) (p q : List (List ℕ)) → IsSoundHeld one.held → IsSoundHeld two.held → AreRounds n one two a b p → AreRounds m one two c d q
      → (a ≡ c) × (b ≡ d) × (p ≡ q)
  rounds_once zero zero one two a b c d p q h k x y = (x.2 ∙ sym y.2, x.3 ∙ sym y.3, x.4 ∙ sym y.4)
  rounds_once zero (suc m) one two a b c d p q h k x y = absurd (none_waits one.inbox two.inbox x.0 x.1 y.0)
  rounds_once (suc n) zero one two a b c d p q h k x y = absurd (none_waits one.inbox two.inbox y.0 y.1 x.0)
  rounds_once (suc n) (suc m) one two a b c d p q h k x y = go x.1 y.1 (rounds_once n m)
    where
      Rest : ℕ → End → End → List (List ℕ) → Type 0
      Rest r last other passed =
          (one2 : End) × (two2 : End) × (first : List (List ℕ)) × IsTurn one two one2 two2 first
          × ((two3 : End) × (one3 : End) × (second : List (List ℕ)) × IsTurn two2 one2 two3 one3 second
          × ((rest : List (List ℕ)) × AreRounds r one3 two3 last other rest × (passed ≡ first ++ (second ++ rest))))

      go : Rest n a b p → Rest m c d q
          → ((one two a b c d : End) (p q : List (List ℕ)) → IsSoundHeld one.held → IsSoundHeld two.held → AreRounds n one two a b p → AreRounds m one two c d q → (a ≡ c) × (b ≡ d) × (p ≡ q))
          → (a ≡ c) × (b ≡ d) × (p ≡ q)
      go (a2, b2, f, t, (b3, a3, g, u, (r, more, is))) (c2, d2, f2, t2, (d3, c3, g2, u2, (r2, more2, is2))) on =
          let first = turn_once one two h one.inbox a2 b2 c2 d2 f f2 t t2 in
          let after = turn_held one two h one.inbox a2 b2 f k t in
          let moved : IsTurn b2 a2 d3 c3 g2 = subst (λ (e : End). IsTurn e a2 d3 c3 g2) (sym first.1) (subst (λ (e : End). IsTurn d2 e d3 c3 g2) (sym first.0) u2) in
          let second = turn_once b2 a2 after.1 b2.inbox b3 a3 d3 c3 g g2 u moved in
          let last = turn_held b2 a2 after.1 b2.inbox b3 a3 g after.0 u in
          let later : AreRounds m a3 b3 c d r2 = subst (λ (e : End). AreRounds m e b3 c d r2) (sym second.1) (subst (λ (e : End). AreRounds m c3 e c d r2) (sym second.0) more2) in
          let rest = on a3 b3 a b c d r r2 last.1 last.0 more later in (
            rest.0,
            rest.1,
            is ∙ ap (λ (z : List (List ℕ)). z ++ (g ++ r)) first.2 ∙ ap (λ (z : List (List ℕ)). f2 ++ (z ++ r)) second.2 ∙ ap (λ (z : List (List ℕ)). f2 ++ (g2 ++ z)) rest.2 ∙ sym is2,
          )

  pub meeting_once : MeetingIsOne
  meeting_once k m kept other kept2 other2 met met2 hk hm x y =
      let r = rounds_once x.meeting.0 y.meeting.0 (meeting_end k m) (meeting_end m k) x.one x.two y.one y.two x.passed y.passed hk hm x.meeting.1 y.meeting.1 in
      let messages : met.messages ≡ met2.messages = x.count ∙ ap length r.2 ∙ sym y.count in
      let digest : met.digest ≡ met2.digest = x.digest ∙ ap (λ (p : List (List ℕ)). sha256 (concat p)) r.2 ∙ sym y.digest in
      let first : met.refused_by_first ≡ met2.refused_by_first = x.refused_first ∙ ap (λ (e : End). e.session.refused) r.0 ∙ sym y.refused_first in
      let second : met.refused_by_second ≡ met2.refused_by_second = x.refused_second ∙ ap (λ (e : End). e.session.refused) r.1 ∙ sym y.refused_second in (
        x.first ∙ ap (λ (e : End). e.held) r.0 ∙ sym y.first,
        x.second ∙ ap (λ (e : End). e.held) r.1 ∙ sym y.second,
        λ i. record { messages = messages i; digest = digest i; refused_by_first = first i; refused_by_second = second i },
      )
