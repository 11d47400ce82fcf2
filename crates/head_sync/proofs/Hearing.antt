-- What an end makes of a message that it takes in turn, and of one of an end that is done.
use Rattle.std.proofs.Common.{◌≡◌, inl, inr, ℕ, Bool, true, List, [], refl, sym, ◌∙◌, ap, subst}
use Rattle.std.proofs.lemmas.Bool.{false≢true}
use Rattle.team_sets.specs.Names.{Name}
use Rattle.link_graph.specs.Held.{Held}
use Rattle.head_sync.specs.Meetings.{Hears, IsRefused}
use Rattle.head_sync.specs.Messages.{Content, IsMessage, ask, done, give, hello, message_text}
use Rattle.head_sync.specs.Sessions.{Makes, Progress, awaits}
use Rattle.head_sync.proofs.Agreeing.{IsDone, done_kind, same_kind}
use Rattle.head_sync.proofs.ReadOnce.{message_once}

-- nothing is offered or sent
pub record IsQuiet (s new : Progress) (k kept : Held) (sent : List (List ℕ)) : Type 0 where
  pub held : kept ≡ k
  pub none : sent ≡ []
  pub waits : new.awaits_links ≡ s.awaits_links
  pub refused : new.refused ≡ s.refused

module _ (s new : Progress) (k kept : Held) (bytes : List ℕ) (sent : List (List ℕ)) where
  not_refused : (c : Content) → IsMessage bytes k.team c → awaits s c ≡ true → IsRefused s k bytes → ⊥
  not_refused c is waits (inl n) = n k.team c is
  not_refused c is waits (inr (inl o)) = o.3 (message_once bytes o.0 k.team o.1 c o.2 is).0
  not_refused c is waits (inr (inr u)) =
      let same = (message_once bytes k.team k.team c u.0 is u.1).1 in
      false≢true (sym u.2 ∙ ap (λ (d : Content). awaits s d) (sym same) ∙ waits)

  -- a message in turn isn't refused
  pub heard : (c : Content) → IsMessage bytes k.team c → awaits s c ≡ true → Hears s k bytes new kept sent → Makes s k c new kept sent
  heard c is waits (inl a) = subst (λ (d : Content). Makes s k d new kept sent) (message_once bytes k.team k.team a.content c a.message is).1 a.makes
  heard c is waits (inr r) = absurd (not_refused c is waits r.0)

  quiet_done : (c : Content) → IsDone c → Makes s k c new kept sent → IsQuiet s new k kept sent
  quiet_done (hello heads) d m = absurd d
  quiet_done (ask names marks) d m = absurd d
  quiet_done (give more texts) d m = absurd d
  quiet_done (done heads) d m = record { held = m.0; none = m.2; waits = ap (λ (p : Progress). p.awaits_links) m.1; refused = ap (λ (p : Progress). p.refused) m.1 }

  -- whether or not a message of an end that is done is in turn
  pub hears_closing : (team : Name) (heads : List Name) → bytes ≡ message_text team (done heads) → Hears s k bytes new kept sent → IsQuiet s new k kept sent
  hears_closing team heads e (inl a) = quiet_done a.content (done_kind a.content (same_kind k.team team a.content (done heads) (sym a.message.is_text ∙ e))) a.makes
  hears_closing team heads e (inr r) = record { held = r.2; none = r.3; waits = ap (λ (p : Progress). p.awaits_links) r.1; refused = ap (λ (p : Progress). p.refused) r.1 }
