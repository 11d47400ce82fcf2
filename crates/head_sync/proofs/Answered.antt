-- What an end answers to bytes, by what is read of them.
use Rattle.std.proofs.Common.{◌≡◌, ◌≢◌, ◌⊎◌, inl, inr, ℕ, Bool, true, false, not, Decides, List, [], Result, Ok, Err, IsErrAnd, nat_eq, refl, sym, ap, ◌∙◌, subst}
use Rattle.std.specs.Cmp.Lexicographic.{pointwise}
use Rattle.std.proofs.lemmas.Bool.{false≢true, not-false, not-true}
use Rattle.std.proofs.lemmas.Bool.Decides.{Decides-eqb}
use Rattle.std.proofs.lemmas.Slice.Eq.{slice_eq-Decides}
use Rattle.team_sets.specs.Names.{Name}
use Rattle.link_graph.specs.Held.{Held}
use Rattle.head_sync.specs.Bodies.{ReadsMessage, content_of, fault_of}
use Rattle.head_sync.specs.Meetings.{Hears}
use Rattle.head_sync.specs.Messages.{Content, IsMessage, ask, done, give, hello}
use Rattle.head_sync.specs.Sessions.{Answers, IsForOther, IsNoMessage, IsPartTaken, IsUnawaited, Makes, Progress, awaits}
use Rattle.head_sync.specs.Steps.{GivesPart}
use Rattle.head_sync.specs.declared.fault.ReadFault.{ReadFault}
use Rattle.head_sync.specs.declared.fault.ReadFault.TheVariants as read
use Rattle.head_sync.specs.declared.fault.SyncFault.{SyncFault}
use Rattle.head_sync.specs.declared.fault.SyncFault.TheVariants.{BadMessage, Memory, OtherTeam, OutOfTurn}
use Rattle.head_sync.specs.declared.message.Message.{Message}
use Rattle.head_sync.proofs.ReadOnce.{message_once}

abbrev Answer : Type 0
Answer = Result (List (List ℕ)) SyncFault

-- a fault is no other one, nor an answer of messages
differ : {T : Type 0} (f g : SyncFault) → (f ≡ g → ⊥) → ◌≡◌ {A = Answer} (Err f) (Err g) → T
differ f g apart e = absurd (apart (let same : ◌≡◌ {A = Answer} (Err f) (Err g) = e in cc))

module _ (s new : Progress) (k kept : Held) (bytes : List ℕ) (stays : new ≡ s) where
  -- memory was short
  pub short_answer : IsPartTaken k bytes kept → Answers s k bytes new kept (Err Memory)
  short_answer part = record {
    taken = tt;
    stays = stays;
    keeps = part;
    bad_message = record { only = λ e. differ Memory BadMessage (λ d. cc) e; comes = λ h. inr refl };
    other_team = record { only = λ e. differ Memory OtherTeam (λ d. cc) e; comes = λ h. inr refl };
    out_of_turn = record { only = λ e. differ Memory OutOfTurn (λ d. cc) e; comes = λ h. inr refl };
  }

  module _ (same : kept ≡ k) where
    bad_answer : IsNoMessage bytes → Answers s k bytes new kept (Err BadMessage)
    bad_answer none = record {
      taken = tt;
      stays = stays;
      keeps = same;
      bad_message = record { only = λ e. none; comes = λ h. inl refl };
      other_team = record { only = λ e. differ BadMessage OtherTeam (λ d. cc) e; comes = λ h. absurd (none h.0 h.1 h.2) };
      out_of_turn = record { only = λ e. differ BadMessage OutOfTurn (λ d. cc) e; comes = λ h. absurd (none k.team h.0 h.1) };
    }

    -- the bytes aren't read
    pub unread_answer : (f : ReadFault) → ReadsMessage bytes (Err f) → Answers s k bytes new kept (Err (fault_of f))
    unread_answer read.Memory is = short_answer (inl same)
    unread_answer read.BadMessage is = bad_answer (λ team c m. let bad : ◌≡◌ {A = ReadFault} read.BadMessage read.Memory = is.only team c m in cc)

    -- the message is to another team
    pub other_answer : (m : Message) → ReadsMessage bytes (Ok m) → m.team ≢ k.team → Answers s k bytes new kept (Err OtherTeam)
    other_answer m is apart = record {
      taken = tt;
      stays = stays;
      keeps = same;
      bad_message = record { only = λ e. differ OtherTeam BadMessage (λ d. cc) e; comes = λ h. absurd (h m.team (content_of m.body) is.found) };
      other_team = record { only = λ e. (m.team, content_of m.body, is.found, apart); comes = λ h. inl refl };
      out_of_turn = record {
        only = λ e. differ OtherTeam OutOfTurn (λ d. cc) e;
        comes = λ h. absurd (apart (message_once bytes m.team k.team (content_of m.body) h.0 is.found h.1).0);
      };
    }

    -- the message isn't in turn
    pub unawaited_answer : (m : Message) → ReadsMessage bytes (Ok m) → m.team ≡ k.team → awaits s (content_of m.body) ≡ false → Answers s k bytes new kept (Err OutOfTurn)
    unawaited_answer m is team turn = record {
      taken = tt;
      stays = stays;
      keeps = same;
      bad_message = record { only = λ e. differ OutOfTurn BadMessage (λ d. cc) e; comes = λ h. absurd (h m.team (content_of m.body) is.found) };
      other_team = record {
        only = λ e. differ OutOfTurn OtherTeam (λ d. cc) e;
        comes = λ h. absurd (h.3 ((message_once bytes h.0 m.team h.1 (content_of m.body) h.2 is.found).0 ∙ team));
      };
      out_of_turn = record { only = λ e. (content_of m.body, subst (λ (t : Name). IsMessage bytes t (content_of m.body)) team is.found, turn); comes = λ h. inl refl };
    }

-- the message is taken
module _ (s new : Progress) (k kept : Held) (bytes : List ℕ) (m : Message) (is : ReadsMessage bytes (Ok m)) (team : m.team ≡ k.team) (turn : awaits s (content_of m.body) ≡ true) where
  its : IsMessage bytes k.team (content_of m.body)
  its = subst (λ (t : Name). IsMessage bytes t (content_of m.body)) team is.found

  pub taken_answer : (sent : List (List ℕ)) → Makes s k (content_of m.body) new kept sent → Answers s k bytes new kept (Ok sent)
  taken_answer sent made = record {
    taken = record { content = content_of m.body; message = its; awaited = turn; makes = made };
    stays = tt;
    keeps = tt;
    bad_message = record { only = λ e. let bad : ◌≡◌ {A = Answer} (Ok sent) (Err BadMessage) = e in absurd cc; comes = λ h. absurd (h k.team (content_of m.body) its) };
    other_team = record {
      only = λ e. let bad : ◌≡◌ {A = Answer} (Ok sent) (Err OtherTeam) = e in absurd cc;
      comes = λ h. absurd (h.3 (message_once bytes h.0 k.team h.1 (content_of m.body) h.2 its).0);
    };
    out_of_turn = record {
      only = λ e. let bad : ◌≡◌ {A = Answer} (Ok sent) (Err OutOfTurn) = e in absurd cc;
      comes = λ h. absurd (false≢true (sym h.2 ∙ ap (λ (c : Content). awaits s c) (message_once bytes k.team k.team h.0 (content_of m.body) h.1 its).1 ∙ turn));
    };
  }

  part_taken : (c : Content) → IsMessage bytes k.team c → GivesPart k c kept → IsPartTaken k bytes kept
  part_taken (hello heads) is p = inl p
  part_taken (ask names marks) is p = inl p
  part_taken (give more texts) is p = inr (more, texts, is, p)
  part_taken (done heads) is p = inl p

  pub part_answer : new ≡ s → GivesPart k (content_of m.body) kept → Answers s k bytes new kept (Err Memory)
  part_answer stays part = short_answer s new k kept bytes stays (part_taken (content_of m.body) its part)

-- a fault of the reading is that of the session
pub by_residual : (s new : Progress) (k kept : Held) (bytes : List ℕ) (r : Answer) (f : ReadFault) → IsErrAnd r (λ e. e ≡ fault_of f) → Answers s k bytes new kept (Err (fault_of f))
    → Answers s k bytes new kept r
by_residual s new k kept bytes (Ok sent) f h a = absurd h
by_residual s new k kept bytes (Err e) f h a = subst (λ (x : SyncFault). Answers s k bytes new kept (Err x)) (sym h) a

-- whether two teams differ
module _ (a b t : Name) (r : Bool) (is : r ≡ not (pointwise nat_eq a b)) (team : b ≡ t) where
  tells : Decides (pointwise nat_eq a b) (a ≡ b)
  tells = slice_eq-Decides Decides-eqb a b (pointwise nat_eq a b) refl

  pub other_team : r ≡ true → a ≢ t
  other_team e same = false≢true (sym (not-true (pointwise nat_eq a b) (sym is ∙ e)) ∙ tells.1 (same ∙ sym team))

  pub same_team : r ≡ false → a ≡ t
  same_team e = tells.0 (not-false (pointwise nat_eq a b) (sym is ∙ e)) ∙ team

-- a message that isn't taken leaves all, unless memory is short
pub refused_hears : (s new : Progress) (k kept : Held) (bytes : List ℕ) (sent : List (List ℕ)) (f : SyncFault) → f ≢ Memory → Answers s k bytes new kept (Err f) → sent ≡ []
    → Hears s k bytes new kept sent
refused_hears s new k kept bytes sent Memory apart a e = absurd (apart refl)
refused_hears s new k kept bytes sent BadMessage apart a e = inr (inl (a.bad_message.only refl), a.stays, a.keeps, e)
refused_hears s new k kept bytes sent OtherTeam apart a e = inr (inr (inl (a.other_team.only refl)), a.stays, a.keeps, e)
refused_hears s new k kept bytes sent OutOfTurn apart a e = inr (inr (inr (a.out_of_turn.only refl)), a.stays, a.keeps, e)
