-- How a meeting begins: both ends are greeted and ask for what they lack, and then both are answered.
use Rattle.std.proofs.Common.{◌≡◌, ◌≤◌, ◌&&◌, ◌||◌, inl, inr, ℕ, zero, suc, Bool, true, false, cond, not, List, [], ◌∷◌, ◌++◌, filter, length, map, append-nil, refl, sym, ◌∙◌, ap, subst, arith}
use Rattle.std.specs.List.{AllByRecursion, list_any}
use Rattle.std.proofs.lemmas.Bool.{false≢true}
use Rattle.tg_text.specs.Spelling.{IsHash}
use Rattle.team_sets.specs.Names.{Name, has_name, name_lt}
use Rattle.team_sets.specs.Members.{IsIn}
use Rattle.team_sets.specs.Ancestry.{is_before, named}
use Rattle.team_sets.specs.SortedLaws.{IsAscending}
use Rattle.team_sets.proofs.Ancestors.{in_links}
use Rattle.team_sets.proofs.Distinct.{distinct-differ}
use Rattle.team_sets.proofs.OrderLeast.{of_filter}
use Rattle.team_sets.proofs.Pasts.{all_at}
use Rattle.team_sets.proofs.Sorted.{all_of}
use Rattle.team_model.specs.Judging.{name_of, order_of, prev_of}
use Rattle.team_model.specs.declared.terms.Link.{Link}
use Rattle.link_text.specs.LinkText.{IsValid, text}
use Rattle.link_graph.specs.Below.{below_of, is_connected, is_within}
use Rattle.link_graph.specs.Heads.{heads_of}
use Rattle.link_graph.specs.Held.{Held}
use Rattle.head_sync.specs.MeetLaws.{IsExchanged, MeetingExchanges, exchanged}
use Rattle.head_sync.specs.Meetings.{AreRounds, End, Hears, IsMet, IsTurn, IsTurnOf, meeting_end}
use Rattle.head_sync.specs.Messages.{AreNames, IsMessage, ask, done, hello, message_text}
use Rattle.head_sync.specs.Sessions.{Progress, after_hello, asked_for, asking, awaits, closing_of, gives, greeting_of, lacking, started}
use Rattle.head_sync.proofs.Covered.{ascends_of, heads_ascending}
use Rattle.head_sync.proofs.Gaining.{AreClosings, Gains, IsSoFar, rounds_gain}
use Rattle.head_sync.proofs.Hearing.{heard, hears_closing}
use Rattle.head_sync.proofs.HeldSets.{IsSoundHeld, heads_are_names}
use Rattle.head_sync.proofs.TextFrames.{AreShort}

module _ {X : Type 0} (p : X → Bool) where
  all_filter : (Q : X → Type 0) (xs : List X) → AllByRecursion Q xs → AllByRecursion Q (filter p xs)
  all_filter Q [] all = tt
  all_filter Q (x ∷ xs) all = go (p x) (all_filter Q xs all.1)
    where
      go : (b : Bool) → AllByRecursion Q (filter p xs) → AllByRecursion Q (cond b (x ∷ filter p xs) (filter p xs))
      go true more = (all.0, more)
      go false more = more

  pub filter_none : (xs : List X) → ((x : X) → p x ≡ false) → filter p xs ≡ []
  filter_none [] none = refl
  filter_none (x ∷ xs) none = ap (λ (b : Bool). cond b (x ∷ filter p xs) (filter p xs)) (none x) ∙ filter_none xs none

ascending_filter : (p : Name → Bool) (ns : List Name) → IsAscending name_lt ns → IsAscending name_lt (filter p ns)
ascending_filter p [] h = tt
ascending_filter p (n ∷ ns) h = go (p n) (ascending_filter p ns h.1)
  where
    go : (b : Bool) → IsAscending name_lt (filter p ns) → IsAscending name_lt (cond b (n ∷ filter p ns) (filter p ns))
    go true more = (all_filter p (λ m. name_lt n m ≡ true) ns h.0, more)
    go false more = more

-- what is lacking are names
lacking_names : (k m : Held) → IsSoundHeld m → AreNames (lacking k (heads_of m.links))
lacking_names k m hm = record {
  hashes = all_filter (λ n. not (is_connected k.links n)) IsHash (heads_of m.links) (heads_are_names m hm).hashes;
  ascend =
      ascends_of (lacking k (heads_of m.links))
      (ascending_filter (λ n. not (is_connected k.links n)) (heads_of m.links) (heads_ascending m.links (distinct-differ name_of m.links hm.set)));
}

-- nothing is asked for by no name
none_within : (links : List Link) (x : Link) → is_within links [] x ≡ false
none_within links x =
    ap (λ (xs : List Link). has_name [] x.name || list_any (is_before name_of prev_of links x.name) xs) (filter_none (λ (z : Link). has_name [] z.name) (order_of links) (λ z. refl))

none_asked : (k : Held) (marks : List Name) → asked_for k [] marks ≡ []
none_asked k marks =
    ap (map text)
    (filter_none (λ (x : Link). is_within k.links [] x && not (is_within k.links marks x)) (order_of k.links)
    (λ x. ap (λ (b : Bool). b && not (is_within k.links marks x)) (none_within k.links x)))

-- the texts of a held set are short
pub asked_short : (k : Held) → IsSoundHeld k → (names marks : List Name) → AreShort (asked_for k names marks)
asked_short k hk names marks = all_texts (below_of k.links names marks) (λ x j. one x (of_filter (λ (z : Link). is_within k.links names z && not (is_within k.links marks z)) x (order_of k.links) j).0)
  where
    one : (x : Link) → IsIn x (order_of k.links) → length (text x) ≤ 1048576
    one x j = (all_at (λ l. IsValid k.team (text l) l) k.links hk.valid x (in_links name_of prev_of k.links (distinct-differ name_of k.links hk.set) x j)).reads.well_formed.fits

    all_texts : (xs : List Link) → ((x : Link) → IsIn x xs → length (text x) ≤ 1048576) → AreShort (map text xs)
    all_texts [] fits = tt
    all_texts (x ∷ xs) fits = let least = fits x (inl refl) in (omega (arith, least), all_texts xs (λ y j. fits y (inr j)))

-- once it was greeted, an end has asked or is done
greeted_is : (k : Held) (l : List Name) → (after_hello started k l).greeted ≡ true
greeted_is k [] = refl
greeted_is k (n ∷ ns) = refl

unasked_is : (k : Held) (l : List Name) → (after_hello started k l).asked ≡ false
unasked_is k [] = refl
unasked_is k (n ∷ ns) = refl

refused_is : (k : Held) (l : List Name) → (after_hello started k l).refused ≡ 0
refused_is k [] = refl
refused_is k (n ∷ ns) = refl

-- an end that was greeted, for which these messages wait
pub record IsGreeted (k m : Held) (e : End) (box : List (List ℕ)) : Type 0 where
  pub session : e.session ≡ after_hello started k (lacking k (heads_of m.links))
  pub held : e.held ≡ k
  pub inbox : e.inbox ≡ box

module _ (k m : Held) (hk : IsSoundHeld k) (hm : IsSoundHeld m) (team : k.team ≡ m.team) where
  -- what is made of a greeting
  greets : (new : Progress) (kept : Held) (sent : List (List ℕ)) → Hears started k (greeting_of m) new kept sent
      → (kept ≡ k) × (new ≡ after_hello started k (lacking k (heads_of m.links))) × (sent ≡ asking k (lacking k (heads_of m.links)))
  greets new kept sent h =
      let is : IsMessage (greeting_of m) k.team (hello (heads_of m.links)) = record {
        team = hk.team;
        content = heads_are_names m hm;
        is_text = ap (λ (t : Name). message_text t (hello (heads_of m.links))) (sym team);
      } in
      heard started new k kept (greeting_of m) sent (hello (heads_of m.links)) is refl h

-- the first round
module _ (k m : Held) (hk : IsSoundHeld k) (hm : IsSoundHeld m) (team : k.team ≡ m.team) (one2 two2 two3 one3 : End) (first second : List (List ℕ))
    (t : IsTurn (meeting_end k m) (meeting_end m k) one2 two2 first) (u : IsTurn two2 one2 two3 one3 second) where
  abbrev greeted : End
  greeted = record { session = started; held = m; inbox = greeting_of k ∷ t.0 }

  mine : (one2.held ≡ k) × (one2.session ≡ after_hello started k (lacking k (heads_of m.links))) × (t.0 ≡ asking k (lacking k (heads_of m.links)))
  mine = greets k m hk hm team one2.session one2.held t.0 t.1

  next : IsTurn greeted one2 two3 one3 second
  next = subst (λ (e : End). IsTurn e one2 two3 one3 second) t.3 u

  theirs : (two3.held ≡ m) × (two3.session ≡ after_hello started m (lacking m (heads_of k.links))) × (next.0 ≡ asking m (lacking m (heads_of k.links)))
  theirs = greets m k hm hk (sym team) two3.session two3.held next.0 next.1

  pub first_greeted : IsGreeted k m one3 (asking m (lacking m (heads_of k.links)))
  first_greeted = record {
    session = ap (λ (e : End). e.session) next.3 ∙ mine.1;
    held = ap (λ (e : End). e.held) next.3 ∙ mine.0;
    inbox = ap (λ (e : End). e.inbox) next.3 ∙ ap (λ (b : List (List ℕ)). b ++ next.0) t.2 ∙ theirs.2;
  }

  pub second_greeted : IsGreeted m k two3 (asking k (lacking k (heads_of m.links)))
  second_greeted = record { session = theirs.1; held = theirs.0; inbox = next.2 ∙ mine.2 }

-- what is answered to the one who asks for names
abbrev pub replies : Held → List Name → List Name → List (List ℕ)
replies k [] marks = []
replies k (n ∷ ns) marks = gives k.team [] (asked_for k (n ∷ ns) marks)

-- a turn in which the first message is answered
pub record IsReplied (k : Held) (names marks : List Name) (one two new other : End) (rest : List (List ℕ)) : Type 0 where
  pub held : new.held ≡ k
  pub waits : new.session.awaits_links ≡ one.session.awaits_links
  pub refused : new.session.refused ≡ one.session.refused
  pub inbox : new.inbox ≡ rest
  pub sends : other ≡ record two { inbox = two.inbox ++ replies k names marks }

module _ (k m : Held) (hk : IsSoundHeld k) (hm : IsSoundHeld m) (team : k.team ≡ m.team) (one two new other : End) (passed rest : List (List ℕ)) (held : one.held ≡ k)
    (greeted : one.session.greeted ≡ true) (unasked : one.session.asked ≡ false) where
  abbrev marks : List Name
  marks = heads_of m.links

  pub answers : (names : List Name) → AreNames names → IsTurnOf (asking m names ++ rest) one two new other passed → IsReplied k names marks one two new other rest
  answers [] are t =
      let q = hears_closing one.session new.session one.held new.held (closing_of m) t.0 m.team marks refl t.1 in
      record {
        held = q.held ∙ held;
        waits = q.waits;
        refused = q.refused;
        inbox = t.2;
        sends = t.3 ∙ ap (λ (s : List (List ℕ)). record two { inbox = two.inbox ++ s }) q.none;
      }
  answers (n ∷ ns) are t =
      let names = n ∷ ns in
      let its : one.held.team ≡ m.team = ap (λ (h : Held). h.team) held ∙ team in
      let is : IsMessage (message_text m.team (ask names marks)) one.held.team (ask names marks) = record {
        team = subst IsHash (sym its) hm.team;
        content = (are, omega arith, heads_are_names m hm);
        is_text = ap (λ (t : Name). message_text t (ask names marks)) (sym its);
      } in
      let turn : awaits one.session (ask names marks) ≡ true =
      ap (λ (b : Bool). b && not one.session.asked) greeted ∙ ap (λ (b : Bool). true && not b) unasked in
      let made = heard one.session new.session one.held new.held (message_text m.team (ask names marks)) t.0 (ask names marks) is turn t.1 in
      record {
        held = made.0 ∙ held;
        waits = ap (λ (p : Progress). p.awaits_links) made.1;
        refused = ap (λ (p : Progress). p.refused) made.1;
        inbox = t.2;
        sends = t.3 ∙ ap (λ (s : List (List ℕ)). record two { inbox = two.inbox ++ s }) made.2
            ∙ ap (λ (h : Held). record two { inbox = two.inbox ++ gives h.team [] (asked_for h names marks) }) held;
      }

-- the end that was answered is given what it asked for
module _ (k m : Held) (team : k.team ≡ m.team) (e : End) (held : e.held ≡ k) (none : e.session.refused ≡ 0) where
  nothing : IsSoFar k e.held e.session.refused []
  nothing = record { results = []; given = (refl, held); counted = omega (arith, none) }

  pub gains_asked : (names : List Name) → e.session.awaits_links ≡ (after_hello started k names).awaits_links → e.inbox ≡ replies m names (heads_of k.links)
      → Gains k (asked_for m names (heads_of k.links)) e
  gains_asked [] waits inbox =
      inr (record {
        so_far = subst (λ (ts : List (List ℕ)). IsSoFar k e.held e.session.refused ts) (sym (none_asked m (heads_of k.links))) nothing;
        closings = subst AreClosings (sym inbox) tt;
      })
  gains_asked (n ∷ ns) waits inbox =
      let texts = asked_for m (n ∷ ns) (heads_of k.links) in
      inl (record {
        first = [];
        now = [];
        rest = texts;
        tail = [];
        so_far = nothing;
        waits = waits;
        all = refl;
        few = omega arith;
        inbox = inbox ∙ ap (λ (t : Name). gives t [] texts) (sym team) ∙ sym (append-nil (gives k.team [] texts));
        closings = tt;
      })

-- the second round
module _ (k m : Held) (hk : IsSoundHeld k) (hm : IsSoundHeld m) (team : k.team ≡ m.team) (one two one2 two2 two3 one3 : End) (first second : List (List ℕ))
    (one_is : IsGreeted k m one (asking m (lacking m (heads_of k.links)))) (two_is : IsGreeted m k two (asking k (lacking k (heads_of m.links))))
    (t : IsTurn one two one2 two2 first) (u : IsTurn two2 one2 two3 one3 second) where
  abbrev ours : List Name
  ours = lacking k (heads_of m.links)

  abbrev others : List Name
  others = lacking m (heads_of k.links)

  abbrev given : List (List ℕ)
  given = replies k others (heads_of m.links)

  abbrev gained : List (List ℕ)
  gained = replies m ours (heads_of k.links)

  flag : (x : Bool) (f : Progress → Bool) (s p : Progress) → s ≡ p → f p ≡ x → f s ≡ x
  flag x f s p e is = ap f e ∙ is

  one_replies : IsReplied k others (heads_of m.links) one two one2 two2 []
  one_replies =
      answers k m hk hm team one two one2 two2 first [] one_is.held (flag true (λ (p : Progress). p.greeted) one.session (after_hello started k ours) one_is.session (greeted_is k ours))
      (flag false (λ (p : Progress). p.asked) one.session (after_hello started k ours) one_is.session (unasked_is k ours)) others (lacking_names m k hk)
      (subst (λ (b : List (List ℕ)). IsTurnOf b one two one2 two2 first) (one_is.inbox ∙ sym (append-nil (asking m others))) t)

  abbrev waiting : End
  waiting = record two { inbox = two.inbox ++ given }

  answering_turn : IsTurn waiting one2 two3 one3 second
  answering_turn = subst (λ (e : End). IsTurn e one2 two3 one3 second) one_replies.sends u

  two_replies : IsReplied m ours (heads_of k.links) waiting one2 two3 one3 given
  two_replies =
      answers m k hm hk (sym team) waiting one2 two3 one3 second given two_is.held (flag true (λ (p : Progress). p.greeted) two.session (after_hello started m others) two_is.session (greeted_is m others))
      (flag false (λ (p : Progress). p.asked) two.session (after_hello started m others) two_is.session (unasked_is m others)) ours (lacking_names k m hm)
      (subst (λ (b : List (List ℕ)). IsTurnOf (b ++ given) waiting one2 two3 one3 second) two_is.inbox answering_turn)

  pub one_gains : Gains k (exchanged k m) one3
  one_gains =
      gains_asked k m team one3 (ap (λ (e : End). e.held) two_replies.sends ∙ one_replies.held)
      (ap (λ (e : End). e.session.refused) two_replies.sends ∙ one_replies.refused ∙ ap (λ (p : Progress). p.refused) one_is.session ∙ refused_is k ours) ours
      (ap (λ (e : End). e.session.awaits_links) two_replies.sends ∙ one_replies.waits ∙ ap (λ (p : Progress). p.awaits_links) one_is.session)
      (ap (λ (e : End). e.inbox) two_replies.sends ∙ ap (λ (b : List (List ℕ)). b ++ gained) one_replies.inbox)

  pub two_gains : Gains m (exchanged m k) two3
  two_gains =
      gains_asked m k (sym team) two3 two_replies.held (two_replies.refused ∙ ap (λ (p : Progress). p.refused) two_is.session ∙ refused_is m others) others
      (two_replies.waits ∙ ap (λ (p : Progress). p.awaits_links) two_is.session) two_replies.inbox

-- an end sends something once it is greeted
some_asked : (k : Held) (l : List Name) → asking k l ≡ [] → ⊥
some_asked k [] e = let bad : closing_of k ∷ [] ≡ [] = e in cc
some_asked k (n ∷ ns) e = let bad : message_text k.team (ask (n ∷ ns) (heads_of k.links)) ∷ [] ≡ [] = e in cc

module _ (k m : Held) (hk : IsSoundHeld k) (hm : IsSoundHeld m) (team : k.team ≡ m.team) (last other : End) where
  abbrev Both : Type 0
  Both = IsSoFar k last.held last.session.refused (exchanged k m) × IsSoFar m other.held other.session.refused (exchanged m k)

  second_round : (n : ℕ) (one two : End) (passed : List (List ℕ)) → IsGreeted k m one (asking m (lacking m (heads_of k.links))) → IsGreeted m k two (asking k (lacking k (heads_of m.links)))
      → AreRounds n one two last other passed → Both
  second_round zero one two passed one_is two_is r = absurd (some_asked m (lacking m (heads_of k.links)) (sym one_is.inbox ∙ r.0))
  second_round (suc n) one two passed one_is two_is (some, (one2, two2, first, t, (two3, one3, second, u, (rest, more, is)))) =
      rounds_gain k m hk hm (exchanged k m) (exchanged m k) (asked_short m hm (lacking k (heads_of m.links)) (heads_of k.links)) (asked_short k hk (lacking m (heads_of k.links)) (heads_of m.links)) n one3
      two3 last other rest more (one_gains k m hk hm team one two one2 two2 two3 one3 first second one_is two_is t u) (two_gains k m hk hm team one two one2 two2 two3 one3 first second one_is two_is t u)

  pub all_rounds : (n : ℕ) (passed : List (List ℕ)) → AreRounds n (meeting_end k m) (meeting_end m k) last other passed → Both
  all_rounds zero passed r = absurd (let bad : greeting_of m ∷ [] ≡ [] = r.0 in cc)
  all_rounds (suc n) passed (some, (one2, two2, first, t, (two3, one3, second, u, (rest, more, is)))) =
      second_round n one3 two3 rest (first_greeted k m hk hm team one2 two2 two3 one3 first second t u) (second_greeted k m hk hm team one2 two2 two3 one3 first second t u) more

-- what both ends were given
pub meeting_exchanges : MeetingExchanges
meeting_exchanges k m kept other met hk hm team is = (
  exchanged_is k m kept is.one met.refused_by_first is.first is.refused_first both.0,
  exchanged_is m k other is.two met.refused_by_second is.second is.refused_second both.1,
)
  where
    both : IsSoFar k is.one.held is.one.session.refused (exchanged k m) × IsSoFar m is.two.held is.two.session.refused (exchanged m k)
    both = all_rounds k m hk hm team is.one is.two is.meeting.0 is.passed is.meeting.1

    exchanged_is : (k m kept : Held) (e : End) (refused : ℕ) → kept ≡ e.held → refused ≡ e.session.refused → IsSoFar k e.held e.session.refused (exchanged k m) → IsExchanged k m kept refused
    exchanged_is k m kept e refused same count s =
        subst (λ (h : Held). IsExchanged k m h refused) (sym same) (subst (λ (n : ℕ). IsExchanged k m e.held n) (sym count) (s.results, s.given, s.counted))
