-- What an end is given in a meeting, turn by turn.
use Rattle.std.proofs.Common.{◌≡◌, ◌≤◌, ◌<◌, ◌⊎◌, ◌+◌, ◌-◌, ◌^◌, inl, inr, ℕ, zero, suc, Bool, true, false, List, [], ◌∷◌, ◌++◌, length, map, min, append-nil, append_assoc, refl, sym, ◌∙◌, ap, subst, arith}
use Rattle.std.specs.List.{AllByRecursion}
use Rattle.std.proofs.lemmas.List.{map-append}
use Rattle.tg_text.specs.Spelling.{IsHash}
use Rattle.team_sets.specs.Names.{Name}
use Rattle.link_graph.specs.Heads.{heads_of}
use Rattle.link_graph.specs.Held.{Held}
use Rattle.link_graph.specs.Taking.{Takes}
use Rattle.link_graph.specs.declared.took.Took.{Took}
use Rattle.link_graph.specs.declared.took.Took.TheVariants as took
use Rattle.team_files.specs.declared.item.Item.{Item}
use Rattle.team_files.specs.declared.item.Item.TheVariants.{Header, Text, Cut, BadFrame, Long}
use Rattle.link_intake.specs.Giving.{Becomes, IsGiven, TextBecomes}
use Rattle.link_intake.specs.ResultsText.{count, is_refused}
use Rattle.link_intake.specs.declared.item_result.ItemResult.{ItemResult}
use Rattle.link_intake.specs.declared.item_result.ItemResult.TheVariants as became
use Rattle.head_sync.specs.Meetings.{AreRounds, End, Hears, IsTurn, IsTurnOf}
use Rattle.head_sync.specs.Messages.{IsMessage, done, give, message_text, most_given_links}
use Rattle.head_sync.specs.Sessions.{Makes, Progress, gives}
use Rattle.head_sync.proofs.Gives.{IsFirstGive, IsLastGive, gives_split}
use Rattle.head_sync.proofs.Hearing.{heard, hears_closing}
use Rattle.head_sync.proofs.HeldSets.{IsSoundHeld}
use Rattle.head_sync.proofs.Offered.{count_join, given_join}
use Rattle.head_sync.proofs.TextFrames.{AreShort}

-- the team stays
text_team : (old new : Held) (bytes : List ℕ) (f : ItemResult) → TextBecomes old new bytes f → new.team ≡ old.team
text_team old new bytes became.Header h = absurd h
text_team old new bytes (became.New connected) h = ap (λ (s : Held). s.team) h.1.held
text_team old new bytes became.Waiting h = ap (λ (s : Held). s.team) h.held
text_team old new bytes became.Again h = ap (λ (s : Held). s.team) h.1
text_team old new bytes (became.Refused refusal) h = ap (λ (s : Held). s.team) h.1

item_team : (old new : Held) (item : Item) (f : ItemResult) → Becomes old new item f → new.team ≡ old.team
item_team old new Header f h = ap (λ (s : Held). s.team) h.1
item_team old new (Text bytes) f h = text_team old new bytes f h
item_team old new Cut f h = ap (λ (s : Held). s.team) h.1
item_team old new BadFrame f h = ap (λ (s : Held). s.team) h.1
item_team old new Long f h = ap (λ (s : Held). s.team) h.1

given_team : (old new : Held) (items : List Item) (results : List ItemResult) → IsGiven old items new results → new.team ≡ old.team
given_team old new [] results given = ap (λ (s : Held). s.team) given.1
given_team old new (item ∷ items) [] given = absurd given
given_team old new (item ∷ items) (f ∷ results) given = given_team given.0 new items results given.2 ∙ item_team old given.0 item f given.1

-- these say all that their sender is done
abbrev pub IsClosing : List ℕ → Type 0
IsClosing bytes = (team : Name) × (heads : List Name) × (bytes ≡ message_text team (done heads))

abbrev pub AreClosings : List (List ℕ) → Type 0
AreClosings box = AllByRecursion IsClosing box

closings_more : (a b : List (List ℕ)) → AreClosings a → AreClosings b → AreClosings (a ++ b)
closings_more [] b h g = g
closings_more (x ∷ a) b h g = (h.0, closings_more a b h.1 g)

short_parts : (a b : List (List ℕ)) → AreShort (a ++ b) → AreShort a × AreShort b
short_parts [] b h = (tt, h)
short_parts (x ∷ a) b h = let more = short_parts a b h.1 in ((h.0, more.0), more.1)

head_is : (x y : List ℕ) (xs ys : List (List ℕ)) → x ∷ xs ≡ y ∷ ys → x ≡ y
head_is x y xs ys e = cc

tail_is : (x y : List ℕ) (xs ys : List (List ℕ)) → x ∷ xs ≡ y ∷ ys → xs ≡ ys
tail_is x y xs ys e = cc

none_is : (x : List ℕ) (xs : List (List ℕ)) → x ∷ xs ≡ [] → ⊥
none_is x xs e = cc

-- some first texts were given, and this is held then
pub record IsSoFar (k held : Held) (refused : ℕ) (first : List (List ℕ)) : Type 0 where
  pub results : List ItemResult
  pub given : IsGiven k (map Text first) held results
  pub counted : refused ≡ min (count is_refused results) (2 ^ 32 - 1)

-- the messages that wait give the others
pub record IsWaiting (k : Held) (whole : List (List ℕ)) (e : End) : Type 0 where
  pub first : List (List ℕ)
  pub now : List (List ℕ)
  pub rest : List (List ℕ)
  pub tail : List (List ℕ)
  pub so_far : IsSoFar k e.held e.session.refused first
  pub waits : e.session.awaits_links ≡ true
  pub all : whole ≡ first ++ (now ++ rest)
  pub few : length now ≤ most_given_links
  pub inbox : e.inbox ≡ gives k.team now rest ++ tail
  pub closings : AreClosings tail

-- all texts were given
pub record IsServed (k : Held) (whole : List (List ℕ)) (e : End) : Type 0 where
  pub so_far : IsSoFar k e.held e.session.refused whole
  pub closings : AreClosings e.inbox

-- the end of these links is given these texts
abbrev pub Gains : Held → List (List ℕ) → End → Type 0
Gains k whole e = IsWaiting k whole e ⊎ IsServed k whole e

-- further messages wait
more_wait : (k : Held) (whole : List (List ℕ)) (e : End) (sent : List (List ℕ)) → AreClosings sent → Gains k whole e → Gains k whole (record e { inbox = e.inbox ++ sent })
more_wait k whole e sent closing (inl w) =
    inl (record {
      first = w.first;
      now = w.now;
      rest = w.rest;
      tail = w.tail ++ sent;
      so_far = w.so_far;
      waits = w.waits;
      all = w.all;
      few = w.few;
      inbox = ap (λ (b : List (List ℕ)). b ++ sent) w.inbox ∙ append_assoc (gives k.team w.now w.rest) w.tail sent;
      closings = closings_more w.tail sent w.closings closing;
    })
more_wait k whole e sent closing (inr s) = inr (record { so_far = s.so_far; closings = closings_more e.inbox sent s.closings closing })

module _ (k : Held) (sound : IsSoundHeld k) where
  -- texts of a message that is taken follow
  module _ (one new : End) (first texts : List (List ℕ)) (results : List ItemResult) (so_far : IsSoFar k one.held one.session.refused first)
      (given : IsGiven one.held (map Text texts) new.held results) (counted : new.session.refused ≡ min (one.session.refused + count is_refused results) (2 ^ 32 - 1)) where
    so_far_more : IsSoFar k new.held new.session.refused (first ++ texts)
    so_far_more = record {
      results = so_far.results ++ results;
      given = subst (λ (items : List Item). IsGiven k items new.held (so_far.results ++ results)) (sym (map-append Text first texts))
          (given_join k one.held new.held (map Text first) (map Text texts) so_far.results results so_far.given given);
      counted =
          let size = count_join so_far.results results in
          let before = so_far.counted in
          omega (arith, counted, before, size);
    }

  module _ (whole : List (List ℕ)) (short : AreShort whole) (one new : End) (bytes : List ℕ) (left sent : List (List ℕ)) (box : one.inbox ≡ bytes ∷ left) (rest : new.inbox ≡ left)
      (hears : Hears one.session one.held bytes new.session new.held sent) where
    -- what an end that was given all makes of a message
    served : IsServed k whole one → Gains k whole new × AreClosings sent
    served s =
        let closing : AreClosings (bytes ∷ left) = subst AreClosings box s.closings in
        let q = hears_closing one.session new.session one.held new.held bytes sent closing.0.0 closing.0.1 closing.0.2 hears in (
          inr (record {
            so_far = subst (λ (h : Held). IsSoFar k h new.session.refused whole) (sym q.held) (subst (λ (n : ℕ). IsSoFar k one.held n whole) (sym q.refused) s.so_far);
            closings = subst AreClosings (sym rest) closing.1;
          }),
          subst AreClosings (sym q.none) tt,
        )

    module _ (w : IsWaiting k whole one) where
      texts_short : AreShort (w.now ++ w.rest)
      texts_short = (short_parts w.first (w.now ++ w.rest) (subst AreShort w.all short)).1

      made : (more : Bool) (texts : List (List ℕ)) → bytes ≡ message_text k.team (give more texts) → length texts ≤ most_given_links → AreShort texts
          → Makes one.session one.held (give more texts) new.session new.held sent
      made more texts e few are_short =
          let team = given_team k one.held (map Text w.first) w.so_far.results w.so_far.given in
          let is : IsMessage bytes one.held.team (give more texts) = record {
            team = subst IsHash (sym team) sound.team;
            content = record { few = few; short = are_short };
            is_text = e ∙ ap (λ (t : Name). message_text t (give more texts)) (sym team);
          } in
          heard one.session new.session one.held new.held bytes sent (give more texts) is w.waits hears

      last_given : IsLastGive k.team w.now w.rest → Gains k whole new × AreClosings sent
      last_given l =
          let texts = w.now ++ w.rest in
          let message = message_text k.team (give false texts) in
          let whole_box : bytes ∷ left ≡ message ∷ w.tail = sym box ∙ w.inbox ∙ ap (λ (b : List (List ℕ)). b ++ w.tail) l.gives_are in
          let m = made false texts (head_is bytes message left w.tail whole_box) l.few texts_short in (
            inr (record {
              so_far = subst (λ (ts : List (List ℕ)). IsSoFar k new.held new.session.refused ts) (sym w.all)
                  (so_far_more one new w.first texts m.0 w.so_far m.1 (ap (λ (p : Progress). p.refused) m.2));
              closings = subst AreClosings (sym (rest ∙ tail_is bytes message left w.tail whole_box)) w.closings;
            }),
            subst AreClosings (sym m.3) ((new.held.team, heads_of new.held.links, refl), tt),
          )

      first_given : IsFirstGive k.team w.now w.rest → Gains k whole new × AreClosings sent
      first_given f =
          let message = message_text k.team (give true f.texts) in
          let further = gives k.team (f.next ∷ []) f.more ++ w.tail in
          let whole_box : bytes ∷ left ≡ message ∷ further = sym box ∙ w.inbox ∙ ap (λ (b : List (List ℕ)). b ++ w.tail) f.gives_are in
          let are_short = (short_parts f.texts (f.next ∷ f.more) (subst AreShort f.all texts_short)).0 in
          let m = made true f.texts (head_is bytes message left further whole_box) f.few are_short in (
            inl (record {
              first = w.first ++ f.texts;
              now = f.next ∷ [];
              rest = f.more;
              tail = w.tail;
              so_far = so_far_more one new w.first f.texts m.0 w.so_far m.1 (ap (λ (p : Progress). p.refused) m.2);
              waits = ap (λ (p : Progress). p.awaits_links) m.2 ∙ w.waits;
              all = w.all ∙ ap (λ (ts : List (List ℕ)). w.first ++ ts) f.all ∙ sym (append_assoc w.first f.texts (f.next ∷ f.more));
              few = omega arith;
              inbox = rest ∙ tail_is bytes message left further whole_box;
              closings = w.closings;
            }),
            subst AreClosings (sym m.3) tt,
          )

      waiting : Gains k whole new × AreClosings sent
      waiting = go (gives_split k.team w.now w.rest w.few)
        where
          go : IsLastGive k.team w.now w.rest ⊎ IsFirstGive k.team w.now w.rest → Gains k whole new × AreClosings sent
          go (inl l) = last_given l
          go (inr f) = first_given f

    hears_gains : Gains k whole one → Gains k whole new × AreClosings sent
    hears_gains (inl w) = waiting w
    hears_gains (inr s) = served s

  -- a turn of the end
  turn_gains : (m : Held) (whole others : List (List ℕ)) → AreShort whole → (one two new other : End) (passed inbox : List (List ℕ)) → one.inbox ≡ inbox → IsTurnOf inbox one two new other passed
      → Gains k whole one → Gains m others two → Gains k whole new × Gains m others other
  turn_gains m whole others short one two new other passed [] e t g h = (subst (λ (x : End). Gains k whole x) (sym t.0) g, subst (λ (x : End). Gains m others x) (sym t.1) h)
  turn_gains m whole others short one two new other passed (bytes ∷ left) e t g h =
      let after = hears_gains whole short one new bytes left t.0 e t.2 t.1 g in
      (after.0, subst (λ (x : End). Gains m others x) (sym t.3) (more_wait m others two t.0 after.1 h))

  -- where no message waits, all was given
  pub all_given : (whole : List (List ℕ)) (e : End) → e.inbox ≡ [] → Gains k whole e → IsSoFar k e.held e.session.refused whole
  all_given whole e none (inr s) = s.so_far
  all_given whole e none (inl w) = go (gives_split k.team w.now w.rest w.few)
    where
      go : IsLastGive k.team w.now w.rest ⊎ IsFirstGive k.team w.now w.rest → IsSoFar k e.held e.session.refused whole
      go (inl l) = absurd (none_is (message_text k.team (give false (w.now ++ w.rest))) w.tail (sym (w.inbox ∙ ap (λ (b : List (List ℕ)). b ++ w.tail) l.gives_are) ∙ none))
      go (inr f) =
          absurd (none_is (message_text k.team (give true f.texts)) (gives k.team (f.next ∷ []) f.more ++ w.tail) (sym (w.inbox ∙ ap (λ (b : List (List ℕ)). b ++ w.tail) f.gives_are) ∙ none))

-- rounds of both
pub rounds_gain : (k m : Held) → IsSoundHeld k → IsSoundHeld m → (whole others : List (List ℕ)) → AreShort whole → AreShort others → (n : ℕ) (one two last other : End) (passed : List (List ℕ))
    → AreRounds n one two last other passed → Gains k whole one → Gains m others two
    → IsSoFar k last.held last.session.refused whole × IsSoFar m other.held other.session.refused others
rounds_gain k m hk hm whole others short less zero one two last other passed r g h =
    let first = all_given k hk whole one r.0 g in
    let second = all_given m hm others two r.1 h in
    (subst (λ (e : End). IsSoFar k e.held e.session.refused whole) (sym r.2) first, subst (λ (e : End). IsSoFar m e.held e.session.refused others) (sym r.3) second)
rounds_gain k m hk hm whole others short less (suc n) one two last other passed (some, (one2, two2, first, t, (two3, one3, second, u, (rest, more, is)))) g h =
    let a = turn_gains k hk m whole others short one two one2 two2 first one.inbox refl t g h in
    let b = turn_gains m hm k others whole less two2 one2 two3 one3 second two2.inbox refl u a.1 a.0 in
    rounds_gain k m hk hm whole others short less n one3 two3 last other rest more b.1 b.0
