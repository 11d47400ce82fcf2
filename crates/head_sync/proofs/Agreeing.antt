-- Whatever is delivered, ends that have said and heard that they are done with equal heads are in step.
use Rattle.std.proofs.Common.{◌≡◌, ◌⊎◌, inl, inr, ℕ, Bool, true, false, not, ◌&&◌, cond, List, [], ◌∷◌, ◌++◌, length, map, Option, Some, None, Result, Ok, Err, codes, refl, sym, ◌∙◌, ap, subst, append-nil, arith, is_none}
use Rattle.std.proofs.lemmas.Bool.{and_parts, false≢true, not-true}
use Rattle.tg_text.proofs.FieldLines.{spelled_once}
use Rattle.tg_text.proofs.Lists.{head_is}
use Rattle.team_sets.specs.Names.{Name, has_name}
use Rattle.team_sets.specs.Members.{IsIn}
use Rattle.team_sets.specs.Order.{names}
use Rattle.team_sets.proofs.Ancestors.{in_links}
use Rattle.team_sets.proofs.Distinct.{distinct-differ}
use Rattle.team_sets.proofs.Parts.{has_of_in, name_in}
use Rattle.team_sets.proofs.Pasts.{all_at, in_more, one_named}
use Rattle.team_model.specs.Judging.{name_of, order_of, prev_of}
use Rattle.team_model.specs.declared.terms.Link.{Link}
use Rattle.link_text.specs.LinkText.{IsValid, LinkIsSpelledOnce, Reads, text}
use Rattle.link_text.specs.TeamFile.{IsHeld}
use Rattle.link_graph.specs.Below.{is_connected}
use Rattle.link_graph.specs.Heads.{heads_of}
use Rattle.link_graph.specs.Held.{Held}
use Rattle.head_sync.specs.Agreeing.{AreDelivered, AreDone, AreInStep, EndsAgree, IsGivenOne, NamesAgree, Party, began, held_at_done, sent_with}
use Rattle.head_sync.specs.Messages.{Content, IsContent, IsMessage, MessageIsReadOnce, ask, content_text, done, give, hello, kind_word, message_text, team_line}
use Rattle.head_sync.specs.Sessions.{Answers, IsPartTaken, IsTaken, Keeps, Makes, Progress, after_hello, asked_for, asking, awaits, closing, closing_of, fits, gives, greeting_of, lacking, started}
use Rattle.head_sync.specs.declared.fault.SyncFault.{SyncFault}
use Rattle.head_sync.specs.declared.fault.SyncFault.TheVariants.{BadMessage, Memory, OtherTeam, OutOfTurn}
use Rattle.head_sync.proofs.Covered.{covered, head_from, head_in}
use Rattle.head_sync.proofs.HeldSets.{IsSoundHeld, heads_are_names, held_given}
use Rattle.head_sync.proofs.ReadOnce.{kind_lacks, message_once}
use Rattle.head_sync.proofs.Shared.{shared_under}

-- which message is one of an end that is done
abbrev pub IsDone : Content → Type 0
IsDone (hello heads) = ⊥
IsDone (ask names marks) = ⊥
IsDone (give more texts) = ⊥
IsDone (done heads) = Unit {0}

pub done_kind : (c : Content) → kind_word c ≡ codes "done" → IsDone c
done_kind (hello heads) k = let h : 104 ≡ 100 = head_is _ _ _ _ k in omega (arith, h)
done_kind (ask names marks) k = let h : 97 ≡ 100 = head_is _ _ _ _ k in omega (arith, h)
done_kind (give more texts) k = let h : 103 ≡ 100 = head_is _ _ _ _ k in omega (arith, h)
done_kind (done heads) k = tt

pub same_kind : (team other : Name) (c d : Content) → message_text team c ≡ message_text other d → kind_word c ≡ kind_word d
same_kind team other c d e =
    (spelled_once (codes "team-sync 1") (kind_word c) (kind_word d) (team_line team ++ content_text c) (team_line other ++ content_text d) (kind_lacks c) (kind_lacks d) e).0

-- the bytes are no message of an end that is done
abbrev pub IsOther : List ℕ → Type 0
IsOther bytes = (t : Name) (h : List Name) → IsMessage bytes t (done h) → ⊥

other_kind : (team : Name) (c : Content) → (IsDone c → ⊥) → IsOther (message_text team c)
other_kind team c other t h is = other (done_kind c (same_kind team t c (done h) is.is_text))

pub gives_kind : (team : Name) (now ts : List (List ℕ)) (bytes : List ℕ) → IsIn bytes (gives team now ts) → (more : Bool) × (texts : List (List ℕ)) × (message_text team (give more texts) ≡ bytes)
gives_kind team now [] bytes (inl e) = (false, now, e)
gives_kind team now [] bytes (inr k) = absurd k
gives_kind team now (t ∷ ts) bytes k = go (fits now t) k (gives_kind team (now ++ t ∷ []) ts bytes) (gives_kind team (t ∷ []) ts bytes)
  where
    go : (b : Bool) → IsIn bytes (cond b (gives team (now ++ t ∷ []) ts) (message_text team (give true now) ∷ gives team (t ∷ []) ts))
        → (IsIn bytes (gives team (now ++ t ∷ []) ts) → (more : Bool) × (texts : List (List ℕ)) × (message_text team (give more texts) ≡ bytes))
        → (IsIn bytes (gives team (t ∷ []) ts) → (more : Bool) × (texts : List (List ℕ)) × (message_text team (give more texts) ≡ bytes))
        → (more : Bool) × (texts : List (List ℕ)) × (message_text team (give more texts) ≡ bytes)
    go true j on next = on j
    go false (inl e) on next = (true, now, e)
    go false (inr j) on next = next j

same_done : (a b : List Name) → done a ≡ done b → a ≡ b
same_done a b e = let h : ◌≡◌ {A = Content} (done a) (done b) = e in cc

-- the message of a held set that is done says its heads
closing_says : (k : Held) → IsSoundHeld k → (t : Name) (h : List Name) → IsMessage (closing_of k) t (done h) → heads_of k.links ≡ h
closing_says k held t h is =
    let own : IsMessage (closing_of k) k.team (done (heads_of k.links)) = record { team = held.team; content = heads_are_names k held; is_text = refl } in
    same_done (heads_of k.links) h (message_once (closing_of k) k.team t (done (heads_of k.links)) (done h) own is).1

some_none : {A : Type 0} (x : A) (o : Option A) → o ≡ None → o ≡ Some x → ⊥
some_none x o e f = let h : ◌≡◌ {A = Option _} None (Some x) = sym e ∙ f in cc

some_some : {A : Type 0} (x y : A) → Some x ≡ Some y → x ≡ y
some_some x y e = let h : ◌≡◌ {A = Option _} (Some x) (Some y) = e in cc

-- what was held when an end said that it was done has the heads that it said
abbrev pub Marks : Option (List Name) → Option Held → Type 0
Marks None at = Unit {0}
Marks (Some heads) at = (m : Held) × (at ≡ Some m) × IsSoundHeld m × (heads ≡ heads_of m.links)

-- what is so of an end at each moment
pub record IsSound (p : Party) : Type 0 where
  pub held : IsSoundHeld p.held
  pub calm : p.session.greeted ≡ false → p.session.awaits_links ≡ false
  pub once : (p.session.ends.sent ≡ None) ⊎ ((p.session.greeted ≡ true) × (p.session.awaits_links ≡ false))
  pub said : (bytes : List ℕ) (t : Name) (h : List Name) → IsIn bytes p.sent → IsMessage bytes t (done h) → p.session.ends.sent ≡ Some h
  pub marks : Marks p.session.ends.sent p.at_done

-- what a delivery makes of an end
pub record Goes (other old new : Party) (message : List ℕ) : Type 0 where
  pub sound : IsSound new
  pub stays : (h : List Name) → old.session.ends.sent ≡ Some h → new.session.ends.sent ≡ Some h
  pub heard : (h : List Name) → new.session.ends.heard ≡ Some h → (old.session.ends.heard ≡ Some h) ⊎ ((t : Name) × IsMessage message t (done h))

module _ (once : LinkIsSpelledOnce) (other old new : Party) (message : List ℕ) (sound : IsSound old) where
  -- where nothing was said, the marks are those of before
  same_marks : new.session.ends.sent ≡ old.session.ends.sent → new.at_done ≡ held_at_done old.session.ends.sent new.session.ends.sent old.at_done new.held
      → Marks new.session.ends.sent new.at_done
  same_marks e m = subst (λ (s : Option (List Name)). Marks s new.at_done) (sym e) (subst (λ (a : Option Held). Marks old.session.ends.sent a) (sym at) sound.marks)
    where
      before : (s : Option (List Name)) → held_at_done s s old.at_done new.held ≡ old.at_done
      before None = refl
      before (Some h) = refl

      at : new.at_done ≡ old.at_done
      at = m ∙ ap (λ (s : Option (List Name)). held_at_done old.session.ends.sent s old.at_done new.held) e ∙ before old.session.ends.sent

  -- an end that doesn't say now that it is done
  quiet : IsSoundHeld new.held → (new.session.greeted ≡ false → new.session.awaits_links ≡ false)
      → ((new.session.ends.sent ≡ None) ⊎ ((new.session.greeted ≡ true) × (new.session.awaits_links ≡ false))) → new.session.ends.sent ≡ old.session.ends.sent
      → (sent : List (List ℕ)) → new.sent ≡ old.sent ++ sent → ((bytes : List ℕ) → IsIn bytes sent → IsOther bytes)
      → new.at_done ≡ held_at_done old.session.ends.sent new.session.ends.sent old.at_done new.held → new.session.ends.heard ≡ old.session.ends.heard → Goes other old new message
  quiet held calm first e sent sends none m heard = record {
    sound = record {
      held = held;
      calm = calm;
      once = first;
      said = λ bytes t h k is. e ∙ go bytes t h (in_either old.sent sent bytes (subst (λ (s : List (List ℕ)). IsIn bytes s) sends k)) is;
      marks = same_marks e m;
    };
    stays = λ h was. e ∙ was;
    heard = λ h is. inl (sym heard ∙ is);
  }
    where
      in_either : (xs ys : List (List ℕ)) (z : List ℕ) → IsIn z (xs ++ ys) → IsIn z xs ⊎ IsIn z ys
      in_either [] ys z k = inr k
      in_either (x ∷ xs) ys z (inl f) = inl (inl f)
      in_either (x ∷ xs) ys z (inr k) = later (in_either xs ys z k)
        where
          later : IsIn z xs ⊎ IsIn z ys → IsIn z (x ∷ xs) ⊎ IsIn z ys
          later (inl j) = inl (inr j)
          later (inr j) = inr j

      go : (bytes : List ℕ) (t : Name) (h : List Name) → IsIn bytes old.sent ⊎ IsIn bytes sent → IsMessage bytes t (done h) → old.session.ends.sent ≡ Some h
      go bytes t h (inl j) is = sound.said bytes t h j is
      go bytes t h (inr j) is = absurd (none bytes j t h is)

  -- an end that says so now, for the first time
  closes : IsSoundHeld new.held → new.session.greeted ≡ true → new.session.awaits_links ≡ false → old.session.ends.sent ≡ None → new.session.ends.sent ≡ Some (heads_of new.held.links)
      → new.sent ≡ old.sent ++ closing_of new.held ∷ [] → new.at_done ≡ held_at_done old.session.ends.sent new.session.ends.sent old.at_done new.held
      → new.session.ends.heard ≡ old.session.ends.heard → Goes other old new message
  closes held greeted calm none says sends m heard = record {
    sound = record {
      held = held;
      calm = λ g. calm;
      once = inr (greeted, calm);
      said = λ bytes t h k is. go bytes t h (in_more old.sent (closing_of new.held) bytes (subst (λ (s : List (List ℕ)). IsIn bytes s) sends k)) is;
      marks = subst (λ (s : Option (List Name)). Marks s new.at_done) (sym says) (new.held, at, held, refl);
    };
    stays = λ h was. absurd (some_none h old.session.ends.sent none was);
    heard = λ h is. inl (sym heard ∙ is);
  }
    where
      at : new.at_done ≡ Some new.held
      at = m ∙ ap (λ (s : Option (List Name)). held_at_done s new.session.ends.sent old.at_done new.held) none
          ∙ ap (λ (s : Option (List Name)). held_at_done None s old.at_done new.held) says

      go : (bytes : List ℕ) (t : Name) (h : List Name) → IsIn bytes old.sent ⊎ (closing_of new.held ≡ bytes) → IsMessage bytes t (done h) → new.session.ends.sent ≡ Some h
      go bytes t h (inl j) is = absurd (some_none h old.session.ends.sent none (sound.said bytes t h j is))
      go bytes t h (inr e) is = says ∙ ap Some (closing_says new.held held t h (subst (λ (b : List ℕ). IsMessage b t (done h)) (sym e) is))

  -- an end that wasn't greeted, or that awaits links, has said nothing yet
  unsaid_ungreeted : old.session.greeted ≡ false → old.session.ends.sent ≡ None
  unsaid_ungreeted g = go sound.once
    where
      go : (old.session.ends.sent ≡ None) ⊎ ((old.session.greeted ≡ true) × (old.session.awaits_links ≡ false)) → old.session.ends.sent ≡ None
      go (inl e) = e
      go (inr p) = absurd (false≢true (sym g ∙ p.0))

  unsaid_awaiting : old.session.awaits_links ≡ true → old.session.ends.sent ≡ None
  unsaid_awaiting a = go sound.once
    where
      go : (old.session.ends.sent ≡ None) ⊎ ((old.session.greeted ≡ true) × (old.session.awaits_links ≡ false)) → old.session.ends.sent ≡ None
      go (inl e) = e
      go (inr p) = absurd (false≢true (sym p.1 ∙ a))

  greeted_awaiting : old.session.awaits_links ≡ true → old.session.greeted ≡ true
  greeted_awaiting a = go old.session.greeted refl
    where
      go : (b : Bool) → old.session.greeted ≡ b → b ≡ true
      go true e = refl
      go false e = absurd (false≢true (sym (sound.calm e) ∙ a))

  module _ (marked : new.at_done ≡ held_at_done old.session.ends.sent new.session.ends.sent old.at_done new.held) where
    -- a fault leaves the session
    failed : (kept : IsSoundHeld new.held) → new.session ≡ old.session → new.sent ≡ old.sent ++ [] → Goes other old new message
    failed kept e sends =
        quiet kept (λ g. ap (λ (s : Progress). s.awaits_links) e ∙ sound.calm (sym (ap (λ (s : Progress). s.greeted) e) ∙ g))
        (subst (λ (s : Progress). (s.ends.sent ≡ None) ⊎ ((s.greeted ≡ true) × (s.awaits_links ≡ false))) (sym e) sound.once) (ap (λ (s : Progress). s.ends.sent) e)
        [] sends (λ bytes k. absurd k) marked (ap (λ (s : Progress). s.ends.heard) e)

    module _ (sent : List (List ℕ)) (sends : new.sent ≡ old.sent ++ sent) where
      took : (c : Content) → IsMessage message old.held.team c → awaits old.session c ≡ true → Makes old.session old.held c new.session new.held sent → Goes other old new message
      took (hello heads) is turn made = go (lacking old.held heads) made.1 made.2
        where
          ungreeted : old.session.greeted ≡ false
          ungreeted = not-true old.session.greeted turn

          held : IsSoundHeld new.held
          held = subst IsSoundHeld (sym made.0) sound.held

          go : (l : List Name) → new.session ≡ after_hello old.session old.held l → sent ≡ asking old.held l → Goes other old new message
          go [] e s =
              closes held (ap (λ (p : Progress). p.greeted) e) (ap (λ (p : Progress). p.awaits_links) e ∙ sound.calm ungreeted) (unsaid_ungreeted ungreeted)
              (ap (λ (p : Progress). p.ends.sent) e ∙ ap (λ (k : Held). Some (heads_of k.links)) (sym made.0))
              (sends ∙ ap (λ (x : List (List ℕ)). old.sent ++ x) (s ∙ ap (λ (k : Held). closing_of k ∷ []) (sym made.0)))
              marked (ap (λ (p : Progress). p.ends.heard) e)
          go (n ∷ ns) e s =
              quiet held (λ g. absurd (false≢true (sym g ∙ ap (λ (p : Progress). p.greeted) e)))
              (inl (ap (λ (p : Progress). p.ends.sent) e ∙ unsaid_ungreeted ungreeted))
              (ap (λ (p : Progress). p.ends.sent) e) sent sends
              (λ bytes k. one bytes (subst (λ (x : List (List ℕ)). IsIn bytes x) s k)) marked (ap (λ (p : Progress). p.ends.heard) e)
            where
              one : (bytes : List ℕ) → IsIn bytes (asking old.held (n ∷ ns)) → IsOther bytes
              one bytes (inl f) = subst IsOther f (other_kind old.held.team (ask (n ∷ ns) (heads_of old.held.links)) (λ d. d))
              one bytes (inr k) = absurd k
      took (ask ns ms) is turn made =
          quiet (subst IsSoundHeld (sym made.0) sound.held) (λ g. ap (λ (p : Progress). p.awaits_links) made.1 ∙ sound.calm (sym (ap (λ (p : Progress). p.greeted) made.1) ∙ g))
          (subst (λ (p : Progress). (p.ends.sent ≡ None) ⊎ ((p.greeted ≡ true) × (p.awaits_links ≡ false))) (sym made.1) sound.once) (ap (λ (p : Progress). p.ends.sent) made.1) sent sends
          (λ bytes k.
          let g = gives_kind old.held.team [] (asked_for old.held ns ms) bytes (subst (λ (x : List (List ℕ)). IsIn bytes x) made.2 k) in
          subst IsOther g.2 (other_kind old.held.team (give g.0 g.1) (λ d. d)))
          marked (ap (λ (p : Progress). p.ends.heard) made.1)
      took (give true texts) is turn made =
          let e = made.2 in
          quiet (held_given once old.held new.held _ made.0 sound.held made.1)
          (λ g. absurd (false≢true (sym g ∙ ap (λ (p : Progress). p.greeted) e ∙ greeted_awaiting turn)))
          (inl (ap (λ (p : Progress). p.ends.sent) e ∙ unsaid_awaiting turn)) (ap (λ (p : Progress). p.ends.sent) e) sent sends
          (λ bytes k. absurd (subst (λ (x : List (List ℕ)). IsIn bytes x) made.3 k)) marked (ap (λ (p : Progress). p.ends.heard) e)
      took (give false texts) is turn made =
          let e = made.2 in
          closes (held_given once old.held new.held _ made.0 sound.held made.1) (ap (λ (p : Progress). p.greeted) e ∙ greeted_awaiting turn) (ap (λ (p : Progress). p.awaits_links) e)
          (unsaid_awaiting turn) (ap (λ (p : Progress). p.ends.sent) e) (sends ∙ ap (λ (x : List (List ℕ)). old.sent ++ x) made.3) marked (ap (λ (p : Progress). p.ends.heard) e)
      took (done heads) is turn made =
          let e = made.1 in
          finish e
        where
          finish : new.session ≡ record old.session { ends = record old.session.ends { heard = Some heads } } → Goes other old new message
          finish e = record {
            sound = record {
              held = subst IsSoundHeld (sym made.0) sound.held;
              calm = λ g. ap (λ (p : Progress). p.awaits_links) e ∙ sound.calm (sym (ap (λ (p : Progress). p.greeted) e) ∙ g);
              once = subst (λ (p : Progress). (p.ends.sent ≡ None) ⊎ ((p.greeted ≡ true) × (p.awaits_links ≡ false))) (sym e) sound.once;
              said = λ bytes t h k is. ap (λ (p : Progress). p.ends.sent) e ∙ sound.said bytes t h (subst (λ (x : List (List ℕ)). IsIn bytes x) (sends ∙ ap (λ (x : List (List ℕ)). old.sent ++ x) made.2 ∙ append-nil old.sent) k) is;
              marks = same_marks (ap (λ (p : Progress). p.ends.sent) e) marked;
            };
            stays = λ h was. ap (λ (p : Progress). p.ends.sent) e ∙ was;
            heard = λ h is2. inr (old.held.team, subst (λ (x : List Name). IsMessage message old.held.team (done x)) (some_some heads h (sym (ap (λ (p : Progress). p.ends.heard) e) ∙ is2)) is);
          }

    part_held : (message : List ℕ) → IsPartTaken old.held message new.held → IsSoundHeld new.held
    part_held message (inl same) = subst IsSoundHeld (sym same) sound.held
    part_held message (inr part) = held_given once old.held new.held part.3.first part.3.results sound.held part.3.given

    kept_held : (message : List ℕ) (f : SyncFault) → Keeps old.held message new.held (Err f) → IsSoundHeld new.held
    kept_held message Memory keeps = part_held message keeps
    kept_held message BadMessage keeps = subst IsSoundHeld (sym keeps) sound.held
    kept_held message OtherTeam keeps = subst IsSoundHeld (sym keeps) sound.held
    kept_held message OutOfTurn keeps = subst IsSoundHeld (sym keeps) sound.held

    goes : (result : Result (List (List ℕ)) SyncFault) → Answers old.session old.held message new.session new.held result → new.sent ≡ old.sent ++ sent_with result → Goes other old new message
    goes (Ok sent) answers sends = took sent sends answers.taken.content answers.taken.message answers.taken.awaited answers.taken.makes
    goes (Err f) answers sends = failed (kept_held message f answers.keeps) answers.stays sends

pub step : LinkIsSpelledOnce → (other old new : Party) → IsSound old → (g : IsGivenOne other old new) → Goes other old new g.message
step once other old new sound g = goes once other old new g.message sound g.marks g.result g.answers g.sends

-- what the end has heard, the other has said
abbrev pub HearsOf : Party → Party → Type 0
HearsOf p q = (h : List Name) → p.session.ends.heard ≡ Some h → q.session.ends.sent ≡ Some h

-- what is so of both ends at each moment
pub record AreSound (p q : Party) : Type 0 where
  pub first : IsSound p
  pub second : IsSound q
  pub hears : HearsOf p q
  pub heard : HearsOf q p

module _ (once : LinkIsSpelledOnce) where
  -- a delivery to p of a message of q
  delivered : (p q new : Party) → AreSound p q → (g : IsGivenOne q p new) → AreSound new q
  delivered p q new both g =
      let s = step once q p new both.first g in
      record {
        first = s.sound;
        second = both.second;
        hears = λ h is. go h (s.heard h is);
        heard = λ h is. s.stays h (both.heard h is);
      }
    where
      go : (h : List Name) → (p.session.ends.heard ≡ Some h) ⊎ ((t : Name) × IsMessage g.message t (done h)) → q.session.ends.sent ≡ Some h
      go h (inl was) = both.hears h was
      go h (inr said) = both.second.said g.message said.0 h g.was_sent said.1

  flipped : (p q : Party) → AreSound p q → AreSound q p
  flipped p q both = record { first = both.second; second = both.first; hears = both.heard; heard = both.hears }

  pub all_delivered : (ds : List Bool) (p q last other : Party) → AreSound p q → AreDelivered ds p q last other → AreSound last other
  all_delivered [] p q last other both d = subst (λ (x : Party). AreSound x other) (sym d.0) (subst (λ (x : Party). AreSound p x) (sym d.1) both)
  all_delivered (true ∷ ds) p q last other both d = all_delivered ds d.0 q last other (delivered p q d.0 both d.1) d.2
  all_delivered (false ∷ ds) p q last other both d = all_delivered ds p d.0 last other (flipped d.0 p (delivered q p d.0 (flipped p q both) d.1)) d.2

  begins_sound : (k : Held) → IsSoundHeld k → IsSound (began k)
  begins_sound k held = record {
    held = held;
    calm = λ g. refl;
    once = inl refl;
    said = λ bytes t h j is. absurd (one bytes j t h is);
    marks = tt;
  }
    where
      one : (bytes : List ℕ) → IsIn bytes (greeting_of k ∷ []) → IsOther bytes
      one bytes (inl f) = subst IsOther f (other_kind k.team (hello (heads_of k.links)) (λ d. d))
      one bytes (inr j) = absurd j

  -- links of one name in two held sets are one, where their texts are
  pub same_links : (a b : Held) → IsSoundHeld a → IsSoundHeld b → NamesAgree a b → (l m : Link) → IsIn l a.links → IsIn m b.links → l.name ≡ m.name → l ≡ m
  same_links a b ha hb agree l m j k e =
      let v = all_at (λ x. IsValid a.team (text x) x) a.links ha.valid l j in
      let w = all_at (λ x. IsValid b.team (text x) x) b.links hb.valid m k in
      once (text l) l m v.reads (subst (λ (t : List ℕ). Reads t m) (sym (agree l m j k e)) w.reads)

  -- where each head of b is connected in a, so is all that is connected in b
  within : (a b : Held) → IsSoundHeld a → IsSoundHeld b → ((l m : Link) → IsIn l a.links → IsIn m b.links → l.name ≡ m.name → l ≡ m)
      → ((n : Name) → IsIn n (heads_of b.links) → is_connected a.links n ≡ true) → (n : Name) → is_connected b.links n ≡ true → is_connected a.links n ≡ true
  within a b ha hb same heads n c =
      let ours = distinct-differ name_of a.links ha.set in
      let theirs = distinct-differ name_of b.links hb.set in
      let x = one_named name_of (order_of b.links) n c in
      let head = covered b.links theirs x.0 x.1 in
      subst (λ (m : Name). is_connected a.links m ≡ true) x.2
      (shared_under a.links b.links ours theirs (λ l m j k. same l m j (in_links name_of prev_of b.links theirs m k)) head.0 x.0 head.1 (heads head.0.name (head_from b.links theirs head.0 head.1 head.2)) head.3)

  heads_within : (a b : Held) → IsSoundHeld a → heads_of a.links ≡ heads_of b.links → (n : Name) → IsIn n (heads_of b.links) → is_connected a.links n ≡ true
  heads_within a b ha e n k =
      has_of_in name_of prev_of (names name_of (order_of a.links)) n
      (head_in a.links (distinct-differ name_of a.links ha.set) n (subst (λ (hs : List Name). IsIn n hs) (sym e) k))

  -- held sets with the same heads are in step
  pub in_step : (a b : Held) → IsSoundHeld a → IsSoundHeld b → heads_of a.links ≡ heads_of b.links → NamesAgree a b → AreInStep a b
  in_step a b ha hb e agree n = go (is_connected a.links n) refl (is_connected b.links n) refl
    where
      same : (l m : Link) → IsIn l a.links → IsIn m b.links → l.name ≡ m.name → l ≡ m
      same = same_links a b ha hb agree

      go : (x : Bool) → is_connected a.links n ≡ x → (y : Bool) → is_connected b.links n ≡ y → is_connected a.links n ≡ is_connected b.links n
      go true f true g = f ∙ sym g
      go false f false g = f ∙ sym g
      go true f false g = absurd (false≢true (sym g ∙ within b a hb ha (λ m l k j s. sym (same l m j k (sym s))) (heads_within b a hb (sym e)) n f))
      go false f true g = absurd (false≢true (sym f ∙ within a b ha hb same (heads_within a b ha e) n g))

  pub ends_agree : EndsAgree
  ends_agree k m deliveries one two heads hk hm d said heard =
      let begun : AreSound (began k) (began m) = record {
        first = begins_sound k hk;
        second = begins_sound m hm;
        hears = λ h is. absurd (some_none h None refl is);
        heard = λ h is. absurd (some_none h None refl is);
      } in
      let both = all_delivered deliveries (began k) (began m) one two begun d in
      let first : Marks (Some heads) one.at_done = subst (λ (s : Option (List Name)). Marks s one.at_done) said both.first.marks in
      let second : Marks (Some heads) two.at_done = subst (λ (s : Option (List Name)). Marks s two.at_done) (both.hears heads heard) both.second.marks in
      record {
        first = first.0;
        second = second.0;
        first_held = first.1;
        second_held = second.1;
        in_step = in_step first.0 second.0 first.2 second.2 (sym first.3 ∙ second.3);
      }
