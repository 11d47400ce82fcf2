-- One thing alone becomes of a text, of an item and of a list of items that are given to a held set.
use Rattle.std.proofs.Common.{◌≡◌, ◌≢◌, ◌≤◌, ◌<◌, ◌⊎◌, inl, inr, true, ℕ, zero, suc, List, [], ◌∷◌, ◌++◌, length, refl, sym, ◌∙◌, ap, subst, arith}
use Rattle.std.proofs.lemmas.Bool.{cases_order, false≢true}
use Rattle.tg_text.specs.Limits.{most_link_bytes}
use Rattle.team_sets.specs.Names.{Name, has_name}
use Rattle.team_sets.specs.Members.{IsIn}
use Rattle.team_sets.specs.Order.{names}
use Rattle.team_sets.proofs.Parts.{name_in}
use Rattle.team_sets.proofs.Pasts.{all_at}
use Rattle.team_model.specs.Judging.{name_of, prev_of}
use Rattle.team_model.specs.declared.terms.Link.{Link}
use Rattle.link_text.specs.Faults.{IsBadText, IsOfOther, IsUnverified}
use Rattle.link_text.specs.LinkText.{IsOfTeam, IsValid, LinkIsSpelledOnce, Reads, proves, text}
use Rattle.link_text.specs.TeamFile.{IsHeld}
use Rattle.link_graph.specs.Held.{Held, answer_of}
use Rattle.link_graph.specs.Taking.{Clashes, HasSpace, HasText, IsFresh, IsFull, Takes}
use Rattle.link_graph.specs.declared.took.Took.{Took}
use Rattle.link_graph.specs.declared.took.Took.TheVariants as took
use Rattle.team_files.specs.declared.item.Item.{Item}
use Rattle.team_files.specs.declared.item.Item.TheVariants.{Header, Text, Cut, BadFrame, Long}
use Rattle.link_intake.specs.declared.item_result.ItemResult.{ItemResult}
use Rattle.link_intake.specs.declared.item_result.ItemResult.TheVariants as became
use Rattle.link_intake.specs.declared.item_result.Refusal.TheVariants as why
use Rattle.link_intake.specs.Giving.{Becomes, IsGiven, TextBecomes}
use Rattle.link_intake.proofs.Unions.{held_after}

-- the tests of a text, in the order in which they are made, and what became of it at the first that it doesn't pass
module _ (once : LinkIsSpelledOnce) (old : Held) (held : IsHeld old.team old.links) (bytes : List ℕ) where
  one_link : (l k : Link) → Reads bytes l → Reads bytes k → l ≡ k
  one_link l k reads other = once bytes l k reads other

  abbrev Passes : ℕ → Type 0
  Passes zero = ¬ (HasText old.links bytes)
  Passes (suc zero) = ¬ (most_link_bytes < length bytes)
  Passes (suc (suc zero)) = (l : Link) × Reads bytes l
  Passes (suc (suc (suc zero))) = (l : Link) × Reads bytes l × IsOfTeam old.team l
  Passes (suc (suc (suc (suc zero)))) = (l : Link) × IsValid old.team bytes l
  Passes (suc (suc (suc (suc (suc zero))))) = (l : Link) × IsValid old.team bytes l × IsFresh old.links l
  Passes (suc (suc (suc (suc (suc (suc n)))))) = (l : Link) × IsValid old.team bytes l × IsFresh old.links l × HasSpace old.team old.links l

  abbrev Stops : ℕ → Type 0
  Stops zero = HasText old.links bytes
  Stops (suc zero) = most_link_bytes < length bytes
  Stops (suc (suc zero)) = IsBadText bytes
  Stops (suc (suc (suc zero))) = IsOfOther old.team bytes
  Stops (suc (suc (suc (suc zero)))) = IsUnverified old.team bytes
  Stops (suc (suc (suc (suc (suc zero))))) = (n : Name) × Clashes old bytes n
  Stops (suc (suc (suc (suc (suc (suc zero)))))) = (count : ℕ) × (size : ℕ) × IsFull old bytes count size
  Stops (suc (suc (suc (suc (suc (suc (suc n))))))) = Unit {0}

  refuted : (n : ℕ) → n < 7 → Passes n → Stops n → ⊥
  refuted zero lt p s = p s
  refuted (suc zero) lt p s = p s
  refuted (suc (suc zero)) lt p s = s.no_link p.0 p.1
  refuted (suc (suc (suc zero))) lt p s = s.other (subst (λ (l : Link). IsOfTeam old.team l) (one_link p.0 s.link p.1 s.reads) p.2)
  refuted (suc (suc (suc (suc zero)))) lt p s = false≢true (sym s.unproved ∙ ap (λ (l : Link). proves l) (one_link s.link p.0 s.reads p.1.reads) ∙ p.1.proved)
  refuted (suc (suc (suc (suc (suc zero))))) lt p s =
      let c = s.1 in
      false≢true (sym p.2 ∙ ap (λ (l : Link). has_name (names name_of old.links) l.name) (one_link p.0 c.link p.1.reads c.valid.reads) ∙ c.taken)
  refuted (suc (suc (suc (suc (suc (suc zero)))))) lt p s =
      let f = s.2 in
      f.space (subst (λ (l : Link). HasSpace old.team old.links l) (one_link p.0 f.link p.1.reads f.valid.reads) p.3)
  refuted (suc (suc (suc (suc (suc (suc (suc n))))))) lt p s = omega (arith, lt)

  abbrev of_stage : ℕ → Took → Name → ItemResult
  of_stage zero t n = became.Again
  of_stage (suc zero) t n = became.Refused why.TooLong
  of_stage (suc (suc zero)) t n = became.Refused why.BadText
  of_stage (suc (suc (suc zero))) t n = became.Refused why.OtherTeam
  of_stage (suc (suc (suc (suc zero)))) t n = became.Refused why.BadSignature
  of_stage (suc (suc (suc (suc (suc zero))))) t n = became.Refused (why.NameClash n)
  of_stage (suc (suc (suc (suc (suc (suc zero)))))) t n = became.Refused why.Full
  of_stage (suc (suc (suc (suc (suc (suc (suc m))))))) (took.New positions) n = became.New (length positions)
  of_stage (suc (suc (suc (suc (suc (suc (suc m))))))) took.Waiting n = became.Waiting
  of_stage (suc (suc (suc (suc (suc (suc (suc m))))))) took.Again n = became.Again

  -- the text passes so many tests and not the next, and this became of it
  record IsPlaced (stage : ℕ) (new : Held) (f : ItemResult) : Type 0 where
    passes : (n : ℕ) → n < stage → Passes n
    stops : Stops stage
    few : stage ≤ 7
    answer : Took
    name : Name
    is : f ≡ of_stage stage answer name
    taken : stage ≡ 7 → Takes old new bytes answer
    named : stage ≡ 5 → (l : Link) × IsValid old.team bytes l × (name ≡ l.name)
    kept : stage < 7 → new ≡ old

  valid_held : (has : HasText old.links bytes) → IsValid old.team bytes has.0
  valid_held has = subst (λ (b : List ℕ). IsValid old.team b has.0) has.2 (all_at (λ k. IsValid old.team (text k) k) old.links held.valid has.0 has.1)

  -- a text whose link isn't valid isn't held, nor one whose link is new
  unheld_other : (l : Link) → Reads bytes l → ¬ (IsOfTeam old.team l × (proves l ≡ true)) → ¬ (HasText old.links bytes)
  unheld_other l reads none has =
      let v = valid_held has in
      none (subst (λ (k : Link). IsOfTeam old.team k × (proves k ≡ true)) (one_link has.0 l v.reads reads) (v.of_team, v.proved))

  unheld_fresh : (l : Link) → Reads bytes l → IsFresh old.links l → ¬ (HasText old.links bytes)
  unheld_fresh l reads fresh has =
      let v = valid_held has in
      false≢true (sym fresh ∙ ap (λ (k : Link). has_name (names name_of old.links) k.name) (sym (one_link has.0 l v.reads reads))
      ∙ name_in name_of prev_of old.links has.0 has.1 has.0.name refl)

  short : (l : Link) → Reads bytes l → ¬ (most_link_bytes < length bytes)
  short l reads long =
      let fits = reads.well_formed.fits in
      let same = ap (λ (t : List ℕ). length t) reads.is_text in
      omega (arith, long, fits, same)

  -- what the text of a link passes, by what is known of the link
  passed : (l : Link) → Reads bytes l → ¬ (HasText old.links bytes) → (stage : ℕ) → (3 < stage → IsOfTeam old.team l) → (4 < stage → IsValid old.team bytes l)
      → (5 < stage → IsFresh old.links l) → (6 < stage → HasSpace old.team old.links l) → (n : ℕ) → n < stage → Passes n
  passed l reads unheld stage of valid fresh space zero lt = unheld
  passed l reads unheld stage of valid fresh space (suc zero) lt = short l reads
  passed l reads unheld stage of valid fresh space (suc (suc zero)) lt = (l, reads)
  passed l reads unheld stage of valid fresh space (suc (suc (suc zero))) lt = (l, reads, of (omega (arith, lt)))
  passed l reads unheld stage of valid fresh space (suc (suc (suc (suc zero)))) lt = (l, valid (omega (arith, lt)))
  passed l reads unheld stage of valid fresh space (suc (suc (suc (suc (suc zero))))) lt = (l, valid (omega (arith, lt)), fresh (omega (arith, lt)))
  passed l reads unheld stage of valid fresh space (suc (suc (suc (suc (suc (suc n)))))) lt = (l, valid (omega (arith, lt)), fresh (omega (arith, lt)), space (omega (arith, lt)))

  took_placed : (new : Held) (answer : Took) → Takes old new bytes answer → IsPlaced 7 new (of_stage 7 answer [])
  took_placed new answer t = record {
    passes = passed t.link t.valid.reads (unheld_fresh t.link t.valid.reads t.fresh) 7 (λ h. t.valid.of_team) (λ h. t.valid) (λ h. t.fresh) (λ h. t.space);
    stops = tt;
    few = omega arith;
    answer = answer;
    name = [];
    is = refl;
    taken = λ e. t;
    named = λ e. absurd (omega (arith, e));
    kept = λ lt. absurd (omega (arith, lt));
  }

  -- what was found at a stage before the last, where no name is told
  stopped : (stage : ℕ) (new : Held) → ((n : ℕ) → n < stage → Passes n) → Stops stage → stage < 7 → stage ≢ 5 → new ≡ old → IsPlaced stage new (of_stage stage took.Again [])
  stopped stage new passes stops few unnamed same = record {
    passes = passes;
    stops = stops;
    few = omega (arith, few);
    answer = took.Again;
    name = [];
    is = refl;
    taken = λ e. absurd (omega (arith, e, few));
    named = λ e. absurd (unnamed e);
    kept = λ lt. same;
  }

  text_placed : (new : Held) (f : ItemResult) → TextBecomes old new bytes f → (stage : ℕ) × IsPlaced stage new f
  text_placed new became.Header h = absurd h
  text_placed new (became.New connected) h =
      (7, subst (λ (n : ℕ). IsPlaced 7 new (became.New n)) (sym h.2) (took_placed new (took.New h.0) h.1))
  text_placed new became.Waiting h = (7, took_placed new took.Waiting h)
  text_placed new became.Again h = (0, stopped 0 new (λ n lt. absurd (omega (arith, lt))) h.0 (omega arith) (λ e. omega (arith, e)) h.1)
  text_placed new (became.Refused why.TooLong) h = (1, stopped 1 new below h.0 (omega arith) (λ e. omega (arith, e)) h.1)
    where
      below : (n : ℕ) → n < 1 → Passes n
      below zero lt = λ has. short has.0 (valid_held has).reads h.0
      below (suc n) lt = absurd (omega (arith, lt))
  text_placed new (became.Refused why.BadText) h = (2, stopped 2 new below h.0 (omega arith) (λ e. omega (arith, e)) h.1)
    where
      below : (n : ℕ) → n < 2 → Passes n
      below zero lt = λ has. h.0.no_link has.0 (valid_held has).reads
      below (suc zero) lt = λ long. let fits = h.0.short in omega (arith, long, fits)
      below (suc (suc n)) lt = absurd (omega (arith, lt))
  text_placed new (became.Refused why.OtherTeam) h =
      let o = h.0 in (
        3,
        stopped 3 new
            (passed o.link o.reads (unheld_other o.link o.reads (λ k. o.other k.0)) 3 (λ lt. absurd (omega (arith, lt))) (λ lt. absurd (omega (arith, lt))) (λ lt. absurd (omega (arith, lt)))
            (λ lt. absurd (omega (arith, lt))))
            o (omega arith) (λ e. omega (arith, e)) h.1,
      )
  text_placed new (became.Refused why.BadSignature) h =
      let o = h.0 in (
        4,
        stopped 4 new
            (passed o.link o.reads (unheld_other o.link o.reads (λ k. false≢true (sym o.unproved ∙ k.1))) 4 (λ lt. o.of_team) (λ lt. absurd (omega (arith, lt))) (λ lt. absurd (omega (arith, lt)))
            (λ lt. absurd (omega (arith, lt))))
            o (omega arith) (λ e. omega (arith, e)) h.1,
      )
  text_placed new (became.Refused (why.NameClash n)) h =
      let c = h.0 in (
        5,
        record {
          passes = passed c.link c.valid.reads c.other 5 (λ lt. c.valid.of_team) (λ lt. c.valid) (λ lt. absurd (omega (arith, lt))) (λ lt. absurd (omega (arith, lt)));
          stops = (n, c);
          few = omega arith;
          answer = took.Again;
          name = n;
          is = refl;
          taken = λ e. absurd (omega (arith, e));
          named = λ e. (c.link, c.valid, c.name);
          kept = λ lt. h.1;
        },
      )
  text_placed new (became.Refused why.Full) h =
      let f = h.0.2 in (
        6,
        stopped 6 new
            (passed f.link f.valid.reads (unheld_fresh f.link f.valid.reads f.fresh) 6 (λ lt. f.valid.of_team) (λ lt. f.valid) (λ lt. f.fresh) (λ lt. absurd (omega (arith, lt))))
            h.0 (omega arith) (λ e. omega (arith, e)) h.1,
      )
  text_placed new (became.Refused why.Cut) h = absurd h.0
  text_placed new (became.Refused why.BadFrame) h = absurd h.0
  text_placed new (became.Refused why.Long) h = absurd h.0

  same_took : (new other : Held) (a b : Took) → Takes old new bytes a → Takes old other bytes b → (a ≡ b) × (new ≡ other)
  same_took new other a b x y =
      let e : x.link ≡ y.link = one_link x.link y.link x.valid.reads y.valid.reads in
      let same : new ≡ other = x.held ∙ ap (λ (l : Link). record old { links = old.links ++ l ∷ [] }) e ∙ sym y.held in
      (x.answer ∙ ap (λ (h : Held). answer_of old.links h.links) same ∙ sym y.answer, same)

  same_stage : (s t : ℕ) (new other : Held) (f g : ItemResult) → IsPlaced s new f → IsPlaced t other g → s ≡ t
  same_stage s t new other f g x y = go (cases_order s t)
    where
      go : (s ≡ t) ⊎ ((s < t) ⊎ (t < s)) → s ≡ t
      go (inl e) = e
      go (inr (inl lt)) = let few = y.few in absurd (refuted s (omega (arith, lt, few)) (y.passes s lt) x.stops)
      go (inr (inr lt)) = let few = x.few in absurd (refuted t (omega (arith, lt, few)) (x.passes t lt) y.stops)

  same_result : (s : ℕ) (new other : Held) (f g : ItemResult) → IsPlaced s new f → IsPlaced s other g → (f ≡ g) × (new ≡ other)
  same_result zero new other f g x y = (x.is ∙ sym y.is, x.kept (omega arith) ∙ sym (y.kept (omega arith)))
  same_result (suc zero) new other f g x y = (x.is ∙ sym y.is, x.kept (omega arith) ∙ sym (y.kept (omega arith)))
  same_result (suc (suc zero)) new other f g x y = (x.is ∙ sym y.is, x.kept (omega arith) ∙ sym (y.kept (omega arith)))
  same_result (suc (suc (suc zero))) new other f g x y = (x.is ∙ sym y.is, x.kept (omega arith) ∙ sym (y.kept (omega arith)))
  same_result (suc (suc (suc (suc zero)))) new other f g x y = (x.is ∙ sym y.is, x.kept (omega arith) ∙ sym (y.kept (omega arith)))
  same_result (suc (suc (suc (suc (suc zero))))) new other f g x y =
      let a = x.named refl in
      let b = y.named refl in
      let e = one_link a.0 b.0 a.1.reads b.1.reads in
      let same : x.name ≡ y.name = a.2 ∙ ap (λ (l : Link). l.name) e ∙ sym b.2 in
      (x.is ∙ ap (λ (n : Name). became.Refused (why.NameClash n)) same ∙ sym y.is, x.kept (omega arith) ∙ sym (y.kept (omega arith)))
  same_result (suc (suc (suc (suc (suc (suc zero)))))) new other f g x y = (x.is ∙ sym y.is, x.kept (omega arith) ∙ sym (y.kept (omega arith)))
  same_result (suc (suc (suc (suc (suc (suc (suc zero))))))) new other f g x y =
      let one = same_took new other x.answer y.answer (x.taken refl) (y.taken refl) in
      (x.is ∙ told x.answer y.answer one.0 (x.taken refl) ∙ sym y.is, one.1)
    where
      told : (a b : Took) → a ≡ b → Takes old new bytes a → of_stage 7 a x.name ≡ of_stage 7 b y.name
      told (took.New positions) b e t = subst (λ (c : Took). became.New (length positions) ≡ of_stage 7 c y.name) e refl
      told took.Waiting b e t = subst (λ (c : Took). became.Waiting ≡ of_stage 7 c y.name) e refl
      told took.Again b e t = subst (λ (c : Took). became.Again ≡ of_stage 7 c y.name) e refl
  same_result (suc (suc (suc (suc (suc (suc (suc (suc n)))))))) new other f g x y = let few = x.few in absurd (omega (arith, few))

  pub text_once : (new other : Held) (f g : ItemResult) → TextBecomes old new bytes f → TextBecomes old other bytes g → (f ≡ g) × (new ≡ other)
  text_once new other f g h k =
      let x = text_placed new f h in
      let y = text_placed other g k in
      let e = same_stage x.0 y.0 new other f g x.1 y.1 in
      same_result y.0 new other f g (subst (λ (s : ℕ). IsPlaced s new f) e x.1) y.1

module _ (once : LinkIsSpelledOnce) where
  item_once : (old new other : Held) (item : Item) (f g : ItemResult) → IsHeld old.team old.links → Becomes old new item f → Becomes old other item g → (f ≡ g) × (new ≡ other)
  item_once old new other Header f g held h k = (h.0 ∙ sym k.0, h.1 ∙ sym k.1)
  item_once old new other (Text bytes) f g held h k = text_once once old held bytes new other f g h k
  item_once old new other Cut f g held h k = (h.0 ∙ sym k.0, h.1 ∙ sym k.1)
  item_once old new other BadFrame f g held h k = (h.0 ∙ sym k.0, h.1 ∙ sym k.1)
  item_once old new other Long f g held h k = (h.0 ∙ sym k.0, h.1 ∙ sym k.1)

  pub items_once : (old new other : Held) (items : List Item) (results others : List ItemResult) → IsHeld old.team old.links → IsGiven old items new results → IsGiven old items other others
      → (results ≡ others) × (new ≡ other)
  items_once old new other [] results others held h k = (h.0 ∙ sym k.0, h.1 ∙ sym k.1)
  items_once old new other (item ∷ items) [] others held h k = absurd h
  items_once old new other (item ∷ items) (f ∷ results) [] held h k = absurd k
  items_once old new other (item ∷ items) (f ∷ results) (g ∷ others) held h k =
      let one = item_once old h.0 k.0 item f g held h.1 k.1 in
      let there = subst (λ (m : Held). IsGiven m items other others) (sym one.1) k.2 in
      let rest = items_once h.0 new other items results others (held_after once old h.0 item f held h.1) h.2 there in
      (ap (λ (r : ItemResult). r ∷ results) one.0 ∙ ap (λ (rs : List ItemResult). g ∷ rs) rest.0, rest.1)
