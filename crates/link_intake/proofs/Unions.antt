-- What giving items makes of the texts of a held set.
use Rattle.std.proofs.Common.{◌≡◌, ◌↔◌, ◌⊎◌, ◌≤◌, inl, inr, ℕ, List, [], ◌∷◌, ◌++◌, length, refl, sym, ◌∙◌, ap, subst, arith}
use Rattle.std.proofs.lemmas.Bool.{false≢true}
use Rattle.std.proofs.lemmas.List.{length_push}
use Rattle.tg_text.specs.Limits.{most_file_bytes, most_links}
use Rattle.team_sets.specs.Names.{Name}
use Rattle.team_sets.specs.Members.{IsIn}
use Rattle.team_sets.proofs.Arrivals.{in_append-left}
use Rattle.team_sets.proofs.Pasts.{all_at, all_more, in_more, one_named}
use Rattle.team_sets.proofs.Sorted.{all_of}
use Rattle.team_model.specs.Judging.{name_of}
use Rattle.team_model.specs.declared.terms.Link.{Link}
use Rattle.link_text.specs.LinkText.{IsOfTeam, IsValid, LinkIsSpelledOnce, proves, text}
use Rattle.link_text.specs.TeamFile.{IsHeld, file_text}
use Rattle.link_graph.specs.Held.{Held}
use Rattle.link_graph.specs.Taking.{HasSpace, HasText, IsFresh, Takes}
use Rattle.link_graph.specs.declared.took.Took.{Took}
use Rattle.link_graph.specs.declared.took.Took.TheVariants as took
use Rattle.link_graph.proofs.Webbing.{set_push}
use Rattle.team_files.specs.declared.item.Item.{Item}
use Rattle.team_files.specs.declared.item.Item.TheVariants.{Header, Text, Cut, BadFrame, Long}
use Rattle.link_intake.specs.declared.item_result.ItemResult.{ItemResult}
use Rattle.link_intake.specs.declared.item_result.ItemResult.TheVariants as became
use Rattle.link_intake.specs.declared.item_result.Refusal.{Refusal}
use Rattle.link_intake.specs.declared.item_result.Refusal.TheVariants as why
use Rattle.link_intake.specs.Giving.{Becomes, IsGiven, IsRefused, TextBecomes}
use Rattle.link_intake.specs.UnionLaws.{Fits, HasItem, IsAmong, IsUnion, IsValidText, NoClash}

-- a link among the texts that are held or given
abbrev pub IsOneOf : Held → (List ℕ → Type 0) → Link → Type 0
IsOneOf old Given l = IsValid old.team (text l) l × IsAmong old Given (text l)

-- where fewer texts are given to a set of the same team, there is no clash either, and all fits
module _ (old mid : Held) (G H : List ℕ → Type 0) (team : mid.team ≡ old.team) (among : (b : List ℕ) → IsAmong mid H b → IsAmong old G b) where
  as_old : (b : List ℕ) (l : Link) → IsValid mid.team b l → IsValid old.team b l
  as_old b l v = subst (λ (t : Name). IsValid t b l) team v

  pub clash_within : NoClash old G → NoClash mid H
  clash_within apart a b k l x y v w e = apart a b k l (among a x) (among b y) (as_old a k v) (as_old b l w) e

  pub fits_within : Fits old G → Fits mid H
  fits_within fits links set all =
      subst (λ (t : Name). (length links ≤ most_links) × (length (file_text t links) ≤ most_file_bytes)) (sym team)
      (fits links set (all_of (IsOneOf old G) links (λ l k. one l (all_at (IsOneOf mid H) links all l k))))
    where
      one : (l : Link) → IsOneOf mid H l → IsOneOf old G l
      one l h = (as_old (text l) l h.0, among (text l) h.1)

-- some texts are given, and then others: all are these
module _ (old mid : Held) (G H K : List ℕ → Type 0) (first : IsUnion old G mid) (parts : (b : List ℕ) → K b ↔ (G b ⊎ H b)) where
  among_later : (b : List ℕ) → IsAmong mid H b → IsAmong old K b
  among_later b (inr h) = inr ((parts b).1 (inr h))
  among_later b (inl k) = go ((first.texts b).0 k)
    where
      go : HasText old.links b ⊎ (G b × IsValidText old.team b) → IsAmong old K b
      go (inl m) = inl m
      go (inr g) = inr ((parts b).1 (inl g.0))

  pub clash_later : NoClash old K → NoClash mid H
  clash_later = clash_within old mid K H first.team among_later

  pub fits_later : Fits old K → Fits mid H
  fits_later = fits_within old mid K H first.team among_later

  module _ (new : Held) (later : IsUnion mid H new) where
    forth : (b : List ℕ) → HasText new.links b → HasText old.links b ⊎ (K b × IsValidText old.team b)
    forth b h = go ((later.texts b).0 h)
      where
        here : HasText old.links b ⊎ (G b × IsValidText old.team b) → HasText old.links b ⊎ (K b × IsValidText old.team b)
        here (inl k) = inl k
        here (inr g) = inr ((parts b).1 (inl g.0), g.1)

        go : HasText mid.links b ⊎ (H b × IsValidText mid.team b) → HasText old.links b ⊎ (K b × IsValidText old.team b)
        go (inl k) = here ((first.texts b).0 k)
        go (inr k) = inr ((parts b).1 (inr k.0), subst (λ (t : Name). IsValidText t b) first.team k.1)

    back : (b : List ℕ) → HasText old.links b ⊎ (K b × IsValidText old.team b) → HasText new.links b
    back b (inl k) = (later.texts b).1 (inl ((first.texts b).1 (inl k)))
    back b (inr k) = go ((parts b).0 k.0)
      where
        go : G b ⊎ H b → HasText new.links b
        go (inl g) = (later.texts b).1 (inl ((first.texts b).1 (inr (g, k.1))))
        go (inr h) = (later.texts b).1 (inr (h, subst (λ (t : Name). IsValidText t b) (sym first.team) k.1))

    pub union_join : IsUnion old K new
    union_join = record { team = later.team ∙ first.team; texts = λ b. (forth b, back b); held = later.held }

-- nothing came, where the valid ones of the texts that are given are held already
pub union_same : (old : Held) (G : List ℕ → Type 0) → IsHeld old.team old.links → ((b : List ℕ) → G b → IsValidText old.team b → HasText old.links b) → IsUnion old G old
union_same old G held there = record { team = refl; texts = λ b. (λ h. inl h, back b); held = held }
  where
    back : (b : List ℕ) → HasText old.links b ⊎ (G b × IsValidText old.team b) → HasText old.links b
    back b (inl h) = h
    back b (inr g) = there b g.0 g.1

same_text : (a b : List ℕ) → ◌≡◌ {A = Item} (Text a) (Text b) → a ≡ b
same_text a b e = let same : ◌≡◌ {A = Item} (Text a) (Text b) = e in cc

in_last : (links : List Link) (l : Link) → IsIn l (links ++ l ∷ [])
in_last [] l = inl refl
in_last (x ∷ xs) l = inr (in_last xs l)

-- one text that is given
module _ (once : LinkIsSpelledOnce) (old : Held) (held : IsHeld old.team old.links) (bytes : List ℕ) where
  abbrev One : List ℕ → Type 0
  One b = ◌≡◌ {A = Item} (Text bytes) (Text b)

  abbrev valid_of : Link → Type 0
  valid_of l = IsValid old.team (text l) l

  at_text : (l : Link) → IsValid old.team bytes l → IsValid old.team (text l) l
  at_text l v = subst (λ (b : List ℕ). IsValid old.team b l) v.reads.is_text v

  -- with its link the set is within the limits
  room : Fits old One → (l : Link) → IsValid old.team bytes l → IsFresh old.links l → HasSpace old.team old.links l
  room fits l v fresh =
      let all = all_more (IsOneOf old One) old.links l
      (all_of (IsOneOf old One) old.links (λ x k. (all_at valid_of old.links held.valid x k, inl (x, k, refl))))
      (at_text l v, inr (ap (λ (b : List ℕ). Text b) v.reads.is_text)) in
      let within = fits (old.links ++ l ∷ []) (set_push old.links l held.set fresh) all in
      let few : length (old.links ++ l ∷ []) ≤ most_links = within.0 in
      let count = length_push old.links l in
      record { few = omega (arith, few, count); short = within.1 }

  -- a valid text isn't refused
  unrefused : NoClash old One → Fits old One → (refusal : Refusal) → IsRefused old bytes refusal → ¬ (IsValidText old.team bytes)
  unrefused apart fits why.TooLong h v =
      let short = v.1.reads.well_formed.fits in
      let same = ap (λ (b : List ℕ). length b) v.1.reads.is_text in
      omega (arith, h, short, same)
  unrefused apart fits why.BadText h v = h.no_link v.0 v.1.reads
  unrefused apart fits why.OtherTeam h v = h.other (subst (λ (l : Link). IsOfTeam old.team l) (once bytes v.0 h.link v.1.reads h.reads) v.1.of_team)
  unrefused apart fits why.BadSignature h v =
      false≢true (sym h.unproved ∙ ap (λ (l : Link). proves l) (once bytes h.link v.0 h.reads v.1.reads) ∙ v.1.proved)
  unrefused apart fits (why.NameClash n) h v =
      let k = one_named name_of old.links h.link.name h.taken in
      h.other (k.0, k.1, apart (text k.0) bytes k.0 h.link (inl (k.0, k.1, refl)) (inr refl) (all_at valid_of old.links held.valid k.0 k.1) h.valid k.2)
  unrefused apart fits why.Full h v = let full = h.2 in full.space (room fits full.link full.valid full.fresh)
  unrefused apart fits why.Cut h v = h
  unrefused apart fits why.BadFrame h v = h
  unrefused apart fits why.Long h v = h

  -- its link is held behind the others
  module _ (l : Link) (valid : IsValid old.team bytes l) (fresh : IsFresh old.links l) (space : HasSpace old.team old.links l) where
    abbrev grown : Held
    grown = record { team = old.team; links = old.links ++ l ∷ [] }

    to : (b : List ℕ) → HasText grown.links b → HasText old.links b ⊎ (One b × IsValidText old.team b)
    to b h = go (in_more old.links l h.0 h.1)
      where
        go : IsIn h.0 old.links ⊎ (l ≡ h.0) → HasText old.links b ⊎ (One b × IsValidText old.team b)
        go (inl k) = inl (h.0, k, h.2)
        go (inr e) =
            let same : bytes ≡ b = valid.reads.is_text ∙ ap (λ (x : Link). text x) e ∙ h.2 in
            inr (ap (λ (t : List ℕ). Text t) same, (l, subst (λ (t : List ℕ). IsValid old.team t l) same valid))

    from : (b : List ℕ) → HasText old.links b ⊎ (One b × IsValidText old.team b) → HasText grown.links b
    from b (inl h) = (h.0, in_append-left old.links (l ∷ []) h.0 h.1, h.2)
    from b (inr g) = (l, in_last old.links l, sym valid.reads.is_text ∙ same_text bytes b g.0)

    grown_held : IsHeld old.team (old.links ++ l ∷ [])
    grown_held =
        let few = space.few in
        let count = length_push old.links l in
        record {
          team = held.team;
          valid = all_more valid_of old.links l held.valid (at_text l valid);
          set = set_push old.links l held.set fresh;
          few = omega (arith, few, count);
          short = space.short;
        }

    pub pushed_held : IsHeld grown.team grown.links
    pushed_held = grown_held

    pushed : IsUnion old One grown
    pushed = record { team = refl; texts = λ b. (to b, from b); held = grown_held }

  taken : (new : Held) (answer : Took) → Takes old new bytes answer → IsUnion old One new
  taken new answer t = subst (λ (h : Held). IsUnion old One h) (sym t.held) (pushed t.link t.valid t.fresh t.space)

  text_union : NoClash old One → Fits old One → (new : Held) (f : ItemResult) → TextBecomes old new bytes f → IsUnion old One new
  text_union apart fits new became.Header h = absurd h
  text_union apart fits new (became.New connected) h = taken new (took.New h.0) h.1
  text_union apart fits new became.Waiting h = taken new took.Waiting h
  text_union apart fits new became.Again h =
      subst (λ (s : Held). IsUnion old One s) (sym h.1) (union_same old One held (λ b e v. subst (λ (t : List ℕ). HasText old.links t) (same_text bytes b e) h.0))
  text_union apart fits new (became.Refused refusal) h =
      subst (λ (s : Held). IsUnion old One s) (sym h.1)
      (union_same old One held (λ b e v. absurd (unrefused apart fits refusal h.0 (subst (λ (t : List ℕ). IsValidText old.team t) (sym (same_text bytes b e)) v))))

-- what an item makes of a held set
module _ (once : LinkIsSpelledOnce) where
  abbrev IsItem : Item → List ℕ → Type 0
  IsItem item b = item ≡ Text b

  nothing : (old new : Held) (item : Item) → IsHeld old.team old.links → ((b : List ℕ) → ¬ (IsItem item b)) → new ≡ old → IsUnion old (IsItem item) new
  nothing old new item held none same = subst (λ (s : Held). IsUnion old (IsItem item) s) (sym same) (union_same old (IsItem item) held (λ b e v. absurd (none b e)))

  item_union : (old new : Held) (item : Item) (f : ItemResult) → IsHeld old.team old.links → NoClash old (IsItem item) → Fits old (IsItem item) → Becomes old new item f → IsUnion old (IsItem item) new
  item_union old new Header f held apart fits h = nothing old new Header held (λ b e. let bad : ◌≡◌ {A = Item} Header (Text b) = e in cc) h.1
  item_union old new (Text bytes) f held apart fits h = text_union once old held bytes apart fits new f h
  item_union old new Cut f held apart fits h = nothing old new Cut held (λ b e. let bad : ◌≡◌ {A = Item} Cut (Text b) = e in cc) h.1
  item_union old new BadFrame f held apart fits h = nothing old new BadFrame held (λ b e. let bad : ◌≡◌ {A = Item} BadFrame (Text b) = e in cc) h.1
  item_union old new Long f held apart fits h = nothing old new Long held (λ b e. let bad : ◌≡◌ {A = Item} Long (Text b) = e in cc) h.1

  text_held : (old : Held) (held : IsHeld old.team old.links) (bytes : List ℕ) (new : Held) (answer : Took) → Takes old new bytes answer → IsHeld new.team new.links
  text_held old held bytes new answer t = subst (λ (h : Held). IsHeld h.team h.links) (sym t.held) (pushed_held once old held bytes t.link t.valid t.fresh t.space)

  same_held : (old new : Held) → IsHeld old.team old.links → new ≡ old → IsHeld new.team new.links
  same_held old new held e = subst (λ (h : Held). IsHeld h.team h.links) (sym e) held

  -- whatever becomes of an item, a held set is left
  pub held_after : (old new : Held) (item : Item) (f : ItemResult) → IsHeld old.team old.links → Becomes old new item f → IsHeld new.team new.links
  held_after old new Header f held h = same_held old new held h.1
  held_after old new (Text bytes) became.Header held h = absurd h
  held_after old new (Text bytes) (became.New connected) held h = text_held old held bytes new (took.New h.0) h.1
  held_after old new (Text bytes) became.Waiting held h = text_held old held bytes new took.Waiting h
  held_after old new (Text bytes) became.Again held h = same_held old new held h.1
  held_after old new (Text bytes) (became.Refused refusal) held h = same_held old new held h.1
  held_after old new Cut f held h = same_held old new held h.1
  held_after old new BadFrame f held h = same_held old new held h.1
  held_after old new Long f held h = same_held old new held h.1

  among_first : (old : Held) (item : Item) (items : List Item) (b : List ℕ) → IsAmong old (IsItem item) b → IsAmong old (HasItem (item ∷ items)) b
  among_first old item items b (inl h) = inl h
  among_first old item items b (inr e) = inr (inl e)

  parts_of : (item : Item) (items : List Item) (b : List ℕ) → HasItem (item ∷ items) b ↔ (IsItem item b ⊎ HasItem items b)
  parts_of item items b = (λ h. h, λ h. h)

  -- items that are given one behind the other
  pub items_union : (old new : Held) (items : List Item) (results : List ItemResult) → IsHeld old.team old.links → NoClash old (HasItem items) → Fits old (HasItem items)
      → IsGiven old items new results → IsUnion old (HasItem items) new
  items_union old new [] results held apart fits given = subst (λ (s : Held). IsUnion old (HasItem []) s) (sym given.1) (union_same old (HasItem []) held (λ b k v. absurd k))
  items_union old new (item ∷ items) [] held apart fits given = absurd given
  items_union old new (item ∷ items) (f ∷ results) held apart fits given =
      let mid = given.0 in
      let G = IsItem item in let H = HasItem items in let K = HasItem (item ∷ items) in
      let among = among_first old item items in
      let parts = parts_of item items in
      let first = item_union old mid item f held (clash_within old old K G refl among apart) (fits_within old old K G refl among fits) given.1 in
      let later = items_union mid new items results first.held (clash_later old mid G H K first parts apart) (fits_later old mid G H K first parts fits) given.2 in
      union_join old mid G H K first parts new later
