-- The parts of a graph, as links come and go.
use Rattle.std.proofs.Common.{◌≡◌, ◌+◌, ◌-◌, ◌^◌, ◌<◌, ◌≤◌, ℕ, zero, suc, true, false, Option, Some, None, Result, Ok, Err, OnErr, OnOk, append_assoc, get_or, slice_get, length-append, List, [], ◌∷◌, ◌++◌, append-nil, refl, sym, ◌∙◌, ap, subst, length, take, arith}
use Rattle.std.specs.List.{AllByRecursion, IsDistinct}
use Rattle.std.specs.Map.{keys_of}
use Rattle.std.proofs.lemmas.Bool.{false≢true, or_parts}
use Rattle.std.proofs.lemmas.List.{length_push}
use Rattle.std.proofs.lemmas.Option.{slice_get_read}
use Rattle.tg_text.specs.Limits.{most_links}
use Rattle.team_sets.specs.Names.{Name, same_name, has_name}
use Rattle.team_sets.specs.Members.{IsIn}
use Rattle.team_sets.specs.ArrivalLaws.{AllConnected}
use Rattle.team_sets.specs.Order.{is_next, names, order_after}
use Rattle.team_sets.specs.OrderLaws.{IsSet, ParentsFirst}
use Rattle.team_sets.proofs.Arrivals.{arrived_arranged, arrived_extends, arrived_ordered}
use Rattle.team_sets.proofs.Parts.{name_in}
use Rattle.team_model.specs.Judging.{name_of, prev_of}
use Rattle.team_model.specs.declared.terms.Link.{Link}
use Rattle.link_graph.specs.Held.{arrived_of}
use Rattle.link_graph.specs.Children.{HasChildren, child_places, named}
use Rattle.link_graph.specs.Lines.{HasRoom, IsLineup}
use Rattle.link_graph.specs.Positions.{HasEntries, linked}
use Rattle.link_graph.specs.Webs.{IsAwaiting, IsConnecting, IsUnlined, IsWeb, without_last}
use Rattle.link_graph.specs.declared.lineup.Lineup.{Lineup}
use Rattle.link_graph.specs.declared.web.Web.{Web}
use Rattle.link_graph.proofs.Fitting.{keys_linked, length-linked, named_at}
use Rattle.link_graph.proofs.ChildLists.{take_end, take_front}
use Rattle.link_graph.proofs.NextOnes.{split_last}

-- what connects when the last link comes follows what had connected
pub arrived_grows : (links : List Link) → 0 < length links
    → arrived_of links ≡ arrived_of (without_last links) ++ order_after name_of prev_of (length links) (arrived_of (without_last links)) links
arrived_grows links some =
    let x = split_last links some in
    subst (λ (l : List Link). arrived_of l ≡ arrived_of (without_last links) ++ order_after name_of prev_of (length l) (arrived_of (without_last links)) l) (sym x.1)
    (arrived_extends name_of prev_of (without_last links) x.0).extends

-- of the others none may connect before
pub others_wait : (links placed : List Link) → placed ≡ arrived_of (without_last links) → AllConnected name_of prev_of (without_last links) placed
others_wait links placed is y k = subst (λ (l : List Link). is_next name_of prev_of l y ≡ false) (sym is) ((arrived_arranged name_of prev_of (without_last links)).complete y k)

pub arrived_first : (links placed : List Link) → placed ≡ arrived_of links → ParentsFirst name_of prev_of [] placed
arrived_first links placed is = subst (λ (l : List Link). ParentsFirst name_of prev_of [] l) (sym is) (arrived_arranged name_of prev_of links).parents_first

pub arrived_within : (links : List Link) → IsSet name_of links → length (arrived_of links) ≤ length links
arrived_within links set = (arrived_ordered name_of prev_of links set).within

-- a lineup with the same lists
pub line_same : (placed : List Link) (old new : Lineup) → IsLineup placed old → new.order.items ≡ old.order.items → new.heads.items ≡ old.heads.items → IsLineup placed new
line_same placed old new so order heads = record {
  order = rw order so.order;
  range = rw order so.range;
  size = rw order so.size;
  heads = rw heads so.heads;
  few = rw heads so.few;
}

pub line_as : (placed other : List Link) (line : Lineup) → placed ≡ other → IsLineup placed line → IsLineup other line
line_as placed other line same so = subst (λ (l : List Link). IsLineup l line) same so

-- so many entries as links
pub count_of : (links placed : List Link) (entries : List (Name × ℕ)) (n : ℕ) → HasEntries links entries → linked links entries ≡ placed → n ≡ length entries → n ≡ length placed
count_of links placed entries n has is count = count ∙ sym (length-linked links entries has) ∙ ap (λ (l : List Link). length l) is

pub on_err : {T E : Type 0} (r : Result T E) (A B C D Q : Type 0) → (A → B → C → D → Q) → OnErr r A → OnErr r B → OnErr r C → OnErr r D → OnErr r Q
on_err (Ok x) A B C D Q f a b c d = tt
on_err (Err e) A B C D Q f a b c d = f a b c d

pub connecting_same : (old new : Web) (placed : List Link) → IsConnecting old placed → new.holding ≡ old.holding → new.connected ≡ old.connected → new.lineup.order.items ≡ old.lineup.order.items
    → new.lineup.heads.items ≡ old.lineup.heads.items → ((n : ℕ) → HasRoom n old.lineup → HasRoom n new.lineup) → IsConnecting new placed
connecting_same old new placed is held connected order heads room = record {
  entries = rw (held, connected) is.entries;
  linked = rw (held, connected) is.linked;
  lineup = line_same placed old.lineup new.lineup is.lineup order heads;
  room = rw connected (room (length old.connected) is.room);
}

pub awaiting_same : (old new : Web) → IsAwaiting old → new.holding ≡ old.holding → new.connected ≡ old.connected → new.lineup.order.items ≡ old.lineup.order.items
    → new.lineup.heads.items ≡ old.lineup.heads.items → ((n : ℕ) → HasRoom n old.lineup → HasRoom n new.lineup) → IsAwaiting new
awaiting_same old new is held connected order heads room = record {
  some = rw held is.some;
  set = rw held is.set;
  few = rw held is.few;
  connected = subst (λ (l : List Link). IsConnecting new (arrived_of (without_last l))) (sym held) (connecting_same old new (arrived_of (without_last old.holding)) is.connected held connected order heads room);
}

-- the last link has connected, if it may, and the others that waited for it
pub unlined_when : (old new : Web) (before : ℕ) → IsAwaiting old → new.holding ≡ old.holding → new.lineup ≡ old.lineup → before ≡ length old.connected
    → HasEntries old.holding new.connected → linked old.holding new.connected ≡ linked old.holding old.connected ++ order_after name_of prev_of (length old.holding) (linked old.holding old.connected) old.holding
    → (more : List (Name × ℕ)) × (new.connected ≡ old.connected ++ more) → IsUnlined new before
unlined_when old new before is held line count entries follow grown =
    let all : linked old.holding new.connected ≡ arrived_of old.holding =
    follow ∙ ap (λ (l : List Link). l ++ order_after name_of prev_of (length old.holding) l old.holding) is.connected.linked ∙ sym (arrived_grows old.holding is.some) in
    let size : before ≡ length (arrived_of (without_last old.holding)) = count_of old.holding (arrived_of (without_last old.holding)) old.connected before is.connected.entries is.connected.linked count in
    let front : arrived_of (without_last old.holding) ≡ take before (arrived_of old.holding) =
    sym (ap (λ (l : List Link). take before l) (arrived_grows old.holding is.some)
    ∙ ap (λ n. take n (arrived_of (without_last old.holding) ++ order_after name_of prev_of (length old.holding) (arrived_of (without_last old.holding)) old.holding)) size
    ∙ take_front (arrived_of (without_last old.holding)) (order_after name_of prev_of (length old.holding) (arrived_of (without_last old.holding)) old.holding)) in
    let long : length new.connected ≡ length old.connected + length grown.0 = ap (λ (l : List (Name × ℕ)). length l) grown.1 ∙ length-append old.connected grown.0 in
    record {
      set = rw held is.set;
      few = rw held is.few;
      entries = rw held entries;
      linked = rw held all;
      within = omega (arith, count, long);
      lineup = rw (held, line) (line_as (arrived_of (without_last old.holding)) (take before (arrived_of old.holding)) old.lineup front is.connected.lineup);
      room = rw (line, count) is.connected.room;
    }

-- a set without its last link
pub set_parts : (links : List Link) (x : Link) → IsSet name_of (links ++ x ∷ []) → IsSet name_of links × (has_name (names name_of links) x.name ≡ false)
unfolding IsDistinct
set_parts [] x h = (tt, refl)
set_parts (y ∷ ys) x h =
    let rest = set_parts ys x h.1 in
    let parts = all_parts (λ m. same_name y.name m ≡ false) ys x h.0 in
    ((parts.0, rest.0), rw (parts.1, rest.1) refl)
  where
    all_parts : (P : Name → Type 0) (zs : List Link) (w : Link) → AllByRecursion P (names name_of (zs ++ w ∷ [])) → AllByRecursion P (names name_of zs) × P w.name
    all_parts P [] w h = (tt, h.0)
    all_parts P (z ∷ zs) w h = let more = all_parts P zs w h.1 in ((h.0, more.0), more.1)

pub set_push : (links : List Link) (x : Link) → IsSet name_of links → has_name (names name_of links) x.name ≡ false → IsSet name_of (links ++ x ∷ [])
unfolding IsDistinct
set_push [] x is fresh = (tt, tt)
set_push (y ∷ ys) x is fresh =
    let apart = or_parts (same_name y.name x.name) (has_name (names name_of ys) x.name) fresh in
    (names_push (λ m. same_name y.name m ≡ false) ys x is.0 apart.0, set_push ys x is.1 apart.1)
  where
    names_push : (P : Name → Type 0) (zs : List Link) (w : Link) → AllByRecursion P (names name_of zs) → P w.name → AllByRecursion P (names name_of (zs ++ w ∷ []))
    names_push P [] w all here = (here, tt)
    names_push P (z ∷ zs) w all here = (all.0, names_push P zs w all.1 here)

pub set_none : IsSet name_of []
unfolding IsDistinct
set_none = tt

pub set_front : (links : List Link) → 0 < length links → IsSet name_of links → IsSet name_of (without_last links)
set_front links some is = let x = split_last links some in (set_parts (without_last links) x.0 (subst (λ (l : List Link). IsSet name_of l) x.1 is)).0

names_get : (links : List Link) (x : Link) (i : ℕ) (n : Name) → slice_get (names name_of links) i ≡ Some n → (slice_get (names name_of (links ++ x ∷ [])) i ≡ Some n) × (slice_get (links ++ x ∷ []) i ≡ slice_get links i)
names_get [] x i n e = absurd (let bad : ◌≡◌ {A = Option Name} None (Some n) = e in cc)
names_get (y ∷ ys) x zero n e = (e, refl)
names_get (y ∷ ys) x (suc i) n e = names_get ys x i n e

names_back : (links : List Link) (x : Link) (i : ℕ) (n : Name) → slice_get (names name_of (links ++ x ∷ [])) i ≡ Some n → ¬ (x.name ≡ n) → slice_get (names name_of links) i ≡ Some n
names_back [] x zero n e other = absurd (other (let same : x.name ≡ n = cc in same))
names_back [] x (suc i) n e other = e
names_back (y ∷ ys) x zero n e other = e
names_back (y ∷ ys) x (suc i) n e other = names_back ys x i n e other

-- the same entries, as one more link is held
entries_more : (links : List Link) (x : Link) (entries : List (Name × ℕ)) → HasEntries links entries → HasEntries (links ++ x ∷ []) entries × (linked (links ++ x ∷ []) entries ≡ linked links entries)
entries_more links x [] h = (tt, refl)
entries_more links x (e ∷ es) h =
    let here = names_get links x e.1 e.0 h.0 in
    let rest = entries_more links x es h.1 in
    ((here.0, rest.0), rw (here.1, rest.1) refl)

-- and as the last is let go, which isn't among them
entries_less : (links : List Link) (x : Link) (entries : List (Name × ℕ)) → has_name (names name_of links) x.name ≡ false → HasEntries (links ++ x ∷ []) entries
    → AllByRecursion (λ n. has_name (names name_of links) n ≡ true) (keys_of entries) → HasEntries links entries
entries_less links x [] fresh h all = tt
entries_less links x (e ∷ es) fresh h all =
    (names_back links x e.1 e.0 h.0 (λ same. false≢true (sym fresh ∙ ap (λ (n : Name). has_name (names name_of links) n) same ∙ all.0)), entries_less links x es fresh h.1 all.1)

pub awaiting_push : (old new : Web) (x : Link) → IsWeb old → length old.holding < most_links → has_name (names name_of old.holding) x.name ≡ false
    → new.holding ≡ old.holding ++ x ∷ [] → new.connected ≡ old.connected → new.lineup ≡ old.lineup → IsAwaiting new
awaiting_push old new x is room fresh held connected line =
    let long : length (old.holding ++ x ∷ []) ≡ length old.holding + 1 = length_push old.holding x in
    let more = entries_more old.holding x old.connected is.connected.entries in
    let front : without_last new.holding ≡ old.holding = ap (λ (l : List Link). without_last l) held ∙ take_end old.holding x in
    record {
      some = rw held (omega (arith, long));
      set = rw held (set_push old.holding x is.set fresh);
      few = rw held (omega (arith, long, room));
      connected = subst (λ (l : List Link). IsConnecting new (arrived_of l)) (sym front) (record {
        entries = rw (held, connected) more.0;
        linked = rw (held, connected) (more.1 ∙ is.connected.linked);
        lineup = rw line is.connected.lineup;
        room = rw (connected, line) is.connected.room;
      });
    }

pub front_push : (old : List Link) (x : Link) (new : List Link) → new ≡ old ++ x ∷ [] → without_last new ≡ old
front_push old x new is = ap (λ (l : List Link). without_last l) is ∙ take_end old x

-- the link that came last is let go, and all is as before
pub web_back : (old mid new : Web) (x : Link) → IsWeb old → IsAwaiting mid → mid.holding ≡ old.holding ++ x ∷ [] → new.holding ≡ without_last mid.holding → new.connected ≡ old.connected
    → new.lineup ≡ mid.lineup → mid.connected ≡ old.connected → HasChildren (without_last mid.holding) new.children.lists → IsWeb new
web_back old mid new x is waits held back connected line kept children =
    let front : without_last mid.holding ≡ old.holding = front_push old.holding x mid.holding held in
    let whole : new.holding ≡ old.holding = back ∙ front in
    record {
      set = rw whole is.set;
      few = rw whole is.few;
      children = rw back children;
      connected = subst (λ (l : List Link). IsConnecting new (arrived_of l)) (sym whole) (record {
        entries = rw (whole, connected) is.connected.entries;
        linked = rw (whole, connected) is.connected.linked;
        lineup = rw line (line_as (arrived_of (without_last mid.holding)) (arrived_of old.holding) mid.lineup (ap (λ (l : List Link). arrived_of l) front) waits.connected.lineup);
        room = rw (connected, line) (subst (λ (l : List (Name × ℕ)). HasRoom (length l) mid.lineup) kept waits.connected.room);
      });
    }

pub on_one : {T E : Type 0} (r : Result T E) (A Q : Type 0) → (A → Q) → OnErr r A → OnErr r Q
on_one (Ok x) A Q f a = tt
on_one (Err e) A Q f a = f a

pub on_ok : {T E : Type 0} (r : Result T E) (A Q : Type 0) → (A → Q) → OnOk r A → OnOk r Q
on_ok (Ok x) A Q f a = f a
on_ok (Err e) A Q f a = tt

child_push : (i : ℕ) (xs : List Link) (x : Link) (n : Name) → child_places i (xs ++ x ∷ []) n ≡ child_places i xs n ++ named (i + length xs) x.prev n
child_push i [] x n = let e : i + 0 ≡ i = omega arith in append-nil (named i x.prev n) ∙ ap (λ k. named k x.prev n) (sym e)
child_push i (y ∷ ys) x n =
    let e : i + 1 + length ys ≡ i + length (y ∷ ys) = omega arith in
    ap (λ l. named i y.prev n ++ l) (child_push (i + 1) ys x n ∙ ap (λ k. child_places (i + 1) ys n ++ named k x.prev n) e)
    ∙ sym (append_assoc (named i y.prev n) (child_places (i + 1) ys n) (named (i + length (y ∷ ys)) x.prev n))

-- the children with the last link
pub child_last : (links : List Link) (x : Link) (last : ℕ) (parents : List Name) (n : Name) → 0 < length links → last ≡ length links - 1 → x ≡ get_or links last x → parents ≡ x.prev
    → child_places 0 links n ≡ child_places 0 (without_last links) n ++ named last parents n
child_last links x last parents n some is at same =
    let y = split_last links some in
    let here : slice_get links last ≡ Some x = slice_get_read links (length links) last x refl (omega (arith, some, is)) at in
    let one : y.0 ≡ x = some_inside (sym y.2 ∙ ap (λ k. slice_get links k) (sym is) ∙ here) in
    let short : length (without_last links) ≡ last = let long = ap (λ (l : List Link). length l) y.1 ∙ length_push (without_last links) y.0 in omega (arith, long, is) in
    ap (λ (l : List Link). child_places 0 l n) y.1 ∙ child_push 0 (without_last links) y.0 n
    ∙ ap (λ (z : Link). child_places 0 (without_last links) n ++ named (0 + length (without_last links)) z.prev n) one
    ∙ ap (λ k. child_places 0 (without_last links) n ++ named k x.prev n) (zero_plus (length (without_last links)) ∙ short) ∙ ap (λ (ps : List Name). child_places 0 (without_last links) n ++ named last ps n) (sym same)
  where
    zero_plus : (k : ℕ) → 0 + k ≡ k
    zero_plus k = omega arith

    some_inside : {A : Type 0} {a b : A} → ◌≡◌ {A = Option A} (Some a) (Some b) → a ≡ b
    some_inside e = cc

all_take : {A : Type 0} (P : A → Type 0) (k : ℕ) (xs : List A) → AllByRecursion P xs → AllByRecursion P (take k xs)
all_take P zero xs h = tt
all_take P (suc k) [] h = tt
all_take P (suc k) (x ∷ xs) h = (h.0, all_take P k xs h.1)

linked_take : (links : List Link) (k : ℕ) (entries : List (Name × ℕ)) → HasEntries links entries → linked links (take k entries) ≡ take k (linked links entries)
linked_take links zero entries h = refl
linked_take links (suc k) [] h = refl
linked_take links (suc k) (e ∷ es) h = let y = named_at links e.1 e.0 h.0 in rw y.1 (ap (λ (l : List Link). y.0 ∷ l) (linked_take links k es h.1))

names_held : (links placed : List Link) → AllByRecursion (λ x. IsIn x links) placed → AllByRecursion (λ n. has_name (names name_of links) n ≡ true) (names name_of placed)
names_held links [] h = tt
names_held links (x ∷ xs) h = (name_in name_of prev_of links x h.0 x.name refl, names_held links xs h.1)

-- the entries of the others, once the last link is let go
pub cut_fits : (links : List Link) (entries cut : List (Name × ℕ)) (count : ℕ) → 0 < length links → IsSet name_of links → HasEntries links entries → linked links entries ≡ arrived_of links
    → count ≡ length (arrived_of (without_last links)) → cut ≡ take count entries → HasEntries (without_last links) cut × (linked (without_last links) cut ≡ arrived_of (without_last links))
cut_fits links entries cut count some set has is counted cuts =
    let x = split_last links some in
    let whole : IsSet name_of (without_last links ++ x.0 ∷ []) = subst (λ (l : List Link). IsSet name_of l) x.1 set in
    let fresh : has_name (names name_of (without_last links)) x.0.name ≡ false = (set_parts (without_last links) x.0 whole).1 in
    let part : HasEntries links cut = subst (λ (es : List (Name × ℕ)). HasEntries links es) (sym cuts) (all_take (λ (e : Name × ℕ). slice_get (names name_of links) e.1 ≡ Some e.0) count entries has) in
    let there : HasEntries (without_last links ++ x.0 ∷ []) cut = subst (λ (l : List Link). HasEntries l cut) x.1 part in
    let front : linked links cut ≡ arrived_of (without_last links) =
    ap (λ (es : List (Name × ℕ)). linked links es) cuts ∙ linked_take links count entries has ∙ ap (λ (l : List Link). take count l) (is ∙ arrived_grows links some)
    ∙ ap (λ n. take n (arrived_of (without_last links) ++ order_after name_of prev_of (length links) (arrived_of (without_last links)) links)) counted
    ∙ take_front (arrived_of (without_last links)) (order_after name_of prev_of (length links) (arrived_of (without_last links)) links) in
    let known : AllByRecursion (λ n. has_name (names name_of (without_last links)) n ≡ true) (keys_of cut) =
    subst (λ (ns : List Name). AllByRecursion (λ n. has_name (names name_of (without_last links)) n ≡ true) ns) (ap (λ (l : List Link). names name_of l) (sym front) ∙ keys_linked links cut part)
    (names_held (without_last links) (arrived_of (without_last links)) (arrived_arranged name_of prev_of (without_last links)).of_links) in
    let here : HasEntries (without_last links) cut = entries_less (without_last links) x.0 cut fresh there known in
    (here, sym (entries_more (without_last links) x.0 cut here).1 ∙ ap (λ (l : List Link). linked l cut) (sym x.1) ∙ front)

pub front_few : (links : List Link) (n : ℕ) → length links ≤ n → length (without_last links) ≤ n
front_few links n h = let short = shorter links (length links - 1) in omega (arith, short, h)
  where
    shorter : {A : Type 0} (xs : List A) (k : ℕ) → length (take k xs) ≤ length xs
    shorter xs zero = omega arith
    shorter [] (suc k) = omega arith
    shorter (y ∷ ys) (suc k) = let h = shorter ys k in omega (arith, h)

-- the web without its last link, as far as it is known before the others line up again
pub record IsCut (old : Web) (links here : List Link) (cut : List (Name × ℕ)) : Type 0 where
  pub entries : HasEntries here cut
  pub linked_is : linked here cut ≡ arrived_of links
  pub first : ParentsFirst name_of prev_of [] (linked here cut)
  pub count : length cut < 2 ^ 32

pub cut_is : (old : Web) (middle here : List Link) (cut kept : List (Name × ℕ)) (count : ℕ) → IsWeb old → 0 < length old.holding → count ≡ length (arrived_of (without_last old.holding))
    → middle ≡ old.holding → kept ≡ old.connected → cut ≡ take count kept → here ≡ without_last middle → IsCut old (without_last old.holding) here cut
cut_is old middle here cut kept count is some counted same_links same_entries cuts back =
    let whole : here ≡ without_last old.holding = back ∙ ap (λ (l : List Link). without_last l) same_links in
    let fits = cut_fits old.holding old.connected cut count some is.set is.connected.entries is.connected.linked counted (cuts ∙ ap (λ (es : List (Name × ℕ)). take count es) same_entries) in
    let first = arrived_first (without_last old.holding) (linked (without_last old.holding) cut) fits.1 in
    let many : length cut ≡ length (arrived_of (without_last old.holding)) = count_of (without_last old.holding) (arrived_of (without_last old.holding)) cut (length cut) fits.0 fits.1 refl in
    let within = arrived_within (without_last old.holding) (set_front old.holding some is.set) in
    let few = front_few old.holding most_links is.few in
    record {
      entries = rw whole fits.0;
      linked_is = rw whole fits.1;
      first = rw whole first;
      count = omega (arith, many, within, few);
    }

pub web_cut : (old new : Web) (middle : List Link) → IsWeb old → 0 < length old.holding → middle ≡ old.holding → new.holding ≡ without_last middle → HasChildren (without_last old.holding) new.children.lists
    → HasEntries new.holding new.connected → linked new.holding new.connected ≡ arrived_of (without_last old.holding) → IsLineup (linked new.holding new.connected) new.lineup → HasRoom (length new.connected) new.lineup → IsWeb new
web_cut old new middle is some same back children entries all line room =
    let whole : new.holding ≡ without_last old.holding = back ∙ ap (λ (l : List Link). without_last l) same in
    record {
      set = rw whole (set_front old.holding some is.set);
      few = rw whole (front_few old.holding most_links is.few);
      children = rw whole children;
      connected = subst (λ (l : List Link). IsConnecting new (arrived_of l)) (sym whole) (record {
        entries = entries;
        linked = all;
        lineup = line_as (linked new.holding new.connected) (arrived_of (without_last old.holding)) new.lineup all line;
        room = room;
      });
    }
