-- Connected links and their entries.
use Rattle.std.proofs.Common.{◌≡◌, ◌↔◌, ◌+◌, ◌-◌, ◌<◌, ◌≤◌, ℕ, zero, suc, true, List, [], ◌∷◌, ◌++◌, append_assoc, append-nil, Option, Some, None, refl, sym, ◌∙◌, ap, subst, length, map, filter, is_some, slice_get, All, arith}
use Rattle.std.specs.List.{AllByRecursion}
use Rattle.std.specs.Map.{keys_of}
use Rattle.std.specs.Option.{option_map_or}
use Rattle.std.proofs.lemmas.Bool.{false≢true}
use Rattle.std.proofs.lemmas.List.{map-append, length-map}
use Rattle.std.proofs.lemmas.List.Elements.{filter_map-append, All-from_recursion}
use Rattle.team_sets.specs.Names.{Name}
use Rattle.team_sets.specs.Members.{IsIn}
use Rattle.team_sets.specs.Order.{least, is_next, order_after, names}
use Rattle.team_sets.proofs.Ancestors.{in_at}
use Rattle.team_sets.proofs.Connects.{connects_next}
use Rattle.team_sets.proofs.Pasts.{all_more}
use Rattle.team_model.specs.Judging.{name_of, prev_of}
use Rattle.team_model.specs.declared.terms.Link.{Link}
use Rattle.link_graph.specs.Children.{child_places}
use Rattle.link_graph.specs.Positions.{HasEntries, linked}
use Rattle.link_graph.proofs.Names.{get_within}
use Rattle.link_graph.proofs.NextOnes.{child_bound}

-- the link at a place that has this name
pub named_at : (links : List Link) (i : ℕ) (n : Name) → slice_get (names name_of links) i ≡ Some n → (y : Link) × (slice_get links i ≡ Some y) × (y.name ≡ n)
named_at [] i n e = absurd (let bad : ◌≡◌ {A = Option Name} None (Some n) = e in cc)
named_at (x ∷ xs) zero n e = let same : x.name ≡ n = cc in (x, refl, same)
named_at (x ∷ xs) (suc i) n e = named_at xs i n e

pub keys_linked : (links : List Link) (entries : List (Name × ℕ)) → HasEntries links entries → names name_of (linked links entries) ≡ keys_of entries
keys_linked links [] h = refl
keys_linked links (e ∷ es) h = let y = named_at links e.1 e.0 h.0 in rw (y.1, y.2, keys_linked links es h.1) refl

pub length-linked : (links : List Link) (entries : List (Name × ℕ)) → HasEntries links entries → length (linked links entries) ≡ length entries
length-linked links [] h = refl
length-linked links (e ∷ es) h = let y = named_at links e.1 e.0 h.0 in rw y.1 (ap suc (length-linked links es h.1))

pub linked_push : (links : List Link) (entries : List (Name × ℕ)) (n : Name) (i : ℕ) (y : Link) → slice_get links i ≡ Some y → linked links (entries ++ (n, i) ∷ []) ≡ linked links entries ++ y ∷ []
linked_push links entries n i y e = filter_map-append (λ (p : Name × ℕ). slice_get links p.1) entries ((n, i) ∷ []) ∙ rw e refl

pub keys_push : (entries : List (Name × ℕ)) (n : Name) (i : ℕ) → keys_of (entries ++ (n, i) ∷ []) ≡ keys_of entries ++ n ∷ []
keys_push entries n i = map-append (λ (p : Name × ℕ). p.0) entries ((n, i) ∷ [])

pub entries_push : (links : List Link) (entries : List (Name × ℕ)) (n : Name) (i : ℕ) → HasEntries links entries → slice_get (names name_of links) i ≡ Some n → HasEntries links (entries ++ (n, i) ∷ [])
entries_push links entries n i h e = all_more (λ (p : Name × ℕ). slice_get (names name_of links) p.1 ≡ Some p.0) entries (n, i) h e

pub in_links : (links : List Link) (i : ℕ) (y : Link) → slice_get links i ≡ Some y → IsIn y links
in_links links i y e = in_at links i y e

-- what follows, once y has connected
pub follow_next : (links placed new all : List Link) (y : Link) (n m : ℕ) → least name_of (filter (is_next name_of prev_of placed) links) ≡ Some y → new ≡ placed ++ y ∷ []
    → all ≡ placed ++ order_after name_of prev_of (length links) placed links → length (order_after name_of prev_of (length links) placed links) ≤ n - m → m < n
    → (all ≡ new ++ order_after name_of prev_of (length links) new links) × (length (order_after name_of prev_of (length links) new links) ≤ n - (m + 1))
follow_next links placed new all y n m chosen is so few below =
    let goes : order_after name_of prev_of (length links) placed links ≡ y ∷ order_after name_of prev_of (length links) (placed ++ y ∷ []) links = (connects_next name_of prev_of links placed).goes_on y chosen in
    let more : order_after name_of prev_of (length links) (placed ++ y ∷ []) links ≡ order_after name_of prev_of (length links) new links = ap (λ (l : List Link). order_after name_of prev_of (length links) l links) (sym is) in
    let long : length (order_after name_of prev_of (length links) placed links) ≡ suc (length (order_after name_of prev_of (length links) new links)) = ap (λ (l : List Link). length l) goes ∙ ap (λ (l : List Link). suc (length l)) more in (
      so ∙ ap (λ (l : List Link). placed ++ l) goes ∙ sym (append_assoc placed (y ∷ []) (order_after name_of prev_of (length links) (placed ++ y ∷ []) links))
          ∙ ap (λ (l : List Link). (placed ++ y ∷ []) ++ l) more ∙ ap (λ (l : List Link). l ++ order_after name_of prev_of (length links) new links) (sym is),
      omega (arith, few, long, below),
    )

-- nothing follows
pub follow_end : (links placed all : List Link) → least name_of (filter (is_next name_of prev_of placed) links) ≡ None
    → all ≡ placed ++ order_after name_of prev_of (length links) placed links → placed ≡ all
follow_end links placed all none so = sym (so ∙ ap (λ (l : List Link). placed ++ l) ((connects_next name_of prev_of links placed).ends none) ∙ append-nil placed)

pub follow_none : (placed all rest : List Link) → length rest ≤ 0 → all ≡ placed ++ rest → placed ≡ all
follow_none placed all [] h so = sym (so ∙ append-nil placed)
follow_none placed all (x ∷ xs) h so = absurd (omega (arith, h))

pub follow_short : (links placed : List Link) (n : ℕ) → length (order_after name_of prev_of n placed links) ≤ n
follow_short links placed zero = omega arith
follow_short links placed (suc n) = go (least name_of (filter (is_next name_of prev_of placed) links)) (λ x. follow_short links (placed ++ x ∷ []) n)
  where
    go : (o : Option Link) → ((x : Link) → length (order_after name_of prev_of n (placed ++ x ∷ []) links) ≤ n)
        → length (option_map_or (λ x. x ∷ order_after name_of prev_of n (placed ++ x ∷ []) links) o []) ≤ suc n
    go None more = omega arith
    go (Some x) more = omega (arith, more x)

pub no_keys : (keys : List Name) (o : Option Name) → o ≡ None → (is_some o ≡ true) ↔ (0 < length keys) → keys ≡ []
no_keys [] o e h = refl
no_keys (k ∷ ks) o e h = absurd (false≢true (sym (ap is_some e) ∙ h.1 (omega arith)))

pub held_within : (links : List Link) (i : ℕ) (n : Name) → slice_get (names name_of links) i ≡ Some n → i < length links
held_within links i n e = subst (λ k. i < k) (length-map links name_of) (get_within (names name_of links) i n e)

pub children_range : (links there : List Link) (m : Name) (places kept : List ℕ) → there ≡ links → places ≡ kept → kept ≡ child_places 0 links m → All (λ i. i < length there) places
children_range links there m places kept same are is =
    All-from_recursion (λ i. i < length there) places
    (subst (λ (l : List ℕ). AllByRecursion (λ i. i < length there) l) (sym (are ∙ is)) (child_bound 0 (length there) links m (omega (arith, ap (λ (l : List Link). length l) same))))

-- the link of a position
pub entry_at : (links : List Link) (entries : List (Name × ℕ)) (k i : ℕ) → HasEntries links entries → slice_get (map (λ (e : Name × ℕ). e.1) entries) k ≡ Some i
    → (y : Link) × (slice_get links i ≡ Some y) × (slice_get (linked links entries) k ≡ Some y)
entry_at links [] k i h e = absurd (let bad : ◌≡◌ {A = Option ℕ} None (Some i) = e in cc)
entry_at links (p ∷ ps) zero i h e =
    let same : p.1 ≡ i = cc in
    let y = named_at links p.1 p.0 h.0 in
    (y.0, subst (λ k. slice_get links k ≡ Some y.0) same y.1, rw y.1 refl)
entry_at links (p ∷ ps) (suc k) i h e =
    let y = named_at links p.1 p.0 h.0 in
    let z = entry_at links ps k i h.1 e in
    (z.0, z.1, rw y.1 z.2)
