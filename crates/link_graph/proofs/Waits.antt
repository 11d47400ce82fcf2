-- A link waits exactly where it may not connect when it comes.
use Rattle.std.proofs.Common.{◌≡◌, ◌↔◌, ◌<◌, ◌-◌, ℕ, Bool, true, false, ◌||◌, List, [], ◌∷◌, ◌++◌, refl, sym, ◌∙◌, ap, subst, length, length-append, arith}
use Rattle.std.specs.List.{list_all, range_with_len}
use Rattle.std.specs.Cmp.Lexicographic.{bytes_decides}
use Rattle.std.proofs.lemmas.Bool.{false_from_ne_true, false≢true, and_parts, le-ltb, lt-ltb, or_right}
use Rattle.std.proofs.lemmas.List.{length_push, map-append}
use Rattle.team_sets.specs.Names.{Name, same_name, has_name}
use Rattle.team_sets.specs.Members.{IsIn}
use Rattle.team_sets.specs.Order.{is_next, names, order_after}
use Rattle.team_sets.specs.OrderLaws.{IsSet}
use Rattle.team_sets.proofs.Arrivals.{arrived_arranged, arrived_extends}
use Rattle.team_sets.proofs.Pasts.{all_at, one_named}
use Rattle.team_sets.proofs.Parts.{name_in}
use Rattle.team_model.specs.Judging.{name_of, prev_of}
use Rattle.team_model.specs.declared.terms.Link.{Link}
use Rattle.link_graph.specs.Held.{answer_of, arrived_of, took_of}
use Rattle.link_graph.specs.Waiting.{WaitsForParents, WaitsWhereUnconnected}
use Rattle.link_graph.specs.declared.took.Took.{Took}
use Rattle.link_graph.specs.declared.took.Took.TheVariants.{New, Waiting}
use Rattle.link_graph.proofs.NextOnes.{has_push}
use Rattle.link_graph.proofs.Webbing.{set_parts}

waits_same : (n : ℕ) → took_of n n ≡ Waiting
waits_same n = rw (le-ltb n n (omega arith)) refl

waits_not : (before now : ℕ) → before < now → ¬ (took_of before now ≡ Waiting)
waits_not before now less e =
    let new : took_of before now ≡ New (range_with_len before (now - before)) = rw (lt-ltb before now less) refl in
    absurd (let bad : ◌≡◌ {A = Took} (New (range_with_len before (now - before))) Waiting = sym new ∙ e in cc)

all_more : (old new : List Name) (ms : List Name) → ((n : Name) → has_name old n ≡ true → has_name new n ≡ true) → list_all (has_name old) ms ≡ true → list_all (has_name new) ms ≡ true
all_more old new [] more h = refl
all_more old new (m ∷ ms) more h =
    let parts = and_parts (has_name old m) (list_all (has_name old) ms) h in
    rw (more m parts.0) (all_more old new ms more parts.1)

has_front : (xs ys : List Name) (n : Name) → has_name xs n ≡ true → has_name (xs ++ ys) n ≡ true
has_front [] ys n h = absurd (false≢true h)
has_front (x ∷ xs) ys n h = go (same_name x n) h (has_front xs ys n)
  where
    go : (b : Bool) → (b || has_name xs n) ≡ true → (has_name xs n ≡ true → has_name (xs ++ ys) n ≡ true) → (b || has_name (xs ++ ys) n) ≡ true
    go true e more = refl
    go false e more = more e

module _ (links : List Link) (l : Link) (set : IsSet name_of (links ++ l ∷ [])) where
  fresh : has_name (names name_of links) l.name ≡ false
  fresh = (set_parts links l set).1

  -- it isn't connected before it comes
  unheld : has_name (names name_of (arrived_of links)) l.name ≡ false
  unheld = false_from_ne_true (has_name (names name_of (arrived_of links)) l.name) (λ h.
      let y = one_named name_of (arrived_of links) l.name h in
      let there : IsIn y.0 links = all_at (λ x. IsIn x links) (arrived_of links) (arrived_arranged name_of prev_of links).of_links y.0 y.1 in
      false≢true (sym fresh ∙ subst (λ (n : Name). has_name (names name_of links) n ≡ true) y.2 (name_in name_of prev_of links y.0 there y.0.name refl)))

  -- where its parents are connected, it connects
  connects : list_all (has_name (names name_of (arrived_of links))) l.prev ≡ true
      → (has_name (names name_of (arrived_of (links ++ l ∷ []))) l.name ≡ true) × (list_all (has_name (names name_of (arrived_of (links ++ l ∷ [])))) l.prev ≡ true)
      × (length (arrived_of links) < length (arrived_of (links ++ l ∷ [])))
  connects all =
      let next : is_next name_of prev_of (arrived_of links) l ≡ true = rw (unheld, all) refl in
      let rest = order_after name_of prev_of (length (links ++ l ∷ [])) (arrived_of links ++ l ∷ []) (links ++ l ∷ []) in
      let is : arrived_of (links ++ l ∷ []) ≡ (arrived_of links ++ l ∷ []) ++ rest = (arrived_extends name_of prev_of links l).connects next in
      let own : has_name (names name_of (arrived_of links ++ l ∷ [])) l.name ≡ true =
      ap (λ (ns : List Name). has_name ns l.name) (map-append name_of (arrived_of links) (l ∷ [])) ∙ has_push (names name_of (arrived_of links)) l.name l.name
      ∙ or_right (has_name (names name_of (arrived_of links)) l.name) (same_name l.name l.name) ((bytes_decides l.name l.name).1 refl) in
      let named : names name_of (arrived_of (links ++ l ∷ [])) ≡ names name_of (arrived_of links ++ l ∷ []) ++ names name_of rest =
      ap (λ (xs : List Link). names name_of xs) is ∙ map-append name_of (arrived_of links ++ l ∷ []) rest in
      let front : names name_of (arrived_of links ++ l ∷ []) ≡ names name_of (arrived_of links) ++ l.name ∷ [] = map-append name_of (arrived_of links) (l ∷ []) in
      let long = ap (λ (xs : List Link). length xs) is in
      let parts = length-append (arrived_of links ++ l ∷ []) rest in
      let one = length_push (arrived_of links) l in (
        rw named (has_front (names name_of (arrived_of links ++ l ∷ [])) (names name_of rest) l.name own),
        rw named (all_more (names name_of (arrived_of links)) (names name_of (arrived_of links ++ l ∷ []) ++ names name_of rest) l.prev
            (λ n h. has_front (names name_of (arrived_of links ++ l ∷ [])) (names name_of rest) n (rw front (has_front (names name_of (arrived_of links)) (l.name ∷ []) n h))) all),
        omega (arith, long, parts, one),
      )

  -- else nothing connects
  stays : list_all (has_name (names name_of (arrived_of links))) l.prev ≡ false → arrived_of (links ++ l ∷ []) ≡ arrived_of links
  stays some = (arrived_extends name_of prev_of links l).waits (rw (unheld, some) refl)

  by_parents : (P Q : Type 0) → (list_all (has_name (names name_of (arrived_of links))) l.prev ≡ true → (¬ P) × (¬ Q)) → (list_all (has_name (names name_of (arrived_of links))) l.prev ≡ false → P × Q) → P ↔ Q
  by_parents P Q yes_so no_so = go (list_all (has_name (names name_of (arrived_of links))) l.prev) refl
    where
      go : (b : Bool) → list_all (has_name (names name_of (arrived_of links))) l.prev ≡ b → P ↔ Q
      go true e = let h = yes_so e in (λ p. absurd (h.0 p), λ q. absurd (h.1 q))
      go false e = let h = no_so e in (λ p. h.1, λ q. h.0)

  answer_waits : list_all (has_name (names name_of (arrived_of links))) l.prev ≡ false → answer_of links (links ++ l ∷ []) ≡ Waiting
  answer_waits some = ap (λ (xs : List Link). took_of (length (arrived_of links)) (length xs)) (stays some) ∙ waits_same (length (arrived_of links))

pub waits_parents : WaitsForParents
waits_parents links l set =
    by_parents links l set (answer_of links (links ++ l ∷ []) ≡ Waiting) (list_all (has_name (names name_of (arrived_of (links ++ l ∷ [])))) l.prev ≡ false)
    (λ all. let c = connects links l set all in (waits_not (length (arrived_of links)) (length (arrived_of (links ++ l ∷ []))) c.2, λ e. false≢true (sym e ∙ c.1)))
    (λ some. (answer_waits links l set some, ap (λ (xs : List Link). list_all (has_name (names name_of xs)) l.prev) (stays links l set some) ∙ some))

pub waits_unconnected : WaitsWhereUnconnected
waits_unconnected links l set =
    by_parents links l set (answer_of links (links ++ l ∷ []) ≡ Waiting) (has_name (names name_of (arrived_of (links ++ l ∷ []))) l.name ≡ false)
    (λ all. let c = connects links l set all in (waits_not (length (arrived_of links)) (length (arrived_of (links ++ l ∷ []))) c.2, λ e. false≢true (sym e ∙ c.0)))
    (λ some. (answer_waits links l set some, ap (λ (xs : List Link). has_name (names name_of xs) l.name) (stays links l set some) ∙ unheld links l set))
