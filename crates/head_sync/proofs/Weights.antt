-- Each message that passes makes less of what is left of a meeting.
use Rattle.std.proofs.Common.{◌≡◌, ◌≤◌, ◌<◌, ◌+◌, ◌*◌, ◌⊎◌, inl, inr, ℕ, Bool, true, false, not, ◌&&◌, cond, List, [], ◌∷◌, ◌++◌, length, map, filter, Option, None, Some, is_none, refl, sym, ◌∙◌, ap, subst, length-append, arith}
use Rattle.std.proofs.lemmas.Bool.{and_parts, not-true}
use Rattle.std.proofs.lemmas.List.{length-map}
use Rattle.tg_text.specs.Limits.{most_links}
use Rattle.team_sets.specs.Names.{Name}
use Rattle.team_sets.proofs.Ancestors.{order-le}
use Rattle.team_model.specs.Judging.{name_of, order_of, prev_of}
use Rattle.team_model.specs.declared.terms.Link.{Link}
use Rattle.link_text.specs.LinkText.{text}
use Rattle.link_graph.specs.Below.{below_of, is_within}
use Rattle.link_graph.specs.Held.{Held}
use Rattle.head_sync.specs.Meetings.{Hears}
use Rattle.head_sync.specs.Messages.{Content, ask, done, give, hello, message_text}
use Rattle.head_sync.specs.Sessions.{Makes, Progress, after_hello, asked_for, asking, awaits, fits, gives, lacking}
use Rattle.head_sync.specs.Waiting.{IsLighter, TakesTurn, most_sent, work}
use Rattle.head_sync.proofs.HeldSets.{IsSoundHeld}

length_filter : (p : Link → Bool) (xs : List Link) → length (filter p xs) ≤ length xs
length_filter p [] = omega arith
length_filter p (x ∷ xs) = go (p x) (length_filter p xs)
  where
    go : (b : Bool) → length (filter p xs) ≤ length xs → length (cond b (x ∷ filter p xs) (filter p xs)) ≤ length (x ∷ xs)
    go true h = omega (arith, h)
    go false h = omega (arith, h)

length_gives : (team : Name) (now ts : List (List ℕ)) → length (gives team now ts) ≤ length ts + 1
length_gives team now [] = omega arith
length_gives team now (t ∷ ts) = go (fits now t) (length_gives team (now ++ t ∷ []) ts) (length_gives team (t ∷ []) ts)
  where
    go : (b : Bool) → length (gives team (now ++ t ∷ []) ts) ≤ length ts + 1 → length (gives team (t ∷ []) ts) ≤ length ts + 1
        → length (cond b (gives team (now ++ t ∷ []) ts) (message_text team (give true now) ∷ gives team (t ∷ []) ts)) ≤ length (t ∷ ts) + 1
    go true h k = omega (arith, h)
    go false h k = omega (arith, k)

-- no more texts are given than links are held
few_asked : (k : Held) (names marks : List Name) → IsSoundHeld k → length (asked_for k names marks) ≤ 16384
few_asked k names marks held =
    let same = length-map (below_of k.links names marks) text in
    let part = length_filter (λ x. is_within k.links names x && not (is_within k.links marks x)) (order_of k.links) in
    let whole = order-le name_of prev_of k.links in
    let few = held.few in
    omega (arith, same, part, whole, few)

-- what is done with a message leaves less to do, or nothing is sent
abbrev pub IsLess : Progress → Progress → List (List ℕ) → Type 0
IsLess s new sent = ((work new + 1 ≤ work s) × (length sent ≤ 16385)) ⊎ ((work new ≤ work s) × (sent ≡ []))

module _ (s new : Progress) (k kept : Held) (sent : List (List ℕ)) (held : IsSoundHeld k) where
  less : (c : Content) → awaits s c ≡ true → Makes s k c new kept sent → IsLess s new sent
  less (hello heads) turn made = go (lacking k heads) made.1 made.2
    where
      ungreeted : s.greeted ≡ false
      ungreeted = not-true s.greeted turn

      flag : (b : Bool) → cond b 1 0 ≤ 1
      flag true = omega arith
      flag false = omega arith

      go : (l : List Name) → new ≡ after_hello s k l → sent ≡ asking k l → IsLess s new sent
      go [] e m = inl (rw (e, ungreeted) (omega arith), rw m (omega arith))
      go (n ∷ ns) e m = inl (rw (e, ungreeted) (omega (arith, flag s.awaits_links)), rw m (omega arith))
  less (ask names marks) turn made =
      let few = length_gives k.team [] (asked_for k names marks) in
      let asked : s.asked ≡ false = not-true s.asked (and_parts s.greeted (not s.asked) turn).1 in
      inl (rw (made.1, asked) (omega arith), rw made.2 (omega (arith, few, few_asked k names marks held)))
  less (give true texts) turn made = inr (rw made.2 (omega arith), made.3)
  less (give false texts) turn made = inl (rw (made.2, turn) (omega arith), rw made.3 (omega arith))
  less (done heads) turn made = inl (rw made.1 (omega (arith, unheard)), rw made.2 (omega arith))
    where
      unheard : ◌≡◌ {A = ℕ} (cond (is_none s.ends.heard) 1 0) 1
      unheard = ap (λ (b : Bool). cond {A = ℕ} b 1 0) (and_parts s.greeted (is_none s.ends.heard) turn).1

  hears_less : (bytes : List ℕ) → Hears s k bytes new kept sent → IsLess s new sent
  hears_less bytes (inl t) = less t.content t.awaited t.makes
  hears_less bytes (inr r) = inr (rw r.1 (omega arith), r.3)

pub turn_lighter : (s new : Progress) (k kept : Held) (inbox left box boxed passed : List (List ℕ)) → IsSoundHeld k → TakesTurn s k inbox new kept left box boxed passed
    → IsLighter s inbox new left box boxed passed
turn_lighter s new k kept [] left box boxed passed held t = rw (t.0, t.2, t.3, t.4) (omega arith)
turn_lighter s new k kept (m ∷ ms) left box boxed passed held (sent, hears, l, b, p) = go (hears_less s new k kept sent held m hears)
  where
    size : length boxed ≡ length box + length sent
    size = ap length b ∙ length-append box sent

    go : IsLess s new sent → IsLighter s (m ∷ ms) new left box boxed passed
    go (inl h) = let x = h.0 in let y = h.1 in rw (l, p) (omega (arith, size, x, y))
    go (inr h) = let x = h.0 in let y = ap length h.1 in rw (l, p) (omega (arith, size, x, y))
