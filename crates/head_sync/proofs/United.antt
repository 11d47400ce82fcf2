-- A meeting makes of what an end holds the union of it and of what is connected at the other.
use Rattle.std.proofs.Common.{◌≡◌, ◌⊎◌, inl, inr, ◌&&◌, not, ℕ, true, List, [], ◌∷◌, map, refl, sym, ◌∙◌, ap, subst}
use Rattle.team_sets.specs.Names.{Name}
use Rattle.team_sets.specs.Members.{IsIn}
use Rattle.team_sets.proofs.Ancestors.{in_links}
use Rattle.team_sets.proofs.Distinct.{distinct-differ}
use Rattle.team_sets.proofs.OrderLeast.{of_filter}
use Rattle.team_sets.proofs.Pasts.{all_at, one_named}
use Rattle.team_model.specs.Judging.{name_of, order_of, prev_of}
use Rattle.team_model.specs.declared.terms.Link.{Link}
use Rattle.link_text.specs.LinkText.{IsValid, LinkIsSpelledOnce, Reads, text}
use Rattle.link_graph.specs.Below.{below_of, is_connected, is_within}
use Rattle.link_graph.specs.Heads.{heads_of}
use Rattle.link_graph.specs.Held.{Held}
use Rattle.link_graph.specs.Taking.{HasText}
use Rattle.team_files.specs.declared.item.Item.{Item}
use Rattle.team_files.specs.declared.item.Item.TheVariants.{Text}
use Rattle.link_intake.specs.UnionLaws.{Fits, HasItem, IsAmong, IsUnion, IsValidText, NoClash}
use Rattle.link_intake.proofs.Unions.{clash_within, fits_within, items_union}
use Rattle.head_sync.specs.MeetLaws.{IsConnectedText, IsExchanged, MeetingUnites, Unites, exchanged}
use Rattle.head_sync.specs.Sessions.{lacking}
use Rattle.head_sync.proofs.Asked.{meeting_exchanges}
use Rattle.head_sync.proofs.Exchanged.{given_or_connected}
use Rattle.head_sync.proofs.HeldSets.{IsSoundHeld}

same_text : (a b : List ℕ) → ◌≡◌ {A = Item} (Text a) (Text b) → a ≡ b
same_text a b e = let same : ◌≡◌ {A = Item} (Text a) (Text b) = e in cc

-- a text that is given is that of a link
link_given : (xs : List Link) (b : List ℕ) → HasItem (map Text (map text xs)) b → (x : Link) × IsIn x xs × (text x ≡ b)
link_given [] b k = absurd k
link_given (x ∷ xs) b (inl e) = (x, inl refl, same_text (text x) b e)
link_given (x ∷ xs) b (inr k) = let r = link_given xs b k in (r.0, inr r.1, r.2)

given_link : (xs : List Link) (x : Link) → IsIn x xs → HasItem (map Text (map text xs)) (text x)
given_link [] x k = absurd k
given_link (y ∷ xs) x (inl e) = inl (ap (λ (l : Link). Text (text l)) e)
given_link (y ∷ xs) x (inr k) = inr (given_link xs x k)

module _ (once : LinkIsSpelledOnce) (k m kept : Held) (hk : IsSoundHeld k) (hm : IsSoundHeld m) (team : k.team ≡ m.team) (refused : ℕ) (is : IsExchanged k m kept refused)
    (apart : NoClash k (IsConnectedText m)) (fits : Fits k (IsConnectedText m)) where
  abbrev Given : List ℕ → Type 0
  Given = HasItem (map Text (exchanged k m))

  abbrev given_links : List Link
  given_links = below_of m.links (lacking k (heads_of m.links)) (heads_of k.links)

  connected_given : (b : List ℕ) → Given b → IsConnectedText m b
  connected_given b g =
      let x = link_given given_links b g in
      let test = λ (z : Link). is_within m.links (lacking k (heads_of m.links)) z && not (is_within m.links (heads_of k.links) z) in
      (x.0, (of_filter test x.0 (order_of m.links) x.1).0, x.2)

  among : (b : List ℕ) → IsAmong k Given b → IsAmong k (IsConnectedText m) b
  among b (inl h) = inl h
  among b (inr g) = inr (connected_given b g)

  union : IsUnion k Given kept
  union = items_union once k kept (map Text (exchanged k m)) is.0 hk (clash_within k k (IsConnectedText m) Given refl among apart) (fits_within k k (IsConnectedText m) Given refl among fits) is.1

  valid_at : (h : Held) → IsSoundHeld h → (x : Link) → IsIn x h.links → IsValid h.team (text x) x
  valid_at h sound x j = all_at (λ l. IsValid h.team (text l) l) h.links sound.valid x j

  placed_in : (x : Link) → IsIn x (order_of m.links) → IsIn x m.links
  placed_in x j = in_links name_of prev_of m.links (distinct-differ name_of m.links hm.set) x j

  -- links of one name are one
  same : (l o : Link) → IsIn l k.links → IsIn o (order_of m.links) → l.name ≡ o.name → l ≡ o
  same l o i j e =
      let v = valid_at k hk l i in
      let w = valid_at m hm o (placed_in o j) in
      let its : IsValid k.team (text o) o = subst (λ (t : Name). IsValid t (text o) o) (sym team) w in
      let texts = apart (text l) (text o) l o (inl (l, i, refl)) (inr (o, j, refl)) v its e in
      once (text l) l o v.reads (subst (λ (t : List ℕ). Reads t o) (sym texts) w.reads)

  forth : (b : List ℕ) → HasText kept.links b → HasText k.links b ⊎ (IsConnectedText m b × IsValidText k.team b)
  forth b h = go ((union.texts b).0 h)
    where
      go : HasText k.links b ⊎ (Given b × IsValidText k.team b) → HasText k.links b ⊎ (IsConnectedText m b × IsValidText k.team b)
      go (inl i) = inl i
      go (inr g) = inr (connected_given b g.0, g.1)

  back : (b : List ℕ) → HasText k.links b ⊎ (IsConnectedText m b × IsValidText k.team b) → HasText kept.links b
  back b (inl h) = (union.texts b).1 (inl h)
  back b (inr c) = go (given_or_connected k m hk hm same c.0.0 c.0.1)
    where
      go : (is_connected k.links c.0.0.name ≡ true) ⊎ IsIn c.0.0 given_links → HasText kept.links b
      go (inl there) =
          let y = one_named name_of (order_of k.links) c.0.0.name there in
          let held = in_links name_of prev_of k.links (distinct-differ name_of k.links hk.set) y.0 y.1 in
          (union.texts b).1 (inl (y.0, held, ap text (same y.0 c.0.0 held c.0.1 y.2) ∙ c.0.2))
      go (inr given) = (union.texts b).1 (inr (subst Given c.0.2 (given_link given_links c.0.0 given), c.1))

  pub united : IsUnion k (IsConnectedText m) kept
  united = record { team = union.team; texts = λ b. (forth b, back b); held = union.held }

pub meeting_unites : LinkIsSpelledOnce → MeetingUnites
meeting_unites once k m kept other met hk hm team is =
    let both = meeting_exchanges k m kept other met hk hm team is in
    (united once k m kept hk hm team met.refused_by_first both.0, united once m k other hm hk (sym team) met.refused_by_second both.1)
