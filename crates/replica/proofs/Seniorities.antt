-- How senior users are, found from the last link to the first; and the strikers with the seniority of their users.
use Rattle.std.proofs.Common.{◌≡◌, ℕ, zero, suc, ◌+◌, ◌<◌, ◌≤◌, Bool, true, false, cond, List, [], ◌∷◌, ◌++◌, Option, Some, None, IsSome, filter, map, length, take, drop, get_or, slice_get, unwrap_or, position, append-nil, refl, sym, ◌∙◌, ap, subst, inl, inr, arith}
use Rattle.std.specs.List.{cons_option}
use Rattle.std.proofs.lemmas.List.{map-append}
use Rattle.team_sets.specs.Names.{Name, same_name}
use Rattle.team_sets.specs.Ancestry.{height}
use Rattle.team_sets.specs.Members.{IsIn}
use Rattle.team_sets.specs.Order.{names}
use Rattle.team_sets.specs.OrderLaws.{IsSet}
use Rattle.team_sets.specs.Places.{least_place, lesser_place}
use Rattle.team_sets.proofs.Ancestors.{in_at}
use Rattle.team_sets.proofs.Lists.{filter_end}
use Rattle.settlement.specs.declared.striker.Striker.{Striker}
use Rattle.strikes.specs.Noted.{rank_of}
use Rattle.team_model.specs.Strikes.{brings_user, is_striking}
use Rattle.team_model.specs.Judging.{name_of, place_of, prev_of, strikers}
use Rattle.team_model.specs.declared.terms.Link.{Link}
use Rattle.link_graph.specs.Held.{arrived_of}
use Rattle.link_graph.specs.Positions.{at_places}
use Rattle.replica.specs.Settling.{AddsStriker, AllBrought, HasFirsts, IsRanked, NotesBringing, first_brought, place_in, position_of, striker_by, striker_of, striker_since}
use Rattle.link_graph.proofs.Arrived.{index_in}
use Rattle.replica.proofs.Places.{position_at, position_is}
use Rattle.link_graph.proofs.Picks.{drop_here, picked_more, take_next}

-- what stands at a place of a list of positions
pub place_got : (ps : List ℕ) (i d : ℕ) → i < length ps → slice_get ps i ≡ Some (get_or ps i d)
place_got [] i d h = absurd (omega (arith, h))
place_got (p ∷ ps) zero d h = refl
place_got (p ∷ ps) (suc i) d h = place_got ps i d (omega (arith, h))

-- the link at one of the places is one of these
pub at_place_in : (xs : List Link) (ps : List ℕ) (i p : ℕ) (x : Link) → slice_get ps i ≡ Some p → slice_get xs p ≡ Some x → IsIn x (at_places xs ps)
at_place_in xs [] i p x e f = absurd (let bad : ◌≡◌ {A = Option ℕ} None (Some p) = e in cc)
at_place_in xs (q ∷ qs) zero p x e f = let same : q ≡ p = cc in rw (same, f) (inl refl)
at_place_in xs (q ∷ qs) (suc i) p x e f = go (slice_get xs q) (at_place_in xs qs i p x e f)
  where
    go : (o : Option Link) → IsIn x (at_places xs qs) → IsIn x (cons_option o (at_places xs qs))
    go None k = k
    go (Some y) k = inr k

-- and each of these is one of all
pub of_places : (xs : List Link) (ps : List ℕ) (x : Link) → IsIn x (at_places xs ps) → IsIn x xs
of_places xs [] x k = absurd k
of_places xs (q ∷ qs) x k = go (slice_get xs q) refl k (of_places xs qs x)
  where
    go : (o : Option Link) → slice_get xs q ≡ o → IsIn x (cons_option o (at_places xs qs)) → (IsIn x (at_places xs qs) → IsIn x xs) → IsIn x xs
    go None e j more = more j
    go (Some y) e (inl same) more = subst (λ w. IsIn w xs) same (in_at xs q y e)
    go (Some y) e (inr j) more = more j

module _ (links : List Link) where
  -- with none noted
  pub firsts_none : (ps : List ℕ) (n : ℕ) → length ps ≤ n → HasFirsts links (at_places (arrived_of links) (drop n ps)) []
  firsts_none ps n h u = ap (λ l. first_brought links (at_places (arrived_of links) l) u) (sym (none ps n h))
    where
      none : (qs : List ℕ) (m : ℕ) → length qs ≤ m → drop m qs ≡ []
      none [] zero k = refl
      none [] (suc m) k = refl
      none (q ∷ qs) zero k = absurd (omega (arith, k))
      none (q ∷ qs) (suc m) k = none qs m (omega (arith, k))

  -- with one link more
  pub firsts_more : (ps : List ℕ) (k p : ℕ) (x : Link) (old new : List (Name × (ℕ × Name))) → slice_get ps k ≡ Some p → slice_get (arrived_of links) p ≡ Some x
      → HasFirsts links (at_places (arrived_of links) (drop (k + 1) ps)) old → NotesBringing links p old new → HasFirsts links (at_places (arrived_of links) (drop k ps)) new
  firsts_more ps k p x old new here at before notes u =
      notes x at u ∙ ap (λ r. cond (brings_user x.entry u) (lesser_place (place_of links x) r) r) (before u)
      ∙ choose (brings_user x.entry u) (filter (λ y. brings_user y.entry u) (at_places (arrived_of links) (drop (k + 1) ps)))
      ∙ sym (ap (λ l. first_brought links (at_places (arrived_of links) l) u) (drop_here ps k p here) ∙ ap (λ o. first_brought links (cons_option o (at_places (arrived_of links) (drop (k + 1) ps))) u) at)
    where
      choose : (b : Bool) (ys : List Link)
          → cond b (lesser_place (place_of links x) (least_place (map (place_of links) ys))) (least_place (map (place_of links) ys)) ≡ least_place (map (place_of links) (cond b (x ∷ ys) ys))
      choose true ys = refl
      choose false ys = refl

  -- the link brings nobody in
  pub brings_none : (p : ℕ) (x : Link) (old new : List (Name × (ℕ × Name))) → slice_get (arrived_of links) p ≡ Some x → ((u : Name) → brings_user x.entry u ≡ false) → new ≡ old → NotesBringing links p old new
  brings_none p x old new at none same y there u =
      let one : ◌≡◌ {A = Option Link} (Some x) (Some y) = sym at ∙ there in
      let link : x ≡ y = cc in
      ap (λ t. rank_of t u) same ∙ ap (λ b. cond b (lesser_place (place_of links y) (rank_of old u)) (rank_of old u)) (sym (ap (λ (w : Link). brings_user w.entry u) (sym link) ∙ none u))

  -- the link at a place has a ranked user
  pub ranked_at : (ps : List ℕ) (i p : ℕ) (table : List (Name × (ℕ × Name))) → slice_get ps i ≡ Some p
      → AllBrought links (at_places (arrived_of links) ps) → HasFirsts links (at_places (arrived_of links) ps) table → IsRanked links table p
  ranked_at ps i p table here brought firsts x at =
      let y = brought x (at_place_in (arrived_of links) ps i p x here at) in
      (y.0, of_places (arrived_of links) ps y.0 y.1, firsts x.entry.user ∙ y.2)

  -- one striker more
  module _ (ps : List ℕ) (i p : ℕ) (x : Link) (here : slice_get ps i ≡ Some p) (at : slice_get (arrived_of links) p ≡ Some x) where
    abbrev xs : List Link
    xs = at_places (arrived_of links) ps

    so_far : at_places (arrived_of links) (take (i + 1) ps) ≡ at_places (arrived_of links) (take i ps) ++ x ∷ []
    so_far = ap (λ l. at_places (arrived_of links) l) (take_next ps i p here) ∙ picked_more (arrived_of links) (take i ps) p x at

    more : (b : Bool) → is_striking x.entry.act ≡ b
        → map (striker_of links xs) (strikers links (at_places (arrived_of links) (take (i + 1) ps)))
        ≡ map (striker_of links xs) (strikers links (at_places (arrived_of links) (take i ps))) ++ cond b (striker_of links xs x ∷ []) []
    more true e =
        ap (λ l. map (striker_of links xs) (strikers links l)) so_far
        ∙ ap (λ l. map (striker_of links xs) l) (filter_end (λ y. is_striking y.entry.act) (at_places (arrived_of links) (take i ps)) x true e)
        ∙ map-append (striker_of links xs) (strikers links (at_places (arrived_of links) (take i ps))) (x ∷ [])
    more false e =
        ap (λ l. map (striker_of links xs) (strikers links l)) so_far
        ∙ ap (λ l. map (striker_of links xs) l) (filter_end (λ y. is_striking y.entry.act) (at_places (arrived_of links) (take i ps)) x false e
        ∙ append-nil (strikers links (at_places (arrived_of links) (take i ps))))
        ∙ sym (append-nil (map (striker_of links xs) (strikers links (at_places (arrived_of links) (take i ps)))))

    -- whether it strikes or not
    pub strikers_more : (table : List (Name × (ℕ × Name))) (old new : List Striker) → HasFirsts links xs table → old ≡ map (striker_of links xs) (strikers links (at_places (arrived_of links) (take i ps)))
        → AddsStriker links table p old new → new ≡ map (striker_of links xs) (strikers links (at_places (arrived_of links) (take (i + 1) ps)))
    strikers_more table old new firsts before adds = adds x at ∙ go (is_striking x.entry.act) refl
      where
        same : striker_by links table x ≡ striker_of links xs x
        same = ap (λ o. striker_since links (unwrap_or o (0, [])) x) (firsts x.entry.user)

        go : (b : Bool) → is_striking x.entry.act ≡ b → cond b (old ++ striker_by links table x ∷ []) old ≡ map (striker_of links xs) (strikers links (at_places (arrived_of links) (take (i + 1) ps)))
        go true e = ap (λ l. l ++ striker_by links table x ∷ []) before
            ∙ ap (λ a. map (striker_of links xs) (strikers links (at_places (arrived_of links) (take i ps))) ++ a ∷ []) same ∙ sym (more true e)
        go false e = before ∙ sym (more false e ∙ append-nil (map (striker_of links xs) (strikers links (at_places (arrived_of links) (take i ps)))))

  -- the place that a table has for the user of a link is that of a link that stands somewhere
  module _ (set : IsSet name_of links) (table : List (Name × (ℕ × Name))) (p : ℕ) (ranked : IsRanked links table p) (x : Link) (at : slice_get (arrived_of links) p ≡ Some x) where
    pub bringer_there : (since : ℕ × Name) → rank_of table x.entry.user ≡ Some since → (o : Option ℕ) → o ≡ position (same_name since.1) (names name_of (arrived_of links)) → IsSome o
    bringer_there since has o is =
        let y = ranked x at in
        let one : ◌≡◌ {A = Option (ℕ × Name)} (Some since) (Some (place_of links y.0)) = sym has ∙ y.2 in
        let place : since ≡ place_of links y.0 = cc in
        let i = index_in (arrived_of links) y.0 y.1 in
        let found : o ≡ Some i.0 = is ∙ ap (λ (q : ℕ × Name). position (same_name q.1) (names name_of (arrived_of links))) place ∙ position_at links set i.0 y.0 i.1 in
        rw found refl

    pub striker_is : (since : ℕ × Name) (by h : ℕ) → rank_of table x.entry.user ≡ Some since → position (same_name since.1) (names name_of (arrived_of links)) ≡ Some by → h ≡ height name_of prev_of links x
        → ◌≡◌ {A = Striker} (record { id = p; by = by; since = record { height = since.0; name = since.1 }; place = record { height = h; name = x.name } }) (striker_by links table x)
    striker_is since by h has found high = λ i. record {
      id = own i;
      by = made i;
      since = place_in (seen i);
      place = record { height = high i; name = x.name };
    }
      where
        own : p ≡ position_of links x.name
        own = sym (position_is links set p x at)

        seen : since ≡ unwrap_or (rank_of table x.entry.user) (0, [])
        seen = sym (ap (λ o. unwrap_or o (0, [])) has)

        made : by ≡ position_of links (unwrap_or (rank_of table x.entry.user) (0, [])).1
        made = sym (ap (λ o. unwrap_or o 0) found) ∙ ap (λ (q : ℕ × Name). position_of links q.1) seen
