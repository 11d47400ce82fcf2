-- What is found of the strikers among lawful links is what settlement says of them.
use Rattle.std.proofs.Common.{◌≡◌, ℕ, zero, suc, ◌+◌, ◌<◌, ◌≤◌, Bool, true, false, ◌||◌, ◌==◌, cond, List, [], ◌∷◌, ◌++◌, Option, Some, None, All, filter, map, get_or, slice_get, length, take, drop, add-one, refl, sym, ◌∙◌, ap, subst, inl, inr, arith}
use Rattle.std.specs.Option.{option_map_or}
use Rattle.std.proofs.lemmas.Bool.Decides.{nat_tests}
use Rattle.std.proofs.lemmas.List.{length-map, take_all}
use Rattle.team_sets.specs.Names.{Name, has_name, same_name}
use Rattle.team_sets.specs.Members.{IsIn}
use Rattle.team_sets.specs.Order.{names}
use Rattle.team_sets.specs.OrderLaws.{IsSet}
use Rattle.settlement.specs.Ranks.{decision_of}
use Rattle.settlement.specs.RankLaws.{RankIsBySeniority}
use Rattle.settlement.specs.declared.striker.Decision.{Decision}
use Rattle.settlement.specs.declared.striker.Striker.{Striker}
use Rattle.team_model.specs.Judging.{decision_in, name_of, standing_strikers, strikers, team_rules}
use Rattle.team_model.specs.declared.terms.Link.{Link}
use Rattle.team_model.specs.declared.terms.Reason.{Reason}
use Rattle.link_graph.specs.Held.{arrived_of}
use Rattle.link_graph.proofs.Names.{get_within}
use Rattle.link_graph.specs.Below.{AreMarked}
use Rattle.replica.specs.Settling.{AreActsOf, AreLawful, IsSettled, by_position, decided_at, is_between, is_standing, is_struck_at, position_of, standing_names, stands_at, striker_of}
use Rattle.replica.specs.Striking.{AreStrikes}
use Rattle.replica.specs.declared.settling.Settled.{Settled}
use Rattle.replica.proofs.Acts.{decisions_are, names_stood, of_acting, struck_is, there}
use Rattle.link_graph.proofs.Picks.{drop_here, some_at}

or_same : (a b c : Bool) → (a || (b || c)) ≡ ((a || b) || c)
or_same true b c = refl
or_same false b c = refl

-- one act more
names_next : (as_acts : List Striker) (ds : List Decision) (k : ℕ) (a : Striker) (d : Decision) → slice_get as_acts k ≡ Some a → slice_get ds k ≡ Some d
    → standing_names (take (k + 1) as_acts) (take (k + 1) ds) ≡ standing_names (take k as_acts) (take k ds) ++ standing_names (a ∷ []) (d ∷ [])
names_next [] ds k a d e f = absurd (let bad : ◌≡◌ {A = Option Striker} None (Some a) = e in cc)
names_next (b ∷ bs) [] k a d e f = absurd (let bad : ◌≡◌ {A = Option Decision} None (Some d) = f in cc)
names_next (b ∷ bs) (c ∷ cs) zero a d e f =
    let same : b ≡ a = cc in
    let alike : c ≡ d = cc in
    rw (same, alike) refl
names_next (b ∷ bs) (c ∷ cs) (suc k) a d e f = rw add-one (go (is_standing c) (rw add-one at (names_next bs cs k a d e f)))
  where
    go : (t : Bool) → standing_names (take (suc k) bs) (take (suc k) cs) ≡ standing_names (take k bs) (take k cs) ++ cond (is_standing d) (a.place.name ∷ []) []
        → cond t (b.place.name ∷ standing_names (take (suc k) bs) (take (suc k) cs)) (standing_names (take (suc k) bs) (take (suc k) cs))
        ≡ cond t (b.place.name ∷ standing_names (take k bs) (take k cs)) (standing_names (take k bs) (take k cs)) ++ cond (is_standing d) (a.place.name ∷ []) []
    go true h = ap (λ l. b.place.name ∷ l) h
    go false h = h

has_both : (ms ns : List Name) (a : Name) → has_name (ms ++ ns) a ≡ (has_name ms a || has_name ns a)
has_both [] ns a = refl
has_both (m ∷ ms) ns a = ap (λ b. same_name m a || b) (has_both ms ns a) ∙ or_same (same_name m a) (has_name ms a) (has_name ns a)

module _ (links : List Link) where
  pub marks_more : (as_acts : List Striker) (ds : List Decision) (k : ℕ) (a : Striker) (b : Bool) (old now new : List Bool) → slice_get as_acts k ≡ Some a → k < length ds → b ≡ stands_at ds k
      → AreMarked links (standing_names (take k as_acts) (take k ds)) old now → AreMarked links (cond b (a.place.name ∷ []) []) now new
      → AreMarked links (standing_names (take (k + 1) as_acts) (take (k + 1) ds)) old new
  marks_more as_acts ds k a b old now new e within stands before more i x at =
      let d = some_at ds k within in
      let is : b ≡ is_standing d.0 = stands ∙ ap (λ o. option_map_or is_standing o false) d.1 in
      more i x at ∙ ap (λ c. c || has_name (cond b (a.place.name ∷ []) []) x.name) (before i x at)
      ∙ ap (λ c. (get_or old i false || has_name (standing_names (take k as_acts) (take k ds)) x.name) || has_name (cond c (a.place.name ∷ []) []) x.name) is
      ∙ sym (or_same (get_or old i false) (has_name (standing_names (take k as_acts) (take k ds)) x.name) (has_name (standing_names (a ∷ []) (d.0 ∷ [])) x.name))
      ∙ ap (λ c. get_or old i false || c)
      (sym (ap (λ l. has_name l x.name) (names_next as_acts ds k a d.0 e d.1) ∙ has_both (standing_names (take k as_acts) (take k ds)) (standing_names (a ∷ []) (d.0 ∷ [])) x.name))

  -- where all were marked that are
  pub marks_all : (as_acts : List Striker) (ds : List Decision) (k : ℕ) (old new : List Bool) → length as_acts ≤ k → length ds ≤ k
      → AreMarked links (standing_names (take k as_acts) (take k ds)) old new → AreMarked links (standing_names as_acts ds) old new
  marks_all as_acts ds k old new h j are = subst (λ (l : List Decision). AreMarked links (standing_names as_acts l) old new) (take_all k ds j)
      (subst (λ (l : List Striker). AreMarked links (standing_names l (take k ds)) old new) (take_all k as_acts h) are)

-- an act of another position decides nothing of this one
pub decided_next : (p : ℕ) (as_acts : List Striker) (ds : List Decision) (k : ℕ) (a : Striker) → slice_get as_acts k ≡ Some a → k < length ds → (a.id ≡ p → ⊥)
    → decided_at p (drop (k + 1) as_acts) (drop (k + 1) ds) ≡ decided_at p (drop k as_acts) (drop k ds)
decided_next p as_acts ds k a e h other =
    let d = some_at ds k h in
    sym (rw (drop_here as_acts k a e, drop_here ds k d.0 d.1) (ap (λ b. cond b d.0 (decided_at p (drop (k + 1) as_acts) (drop (k + 1) ds))) (apart (a.id == p) refl)))
  where
    one : (a.id == p) ≡ true → a.id ≡ p
    one t = grind (arith, nat_tests)

    apart : (b : Bool) → (a.id == p) ≡ b → (a.id == p) ≡ false
    apart true t = absurd (other (one t))
    apart false t = t

module _ (links : List Link) (set_of : IsSet name_of links) (reasons : List (Option Reason)) (marked : List Bool) (strikes : List (ℕ × ℕ)) (are : AreStrikes links reasons strikes) where
  -- what is decided of the acts is what settlement decides of the links
  pub decided_as : RankIsBySeniority → (acts : List Striker) (pairs : List (ℕ × ℕ)) (decisions : List Decision) → pairs ≡ filter (is_between links marked) strikes
      → decisions ≡ map (decision_of pairs acts) acts → (xs : List Link) → AreActsOf links reasons marked xs acts
      → decisions ≡ map (λ x. by_position links (decision_in team_rules links xs x)) (strikers links xs)
  decided_as by_rank acts pairs decisions between settled xs of =
      settled ∙ ap (λ l. map (decision_of l acts) acts) between ∙ ap (λ l. map (decision_of (filter (is_between links marked) strikes) l) l) of.acts
      ∙ decisions_are links set_of reasons marked xs of.lawful strikes are by_rank

  -- what is found of the strikers is what settlement says
  pub is_settled : (xs : List Link) → AreLawful links reasons marked xs → (it : Settled) → it.acts.items ≡ map (striker_of links xs) (strikers links xs)
      → it.decisions.items ≡ map (λ x. by_position links (decision_in team_rules links xs x)) (strikers links xs)
      → length it.standing.items ≡ length (arrived_of links) → length it.struck.items ≡ length (arrived_of links)
      → ((i : ℕ) (x : Link) → slice_get (arrived_of links) i ≡ Some x → get_or it.standing.items i false ≡ has_name (standing_names it.acts.items it.decisions.items) x.name)
      → ((i : ℕ) → get_or it.struck.items i false ≡ is_struck_at strikes it.standing.items i) → IsSettled links xs it
  is_settled xs lawful it made decided size_standing size_struck stands strikes_told = record {
    acts = made;
    decisions = decided;
    sizes = record {
      decisions = ap length decided ∙ length-map (strikers links xs) (λ x. by_position links (decision_in team_rules links xs x))
          ∙ sym (ap length made ∙ length-map (strikers links xs) (striker_of links xs));
      standing = size_standing;
      struck = size_struck;
      acts = subst (λ (l : List Striker). All (λ a. a.id < length (arrived_of links)) l) (sym made) (within (strikers links xs) (λ x k. k));
    };
    standing = told;
    struck = λ i x at k. strikes_told i ∙ struck_is links set_of reasons marked xs lawful strikes are it.standing.items told i x at k;
  }
    where
      told : (i : ℕ) (x : Link) → slice_get (arrived_of links) i ≡ Some x → get_or it.standing.items i false ≡ has_name (names name_of (standing_strikers team_rules links xs)) x.name
      told i x at =
          stands i x at ∙ (λ j. has_name (standing_names (made j) (decided j)) x.name) ∙ names_stood links set_of reasons marked xs lawful x.name

      within : (ys : List Link) → ((y : Link) → IsIn y ys → IsIn y (strikers links xs)) → All (λ (a : Striker). a.id < length (arrived_of links)) (map (striker_of links xs) ys)
      within [] of i d h = absurd (omega (arith, h))
      within (y ∷ ys) of zero d h = get_within (arrived_of links) (position_of links y.name) y (there links set_of reasons marked xs lawful y (of_acting links set_of reasons marked xs lawful y (of y (inl refl))).0)
      within (y ∷ ys) of (suc i) d h = within ys (λ z k. of z (inr k)) i d (omega (arith, h))
