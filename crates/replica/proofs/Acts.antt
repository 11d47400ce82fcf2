-- The strikers among lawful links, seen as acts by their positions, are settled as the links are.
use Rattle.std.proofs.Common.{◌≡◌, ◌≢◌, ℕ, zero, suc, ◌<◌, Bool, true, false, ◌&&◌, ◌||◌, ◌==◌, cond, nat_eq, List, [], ◌∷◌, Option, Some, None, All, filter, map, get_or, slice_get, length, unwrap_or, refl, sym, ◌∙◌, ap, subst, inl, inr, arith}
use Rattle.std.specs.List.{AllByRecursion, IsDistinct, list_any}
use Rattle.std.specs.Option.{option_map_or}
use Rattle.std.specs.Ordering.{eq_by_cmp, is_eq, nat_cmp, ordering_then}
use Rattle.std.specs.Cmp.Lexicographic.{bytes_decides, nat_list_eq_equiv, slice_cmp}
use Rattle.std.specs.FinMap.{nat_cmp-IsAntisymmetric, slice_cmp-IsAntisymmetric}
use Rattle.std.specs.declared.cmp.Ordering.{Ordering}
use Rattle.std.specs.declared.cmp.Ordering.TheVariants.{Less, Equal, Greater}
use Rattle.std.proofs.lemmas.Bool.{false≢true, and_from, and_parts}
use Rattle.std.proofs.lemmas.Bool.Decides.{nat_tests}
use Rattle.sha2.specs.Sha256.{sha256}
use Rattle.team_sets.specs.Names.{Name, has_name}
use Rattle.team_sets.specs.Members.{IsIn}
use Rattle.team_sets.specs.Ancestry.{are_concurrent}
use Rattle.team_sets.specs.Order.{names}
use Rattle.team_sets.specs.OrderLaws.{IsSet}
use Rattle.team_sets.specs.Settlement.{Decided, stands, struck, lost}
use Rattle.team_sets.specs.SettlementLaws.{StandsAsDecided}
use Rattle.team_sets.proofs.Agree.{any_in}
use Rattle.team_sets.proofs.Ancestors.{in_at}
use Rattle.team_sets.proofs.Decisions.{stands_as_decided}
use Rattle.team_sets.proofs.Distinct.{apart}
use Rattle.team_sets.proofs.OrderLeast.{in_filter, of_filter}
use Rattle.team_sets.proofs.Parts.{name_in}
use Rattle.team_sets.proofs.Pasts.{any_of, one_named}
use Rattle.team_sets.proofs.SameSet.{same_bools, set-filter}
use Rattle.acts.specs.declared.entry.Act.{Act}
use Rattle.acts.specs.declared.entry.Act.TheVariants.{RemoveMember, TakeRole, RemoveDevice}
use Rattle.acts.specs.declared.entry.Entry.{Entry}
use Rattle.settlement.specs.Ranks as ranks
use Rattle.settlement.specs.Ranks.{AreStrikers, by_id, decision_of, has_pair, place_cmp}
use Rattle.settlement.specs.RankLaws.{RankIsBySeniority}
use Rattle.settlement.specs.declared.striker.Decision.{Decision}
use Rattle.settlement.specs.declared.striker.Striker.{Striker}
use Rattle.team_model.specs.Strikes.{act_strikes, is_striking, strikes_by}
use Rattle.team_model.specs.Judging.{decision_in, is_senior, name_of, place_of, prev_of, seniority, standing_strikers, strikers, strikes_in, team_rules}
use Rattle.team_model.specs.declared.terms.Link.{Link}
use Rattle.team_model.specs.declared.terms.Reason.{Reason}
use Rattle.link_graph.specs.Held.{arrived_of}
use Rattle.replica.specs.Judged.{is_lawful_at}
use Rattle.replica.specs.Settling.{AreLawful, by_position, is_between, is_standing, is_struck_at, place_in, position_of, standing_names, striker_of}
use Rattle.replica.specs.Striking.{AreStrikes, link_strikes, strikes_any}
use Rattle.link_graph.proofs.Arrived.{differ, to_links}
use Rattle.replica.proofs.Mapped.{MapsAlike, decision-mapped, map_decided}
use Rattle.replica.proofs.Noting.{own_not}
use Rattle.replica.proofs.Places.{link_there, position_is}

numbers_one : (a b : ℕ) → nat_eq a b ≡ true → a ≡ b
numbers_one a b e = grind (arith, nat_tests)

own_number : (a : ℕ) → nat_eq a a ≡ true
own_number a = grind (arith, nat_tests)

is_false : (b : Bool) → (b ≡ true → ⊥) → b ≡ false
is_false true h = absurd (h refl)
is_false false h = refl

in_map : {A B : Type 0} (f : A → B) (xs : List A) (x : A) → IsIn x xs → IsIn (f x) (map f xs)
in_map f [] x k = absurd k
in_map f (y ∷ ys) x (inl e) = inl (ap f e)
in_map f (y ∷ ys) x (inr k) = inr (in_map f ys x k)

of_map : {A B : Type 0} (f : A → B) (xs : List A) (y : B) → IsIn y (map f xs) → (x : A) × IsIn x xs × (f x ≡ y)
of_map f [] y k = absurd k
of_map f (x ∷ xs) y (inl e) = (x, inl refl, e)
of_map f (x ∷ xs) y (inr k) = let r = of_map f xs y k in (r.0, inr r.1, r.2)

all_filtered : {A : Type 0} (P : A → Type 0) (t : A → Bool) (xs : List A) → ((x : A) → IsIn x xs → t x ≡ true → P x) → All P (filter t xs)
all_filtered {A = A} P t xs h i d less = let k = of_filter t (get_or (filter t xs) i d) xs (in_get (filter t xs) i d less) in h (get_or (filter t xs) i d) k.0 k.1
  where
    in_get : (ys : List A) (i : ℕ) (d : A) → i < length ys → IsIn (get_or ys i d) ys
    in_get [] i d less = absurd (omega (arith, less))
    in_get (y ∷ ys) zero d less = inl refl
    in_get (y ∷ ys) (suc i) d less = inr (in_get ys i d (omega (arith, less)))

-- a pair that is left passes the test
has_filtered : (t : ℕ × ℕ → Bool) (ps : List (ℕ × ℕ)) (a b : ℕ) → has_pair (filter t ps) a b ≡ (t (a, b) && has_pair ps a b)
has_filtered t [] a b = sym (none (t (a, b)))
  where
    none : (c : Bool) → (c && false) ≡ false
    none true = refl
    none false = refl
has_filtered t (p ∷ ps) a b = go (t p) refl ((p.0 == a) && (p.1 == b)) refl (t (a, b)) refl (has_filtered t ps a b)
  where
    same : ((p.0 == a) && (p.1 == b)) ≡ true → t p ≡ t (a, b)
    same e =
        let parts = and_parts (p.0 == a) (p.1 == b) e in
        let one : p.0 ≡ a = numbers_one p.0 a parts.0 in
        let two : p.1 ≡ b = numbers_one p.1 b parts.1 in
        λ i. t (one i, two i)

    go : (c : Bool) → t p ≡ c → (m : Bool) → ((p.0 == a) && (p.1 == b)) ≡ m → (d : Bool) → t (a, b) ≡ d → has_pair (filter t ps) a b ≡ (t (a, b) && has_pair ps a b)
        → has_pair (cond c (p ∷ filter t ps) (filter t ps)) a b ≡ (t (a, b) && (((p.0 == a) && (p.1 == b)) || has_pair ps a b))
    go true e true m true g more = rw (m, g) refl
    go true e true m false g more = absurd (false≢true (sym g ∙ sym (same m) ∙ e))
    go true e false m d g more = rw m more
    go false e true m true g more = absurd (false≢true (sym e ∙ same m ∙ g))
    go false e true m false g more = rw g (rw g at more)
    go false e false m d g more = rw m more

-- what strikes is a striker
act_striking : (a : Act) (y : Entry) → act_strikes sha256 a y ≡ true → is_striking a ≡ true
act_striking (RemoveMember user) y h = refl
act_striking (TakeRole user role) y h = refl
act_striking (RemoveDevice user id) y h = refl
act_striking _ y h = absurd (false≢true h)

equal : (o : Ordering) → is_eq o ≡ true → o ≡ Equal
equal Less e = absurd (false≢true e)
equal Equal e = refl
equal Greater e = absurd (false≢true e)

last_equal : (r s : Ordering) → ordering_then r s ≡ Equal → s ≡ Equal
last_equal Less s h = absurd (false≢true (ap is_eq h))
last_equal Equal s h = h
last_equal Greater s h = absurd (false≢true (ap is_eq h))

module _ (links : List Link) (set : IsSet name_of links) (reasons : List (Option Reason)) (marked : List Bool) (xs : List Link) (lawful : AreLawful links reasons marked xs) where
  abbrev acting : List Link
  acting = strikers links xs

  abbrev as_act : Link → Striker
  as_act x = striker_of links xs x

  abbrev decided : Link → Decision
  decided x = by_position links (decision_in team_rules links xs x)

  abbrev stood : List Link
  stood = standing_strikers team_rules links xs

  pub of_acting : (x : Link) → IsIn x acting → IsIn x xs × (is_striking x.entry.act ≡ true)
  of_acting x k = of_filter (λ y. is_striking y.entry.act) x xs k

  pub there : (x : Link) → IsIn x xs → slice_get (arrived_of links) (position_of links x.name) ≡ Some x
  there x k = link_there links set x (lawful.connected x k)

  picked : (x : Link) → IsIn x xs → (get_or marked (position_of links x.name) false ≡ true) × (is_lawful_at reasons (position_of links x.name) ≡ true)
  picked x k = and_parts (get_or marked (position_of links x.name) false) (is_lawful_at reasons (position_of links x.name)) ((lawful.picked (position_of links x.name) x (there x k)).0 k)

  -- one position is of one link
  one_link : (x y : Link) → IsIn x xs → IsIn y xs → position_of links x.name ≡ position_of links y.name → x ≡ y
  one_link x y k j e =
      let same : ◌≡◌ {A = Option Link} (Some x) (Some y) = sym (there x k) ∙ ap (λ p. slice_get (arrived_of links) p) e ∙ there y j in cc

  link_strikes_is : (a b : ℕ) (x y : Link) → slice_get (arrived_of links) a ≡ Some x → slice_get (arrived_of links) b ≡ Some y → link_strikes links a b ≡ strikes_in links x y
  link_strikes_is a b x y e f =
      ap (λ o. option_map_or (λ v. option_map_or (λ w. strikes_in links v w) (slice_get (arrived_of links) b) false) o false) e ∙ ap (λ o. option_map_or (λ w. strikes_in links x w) o false) f

  -- what settlement says of the links
  decides : StandsAsDecided (is_senior links xs) (strikes_in links) acting
  decides = stands_as_decided (is_senior links xs) (strikes_in links) acting

  not_own : (x : Link) → (strikes_in links x x || strikes_in links x x) ≡ false
  not_own x = rw (nat_list_eq_equiv.refl x.name) refl

  of_stood : (x : Link) → IsIn x stood → IsIn x acting
  of_stood x k = decides.members x k

  standing_is : (d : Decided Link) → is_standing (by_position links d) ≡ true → d ≡ stands
  standing_is stands e = refl
  standing_is (struck s) e = absurd (false≢true e)
  standing_is (lost s) e = absurd (false≢true e)

  -- the names of the acts that are decided to stand
  pub names_stood : (n : Name) → has_name (standing_names (map as_act acting) (map decided acting)) n ≡ has_name (names name_of stood) n
  names_stood n =
      ap (λ l. has_name l n) (each acting)
      ∙ same_bools (has_name (names name_of (filter (λ x. is_standing (decided x)) acting)) n) (has_name (names name_of stood) n) forth back
    where
      each : (ys : List Link) → standing_names (map as_act ys) (map decided ys) ≡ names name_of (filter (λ x. is_standing (decided x)) ys)
      each [] = refl
      each (y ∷ ys) = go (is_standing (decided y)) (each ys)
        where
          go : (b : Bool) → standing_names (map as_act ys) (map decided ys) ≡ names name_of (filter (λ x. is_standing (decided x)) ys)
              → cond b (y.name ∷ standing_names (map as_act ys) (map decided ys)) (standing_names (map as_act ys) (map decided ys))
              ≡ names name_of (cond b (y ∷ filter (λ x. is_standing (decided x)) ys) (filter (λ x. is_standing (decided x)) ys))
          go true e = ap (λ l. y.name ∷ l) e
          go false e = e

      forth : has_name (names name_of (filter (λ x. is_standing (decided x)) acting)) n ≡ true → has_name (names name_of stood) n ≡ true
      forth h =
          let y = one_named name_of (filter (λ x. is_standing (decided x)) acting) n h in
          let of = of_filter (λ x. is_standing (decided x)) y.0 acting y.1 in
          name_in name_of prev_of stood y.0 (decides.stays y.0 of.0 (standing_is (decision_in team_rules links xs y.0) of.1)) n y.2

      back : has_name (names name_of stood) n ≡ true → has_name (names name_of (filter (λ x. is_standing (decided x)) acting)) n ≡ true
      back h =
          let y = one_named name_of stood n h in
          let of = of_stood y.0 y.1 in
          let is : decision_in team_rules links xs y.0 ≡ stands = (decides.decided (λ x k. not_own x) y.0 of).1 y.1 in
          name_in name_of prev_of (filter (λ x. is_standing (decided x)) acting) y.0 (in_filter (λ x. is_standing (decided x)) y.0 acting of (ap (λ d. is_standing (by_position links d)) is)) n y.2

  -- a connected link with the name of one that stands is that one
  is_stood : (x : Link) → IsIn x (arrived_of links) → has_name (names name_of stood) x.name ≡ true → IsIn x stood
  is_stood x k h =
      let y = one_named name_of stood x.name h in
      subst (λ z. IsIn z stood)
      (differ links set y.0 x (to_links links set y.0 (lawful.connected y.0 (of_acting y.0 (of_stood y.0 y.1)).0)) (to_links links set x k) y.2) y.1

  module _ (strikes : List (ℕ × ℕ)) (are : AreStrikes links reasons strikes) where
    abbrev pairs : List (ℕ × ℕ)
    pairs = filter (is_between links marked) strikes

    -- a pair says that its links are lawful, and the one strikes the other
    pair_says : (a b : ℕ) → has_pair strikes a b ≡ true → (is_lawful_at reasons a ≡ true) × (is_lawful_at reasons b ≡ true) × (link_strikes links a b ≡ true)
    pair_says a b h =
        let parts = and_parts (is_lawful_at reasons a && is_lawful_at reasons b) (link_strikes links a b) (sym (are a b) ∙ h) in
        let both = and_parts (is_lawful_at reasons a) (is_lawful_at reasons b) parts.0 in
        (both.0, both.1, parts.1)

    pair_alike : (x y : Link) → IsIn x xs → IsIn y xs → has_pair strikes (position_of links x.name) (position_of links y.name) ≡ strikes_in links x y
    pair_alike x y k j =
        are (position_of links x.name) (position_of links y.name)
        ∙ ap (λ b. (b && is_lawful_at reasons (position_of links y.name)) && link_strikes links (position_of links x.name) (position_of links y.name)) (picked x k).1
        ∙ ap (λ b. b && link_strikes links (position_of links x.name) (position_of links y.name)) (picked y j).1
        ∙ link_strikes_is (position_of links x.name) (position_of links y.name) x y (there x k) (there y j)

    struck_alike : (x y : Link) → IsIn x acting → IsIn y acting → ranks.strikes_by pairs (as_act x) (as_act y) ≡ strikes_in links x y
    struck_alike x y k j =
        let of_x = of_acting x k in
        let of_y = of_acting y j in
        has_filtered (is_between links marked) strikes (position_of links x.name) (position_of links y.name)
        ∙ ap (λ b. ((b && get_or marked (position_of links y.name) false) && strikes_any links (position_of links y.name)) && has_pair strikes (position_of links x.name) (position_of links y.name)) (picked x of_x.0).0
        ∙ ap (λ b. (b && strikes_any links (position_of links y.name)) && has_pair strikes (position_of links x.name) (position_of links y.name)) (picked y of_y.0).0
        ∙ ap (λ b. b && has_pair strikes (position_of links x.name) (position_of links y.name)) (ap (λ o. option_map_or (λ z. is_striking z.entry.act) o false) (there y of_y.0) ∙ of_y.1)
        ∙ pair_alike x y of_x.0 of_y.0

    module _ (by_rank : RankIsBySeniority) where
      alike : MapsAlike as_act (is_senior links xs) (strikes_in links) ranks.is_senior (ranks.strikes_by pairs) acting
      alike = record { ranked = λ x y k j. by_rank (as_act x) (as_act y); struck = struck_alike }

      by_id_is : (d : Decided Link) → by_id (map_decided as_act d) ≡ by_position links d
      by_id_is stands = refl
      by_id_is (struck s) = refl
      by_id_is (lost s) = refl

      -- what is decided of the acts is what is decided of the links
      pub decisions_are : map (decision_of pairs (map as_act acting)) (map as_act acting) ≡ map decided acting
      decisions_are = each acting (λ x k. k)
        where
          each : (ys : List Link) → ((y : Link) → IsIn y ys → IsIn y acting) → map (decision_of pairs (map as_act acting)) (map as_act ys) ≡ map decided ys
          each [] of = refl
          each (y ∷ ys) of =
              λ i. (ap by_id (decision-mapped as_act (is_senior links xs) (strikes_in links) ranks.is_senior (ranks.strikes_by pairs) acting alike y (of y (inl refl)))
              ∙ by_id_is (decision_in team_rules links xs y)) i ∷ each ys (λ z k. of z (inr k)) i

    ids_distinct : (ys : List Link) → IsSet name_of ys → ((y : Link) → IsIn y ys → IsIn y xs) → IsDistinct nat_eq (map (λ a. a.id) (map as_act ys))
    unfolding IsDistinct
    ids_distinct [] d of = tt
    ids_distinct (y ∷ ys) d of = (all ys (λ z k. k), ids_distinct ys d.1 (λ z k. of z (inr k)))
      where
        all : (zs : List Link) → ((z : Link) → IsIn z zs → IsIn z ys) → AllByRecursion (λ m. nat_eq (position_of links y.name) m ≡ false) (map (λ a. a.id) (map as_act zs))
        all [] to = tt
        all (z ∷ zs) to = (
          is_false (nat_eq (position_of links y.name) (position_of links z.name))
              (λ e. let same : y ≡ z = one_link y z (of y (inl refl)) (of z (inr (to z (inl refl)))) (numbers_one (position_of links y.name) (position_of links z.name) e) in
              false≢true (sym (apart name_of y.name z ys d.0 (to z (inl refl))) ∙ (bytes_decides y.name z.name).1 (ap name_of same))),
          all zs (λ w k. to w (inr k)),
        )

    places_distinct : (ys : List Link) → IsSet name_of ys → IsDistinct (eq_by_cmp place_cmp) (map (λ a. a.place) (map as_act ys))
    unfolding IsDistinct
    places_distinct [] d = tt
    places_distinct (y ∷ ys) d = (all ys (λ z k. k), places_distinct ys d.1)
      where
        all : (zs : List Link) → ((z : Link) → IsIn z zs → IsIn z ys) → AllByRecursion (λ p. eq_by_cmp place_cmp (as_act y).place p ≡ false) (map (λ a. a.place) (map as_act zs))
        all [] to = tt
        all (z ∷ zs) to = (
          is_false (eq_by_cmp place_cmp (as_act y).place (as_act z).place)
              (λ e. let same : slice_cmp nat_cmp y.name z.name ≡ Equal = last_equal (nat_cmp (place_of links y).0 (place_of links z).0) (slice_cmp nat_cmp y.name z.name) (equal (place_cmp (as_act y).place (as_act z).place) e) in
              false≢true (sym (apart name_of y.name z ys d.0 (to z (inl refl)))
              ∙ (bytes_decides y.name z.name).1 (slice_cmp-IsAntisymmetric nat_cmp-IsAntisymmetric y.name z.name same))),
          all zs (λ w k. to w (inr k)),
        )

    one_seniority : (u v : Link) → IsIn u acting → IsIn v acting → (as_act u).by ≡ (as_act v).by → (as_act u).since ≡ (as_act v).since
    one_seniority u v k j e =
        let w = lawful.brought u (of_acting u k).0 in
        let z = lawful.brought v (of_acting v j).0 in
        let one : seniority links xs u.entry.user ≡ place_of links w.0 = ap (λ o. unwrap_or o (0, [])) w.2 in
        let two : seniority links xs v.entry.user ≡ place_of links z.0 = ap (λ o. unwrap_or o (0, [])) z.2 in
        let same : w.0 ≡ z.0 = one_link w.0 z.0 w.1 z.1 (sym (ap (λ p. position_of links p.1) one) ∙ e ∙ ap (λ p. position_of links p.1) two) in
        ap place_in (one ∙ ap (place_of links) same ∙ sym two)

    has_act : (x : Link) → IsIn x acting → list_any (nat_eq (position_of links x.name)) (map (λ a. a.id) (map as_act acting)) ≡ true
    has_act x k = each acting k
      where
        each : (ys : List Link) → IsIn x ys → list_any (nat_eq (position_of links x.name)) (map (λ a. a.id) (map as_act ys)) ≡ true
        each ys j = any_in (nat_eq (position_of links x.name)) (map (λ a. a.id) (map as_act ys)) (position_of links x.name) (in_map (λ a. a.id) (map as_act ys) (as_act x) (in_map as_act ys x j)) (own_number (position_of links x.name))

    -- the link of a position that is marked and lawful is one of these
    here : (p : ℕ) → get_or marked p false ≡ true → is_lawful_at reasons p ≡ true → (x : Link) → slice_get (arrived_of links) p ≡ Some x → IsIn x xs
    here p is_marked is_lawful x at = (lawful.picked p x at).1 (and_from (get_or marked p false) (is_lawful_at reasons p) is_marked is_lawful)

    -- where a position strikes, both have a link
    links_there : (a b : ℕ) → link_strikes links a b ≡ true
        → (x : Link) × (y : Link) × (slice_get (arrived_of links) a ≡ Some x) × (slice_get (arrived_of links) b ≡ Some y) × (strikes_in links x y ≡ true)
    links_there a b h = go (slice_get (arrived_of links) a) refl (slice_get (arrived_of links) b) refl h
      where
        go : (o : Option Link) → slice_get (arrived_of links) a ≡ o → (q : Option Link) → slice_get (arrived_of links) b ≡ q
            → option_map_or (λ x. option_map_or (λ y. strikes_in links x y) q false) o false ≡ true
            → (x : Link) × (y : Link) × (slice_get (arrived_of links) a ≡ Some x) × (slice_get (arrived_of links) b ≡ Some y) × (strikes_in links x y ≡ true)
        go None e q f g = absurd (false≢true g)
        go (Some x) e None f g = absurd (false≢true g)
        go (Some x) e (Some y) f g = (x, y, e, f, g)

    pub are_strikers : AreStrikers (map as_act acting) pairs
    are_strikers = record {
      ids = ids_distinct acting acting_set (λ y k. (of_acting y k).0);
      places = places_distinct acting acting_set;
      seniorities = λ a b k j e. let u = of_map as_act acting a k in let v = of_map as_act acting b j in
          sym (ap (λ c. c.since) u.2) ∙ one_seniority u.0 v.0 u.1 v.1 (ap (λ c. c.by) u.2 ∙ e ∙ sym (ap (λ c. c.by) v.2)) ∙ ap (λ c. c.since) v.2;
      named = all_filtered
          (λ p. (list_any (nat_eq p.0) (map (λ a. a.id) (map as_act acting)) ≡ true) × (list_any (nat_eq p.1) (map (λ a. a.id) (map as_act acting)) ≡ true) × (p.0 ≢ p.1))
          (is_between links marked) strikes named;
    }
      where
        acting_set : IsSet name_of acting
        acting_set = set-filter name_of (λ y. is_striking y.entry.act) xs lawful.set

        has_own : (ps : List (ℕ × ℕ)) (p : ℕ × ℕ) → IsIn p ps → has_pair ps p.0 p.1 ≡ true
        has_own ps p k = any_in (λ q. (q.0 == p.0) && (q.1 == p.1)) ps p k (and_from (p.0 == p.0) (p.1 == p.1) (own_number p.0) (own_number p.1))

        named : (p : ℕ × ℕ) → IsIn p strikes → is_between links marked p ≡ true
            → (list_any (nat_eq p.0) (map (λ a. a.id) (map as_act acting)) ≡ true) × (list_any (nat_eq p.1) (map (λ a. a.id) (map as_act acting)) ≡ true) × (p.0 ≢ p.1)
        named p k between =
            let says = pair_says p.0 p.1 (has_own strikes p k) in
            let tests = and_parts (get_or marked p.0 false && get_or marked p.1 false) (strikes_any links p.1) between in
            let marks = and_parts (get_or marked p.0 false) (get_or marked p.1 false) tests.0 in
            let at = links_there p.0 p.1 says.2 in
            let x = at.0 in
            let y = at.1 in
            let in_x : IsIn x xs = here p.0 marks.0 says.0 x at.2 in
            let in_y : IsIn y xs = here p.1 marks.1 says.1 y at.3 in
            let acts_x : is_striking x.entry.act ≡ true = act_striking x.entry.act y.entry (and_parts (are_concurrent name_of prev_of links x y) (strikes_by sha256 x.entry y.entry) at.4).1 in
            let acts_y : is_striking y.entry.act ≡ true = sym (ap (λ o. option_map_or (λ z. is_striking z.entry.act) o false) at.3) ∙ tests.1 in (
              subst (λ n. list_any (nat_eq n) (map (λ a. a.id) (map as_act acting)) ≡ true) (position_is links set p.0 x at.2) (has_act x (in_filter (λ z. is_striking z.entry.act) x xs in_x acts_x)),
              subst (λ n. list_any (nat_eq n) (map (λ a. a.id) (map as_act acting)) ≡ true) (position_is links set p.1 y at.3) (has_act y (in_filter (λ z. is_striking z.entry.act) y xs in_y acts_y)),
              λ e. false≢true (sym (own_not links p.1) ∙ sym (ap (λ n. link_strikes links n p.1) e) ∙ says.2),
            )

    -- a pair says that one that stands strikes a link exactly where one does
    pub struck_is : (flags : List Bool) → ((i : ℕ) (x : Link) → slice_get (arrived_of links) i ≡ Some x → get_or flags i false ≡ has_name (names name_of stood) x.name)
        → (i : ℕ) (x : Link) → slice_get (arrived_of links) i ≡ Some x → IsIn x xs → is_struck_at strikes flags i ≡ list_any (λ s. strikes_in links s x) stood
    struck_is flags told i x at k = same_bools (is_struck_at strikes flags i) (list_any (λ s. strikes_in links s x) stood) forth back
      where
        own_place : position_of links x.name ≡ i
        own_place = position_is links set i x at

        forth : is_struck_at strikes flags i ≡ true → list_any (λ s. strikes_in links s x) stood ≡ true
        forth h =
            let p = any_of (λ q. get_or flags q.0 false && (q.1 == i)) strikes h in
            let tests = and_parts (get_or flags p.0.0 false) (p.0.1 == i) p.2 in
            let second : p.0.1 ≡ i = numbers_one p.0.1 i tests.1 in
            let has : has_pair strikes p.0.0 i ≡ true = any_in (λ q. (q.0 == p.0.0) && (q.1 == i)) strikes p.0 p.1 (and_from (p.0.0 == p.0.0) (p.0.1 == i) (own_number p.0.0) tests.1) in
            let there_is = links_there p.0.0 i (pair_says p.0.0 i has).2 in
            let s = there_is.0 in
            let one : ◌≡◌ {A = Option Link} (Some there_is.1) (Some x) = sym there_is.3 ∙ at in
            let same : there_is.1 ≡ x = cc in
            any_in (λ z. strikes_in links z x) stood s (is_stood s (in_arrived p.0.0 s there_is.2) (sym (told p.0.0 s there_is.2) ∙ tests.0)) (subst (λ w. strikes_in links s w ≡ true) same there_is.4)
          where
            in_arrived : (q : ℕ) (s : Link) → slice_get (arrived_of links) q ≡ Some s → IsIn s (arrived_of links)
            in_arrived q s e = in_at (arrived_of links) q s e

        back : list_any (λ s. strikes_in links s x) stood ≡ true → is_struck_at strikes flags i ≡ true
        back h =
            let s = any_of (λ z. strikes_in links z x) stood h in
            let in_s : IsIn s.0 xs = (of_acting s.0 (of_stood s.0 s.1)).0 in
            let has : has_pair strikes (position_of links s.0.name) i ≡ true = sym (ap (λ n. has_pair strikes (position_of links s.0.name) n) own_place) ∙ pair_alike s.0 x in_s k ∙ s.2 in
            let p = any_of (λ q. (q.0 == position_of links s.0.name) && (q.1 == i)) strikes has in
            let tests = and_parts (p.0.0 == position_of links s.0.name) (p.0.1 == i) p.2 in
            any_in (λ q. get_or flags q.0 false && (q.1 == i)) strikes p.0 p.1
            (and_from (get_or flags p.0.0 false) (p.0.1 == i)
            (ap (λ n. get_or flags n false) (numbers_one p.0.0 (position_of links s.0.name) tests.0) ∙ told (position_of links s.0.name) s.0 (there s.0 in_s)
            ∙ name_in name_of prev_of stood s.0 s.1 s.0.name refl) tests.1)
