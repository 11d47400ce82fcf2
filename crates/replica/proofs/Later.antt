-- A link that comes after all of some links strikes none of them, and none of them strikes it: it is resolved after what is resolved
-- of them.
use Rattle.std.proofs.Common.{◌≡◌, ◌≢◌, ◌⊎◌, ℕ, ◌<◌, Bool, true, false, not, ◌&&◌, ◌||◌, cond, List, [], ◌∷◌, ◌++◌, append-nil, None, filter, fold, map, unwrap_or, refl, sym, ◌∙◌, ap, subst, inl, inr}
use Rattle.std.specs.List.{list_any}
use Rattle.std.specs.Cmp.{nat_cmp_is}
use Rattle.std.specs.Cmp.Lexicographic.{nat_list_eq_equiv, slice_cmp}
use Rattle.std.specs.Ordering.{is_lt, nat_cmp, ordering_then}
use Rattle.std.specs.declared.cmp.Ordering.TheVariants.{Greater}
use Rattle.std.proofs.lemmas.Bool.{false≢true, or_parts}
use Rattle.std.proofs.lemmas.List.{map-append}
use Rattle.std.proofs.lemmas.List.Sums.{fold-append}
use Rattle.team_sets.specs.Names.{Name, ascending, has_name, put_in, same_name}
use Rattle.team_sets.specs.Members.{IsIn}
use Rattle.team_sets.specs.Places.{least_place, lesser_place, place_lt}
use Rattle.team_sets.specs.Settlement.{conflicts, decided_by, stand_next, standing}
use Rattle.team_sets.proofs.Lists.{filter_alike, filter_end}
use Rattle.team_sets.proofs.Decisions.{none_found, stands_as_decided}
use Rattle.team_sets.proofs.OrderLeast.{in_filter, of_filter}
use Rattle.team_sets.proofs.Parts.{name_in}
use Rattle.team_sets.proofs.Pasts.{in_more, same_name-is}
use Rattle.team_sets.proofs.SameRanks.{standing-alike}
use Rattle.team_sets.proofs.Sorted.{ascending-members}
use Rattle.team_sets.proofs.Standing.{pass_part, standing-pass}
use Rattle.team_model.specs.Strikes.{brings_user, is_striking}
use Rattle.team_model.specs.Judging.{Rules, is_senior, name_of, place_of, prev_of, resolved_from, seniority, standing_strikers, stays, strikers, strikes_among}
use Rattle.team_model.specs.declared.terms.Link.{Link}

-- a greater place that comes last isn't the least
least_last : (ps : List (ℕ × Name)) (p q : ℕ × Name) → IsIn p ps → ((r : ℕ × Name) → IsIn r ps → place_lt q r ≡ false) → least_place (ps ++ q ∷ []) ≡ least_place ps
least_last [] p q k h = absurd k
least_last (r ∷ []) p q k h = rw (h r (inl refl)) refl
least_last (r ∷ s ∷ rs) p q k h = ap (λ o. lesser_place r o) (least_last (s ∷ rs) s q (inl refl) (λ t j. h t (inr j)))

lower_place : (p q : ℕ × Name) → p.0 < q.0 → place_lt q p ≡ false
lower_place p q h = ap (λ r. is_lt (ordering_then r (slice_cmp nat_cmp q.1 p.1))) (sym (nat_cmp_is q.0 p.0 Greater h))

whole : {A : Type 0} (p : A → Bool) (xs : List A) → ((x : A) → IsIn x xs → p x ≡ true) → filter p xs ≡ xs
whole p [] h = refl
whole p (x ∷ xs) h = rw (h x (inl refl)) (ap (λ l. x ∷ l) (whole p xs (λ y k. h y (inr k))))

gone : {A : Type 0} (before : A → A → Bool) (p : A → Bool) (x : A) (ys : List A) → p x ≡ false → filter p (put_in before x ys) ≡ filter p ys
gone before p x [] e = rw e refl
gone before p x (y ∷ ys) e = go (before x y) (gone before p x ys e)
  where
    go : (b : Bool) → filter p (put_in before x ys) ≡ filter p ys → filter p (cond b (x ∷ y ∷ ys) (y ∷ put_in before x ys)) ≡ filter p (y ∷ ys)
    go true more = rw e refl
    go false more = ap (λ l. cond (p y) (y ∷ l) l) more

any_kept : {A : Type 0} (p q : A → Bool) (xs : List A) → ((x : A) → IsIn x xs → q x ≡ false → p x ≡ false) → list_any p (filter q xs) ≡ list_any p xs
any_kept p q [] h = refl
any_kept p q (x ∷ xs) h = go (q x) refl (any_kept p q xs (λ y k. h y (inr k)))
  where
    go : (b : Bool) → q x ≡ b → list_any p (filter q xs) ≡ list_any p xs → list_any p (cond b (x ∷ filter q xs) (filter q xs)) ≡ (p x || list_any p xs)
    go true e more = ap (λ c. p x || c) more
    go false e more = rw (h x (inl refl) e) more

none_any : {A : Type 0} (p : A → Bool) (xs : List A) → ((x : A) → IsIn x xs → p x ≡ false) → list_any p xs ≡ false
none_any p [] h = refl
none_any p (x ∷ xs) h = rw (h x (inl refl)) (none_any p xs (λ y k. h y (inr k)))

-- y comes after all of xs, and the users of these are brought in by one of them
pub record ComesAfter (rules : Rules) (links xs : List Link) (y : Link) : Type 0 where
  pub new : (z : Link) → IsIn z xs → same_name y.name z.name ≡ false
  pub unstruck : (z : Link) → IsIn z xs → strikes_among rules.device_of links z y ≡ false
  pub strikes_not : (z : Link) → IsIn z xs → strikes_among rules.device_of links y z ≡ false
  pub higher : (z : Link) → IsIn z xs → (place_of links z).0 < (place_of links y).0
  pub brought : (z : Link) → IsIn z xs → (w : Link) × IsIn w xs × (brings_user w.entry z.entry.user ≡ true)

module _ (rules : Rules) (links xs : List Link) (y : Link) (after : ComesAfter rules links xs y) where
  abbrev strike : Link → Link → Bool
  strike a b = strikes_among rules.device_of links a b

  abbrev longer : List Link
  longer = xs ++ y ∷ []

  other : Link → Bool
  other z = not (same_name y.name z.name)

  kept : (z : Link) → IsIn z xs → other z ≡ true
  unfolding other
  kept z k = ap not (after.new z k)

  last : other y ≡ false
  unfolding other
  last = ap not (nat_list_eq_equiv.refl y.name)

  own : strike y y ≡ false
  own = rw (nat_list_eq_equiv.refl y.name) refl

  -- y changes nobody's seniority
  same_seniority : (z : Link) → IsIn z xs → seniority links longer z.entry.user ≡ seniority links xs z.entry.user
  same_seniority z k = ap (λ o. unwrap_or o (0, [])) (go (brings_user y.entry z.entry.user) refl)
    where
      brings : Link → Bool
      brings w = brings_user w.entry z.entry.user

      in_map : (ws : List Link) (w : Link) → IsIn w ws → IsIn (place_of links w) (map (place_of links) ws)
      in_map [] w j = absurd j
      in_map (v ∷ vs) w (inl e) = inl (ap (place_of links) e)
      in_map (v ∷ vs) w (inr j) = inr (in_map vs w j)

      of_map : (ws : List Link) (p : ℕ × Name) → IsIn p (map (place_of links) ws) → (w : Link) × IsIn w ws × (place_of links w ≡ p)
      of_map [] p j = absurd j
      of_map (v ∷ vs) p (inl e) = (v, inl refl, e)
      of_map (v ∷ vs) p (inr j) = let r = of_map vs p j in (r.0, inr r.1, r.2)

      go : (b : Bool) → brings_user y.entry z.entry.user ≡ b
          → least_place (map (place_of links) (filter (λ w. brings_user w.entry z.entry.user) longer)) ≡ least_place (map (place_of links) (filter (λ w. brings_user w.entry z.entry.user) xs))
      go true e =
          let by = after.brought z k in
          ap (λ l. least_place (map (place_of links) l)) (filter_end (λ w. brings_user w.entry z.entry.user) xs y true e)
          ∙ ap least_place (map-append (place_of links) (filter (λ w. brings_user w.entry z.entry.user) xs) (y ∷ []))
          ∙ least_last (map (place_of links) (filter (λ w. brings_user w.entry z.entry.user) xs)) (place_of links by.0) (place_of links y)
          (in_map (filter (λ w. brings_user w.entry z.entry.user) xs) by.0 (in_filter (λ w. brings_user w.entry z.entry.user) by.0 xs by.1 by.2))
          (λ r j. let w = of_map (filter (λ w. brings_user w.entry z.entry.user) xs) r j in
          ap (λ p. place_lt (place_of links y) p) (sym w.2)
          ∙ lower_place (place_of links w.0) (place_of links y) (after.higher w.0 (of_filter (λ w. brings_user w.entry z.entry.user) w.0 xs w.1).0))
      go false e =
          ap (λ l. least_place (map (place_of links) l))
          (filter_end (λ w. brings_user w.entry z.entry.user) xs y false e ∙ append-nil (filter (λ w. brings_user w.entry z.entry.user) xs))

  abbrev before : List Link
  before = strikers links xs

  of_before : (z : Link) → IsIn z before → IsIn z xs
  of_before z k = (of_filter (λ x. is_striking x.entry.act) z xs k).0

  abbrev senior : Link → Link → Bool
  senior a b = is_senior links longer a b

  same_rank : (a b : Link) → IsIn a xs → IsIn b xs → is_senior links longer a b ≡ is_senior links xs a b
  same_rank a b k j = λ i.
      place_lt (same_seniority a k i) (same_seniority b j i)
      || (not (place_lt (same_seniority b j i) (same_seniority a k i)) && place_lt (place_of links a) (place_of links b))

  stood_before : standing senior strike before ≡ standing_strikers rules links xs
  stood_before =
      standing-alike senior strike (is_senior links xs) strike before
      (record { ranked = λ a b k j. same_rank a b (of_before a k) (of_before b j); struck = λ a b k j. refl })

  -- the strikers with y
  abbrev all : List Link
  all = strikers links longer

  of_all : (z : Link) → IsIn z all → IsIn z xs ⊎ (y ≡ z)
  of_all z k = in_more xs y z (of_filter (λ x. is_striking x.entry.act) z longer k).0

  ranked_others : filter other (ascending senior all) ≡ ascending senior before
  ranked_others = go (is_striking y.entry.act) refl
    where
      mine : filter other (ascending senior before) ≡ ascending senior before
      mine = whole other (ascending senior before) (λ z k. kept z (of_before z ((ascending-members senior before).forth z k)))

      go : (b : Bool) → is_striking y.entry.act ≡ b → filter other (ascending senior all) ≡ ascending senior before
      go true e =
          ap (λ l. filter other (ascending senior l)) (filter_end (λ x. is_striking x.entry.act) xs y true e)
          ∙ ap (λ l. filter other l) (fold-append (λ sorted x. put_in senior x sorted) [] before (y ∷ []))
          ∙ gone senior other y (ascending senior before) last ∙ mine
      go false e =
          ap (λ l. filter other (ascending senior l)) (filter_end (λ x. is_striking x.entry.act) xs y false e ∙ append-nil before) ∙ mine

  meets_not : (z : Link) → IsIn z xs ⊎ (y ≡ z) → conflicts senior strike z y ≡ false
  meets_not z (inl k) = rw (after.unstruck z k, after.strikes_not z k) refl
  meets_not z (inr e) = subst (λ w. conflicts senior strike w y ≡ false) e (rw own refl)

  across : (a b : Link) → IsIn a (ascending senior all) → IsIn b (ascending senior all) → other a ≢ other b → conflicts senior strike a b ≡ false
  across a b k j apart = go (of_all a ((ascending-members senior all).forth a k)) (of_all b ((ascending-members senior all).forth b j))
    where
      go : IsIn a xs ⊎ (y ≡ a) → IsIn b xs ⊎ (y ≡ b) → conflicts senior strike a b ≡ false
      go (inl h) (inl i) = absurd (apart (kept a h ∙ sym (kept b i)))
      go (inl h) (inr e) = subst (λ w. conflicts senior strike a w ≡ false) e (meets_not a (inl h))
      go (inr e) (inl i) = subst (λ w. conflicts senior strike w b ≡ false) e (rw (after.strikes_not b i, after.unstruck b i) refl)
      go (inr e) (inr f) = absurd (apart (ap other (sym e ∙ f)))

  abbrev stood : List Link
  stood = standing_strikers rules links longer

  -- the others stand as before
  others_stand : filter other stood ≡ standing_strikers rules links xs
  others_stand =
      ap (λ l. filter other l) (standing-pass senior strike all)
      ∙ pass_part senior strike other (ascending senior all) across (ascending senior all) [] (λ z k. k) (λ z k. absurd k)
      ∙ ap (λ l. fold (stand_next senior strike) [] l) ranked_others
      ∙ sym (standing-pass senior strike before) ∙ stood_before

  of_stood : (z : Link) → IsIn z stood → IsIn z xs ⊎ (y ≡ z)
  of_stood z k = of_all z ((stands_as_decided senior strike all).members z k)

  -- y stands, if it strikes
  stands_too : is_striking y.entry.act ≡ true → IsIn y stood
  stands_too e =
      (stands_as_decided senior strike all).stays y
      (subst (λ l. IsIn y l) (sym (filter_end (λ x. is_striking x.entry.act) xs y true e)) (at_end before))
      (let none : decided_by senior strike all y ≡ None = none_found (λ s. conflicts senior strike s y) stood (λ s k. meets_not s (of_stood s k)) in rw none refl)
    where
      at_end : (zs : List Link) → IsIn y (zs ++ y ∷ [])
      at_end [] = inl refl
      at_end (z ∷ zs) = inr (at_end zs)

  has_kept : (n : Name) → same_name y.name n ≡ false → (zs : List Link) → has_name (map name_of (filter other zs)) n ≡ has_name (map name_of zs) n
  unfolding other
  has_kept n apart [] = refl
  has_kept n apart (z ∷ zs) = go (same_name y.name z.name) refl (has_kept n apart zs)
    where
      go : (b : Bool) → same_name y.name z.name ≡ b → has_name (map name_of (filter (λ w. not (same_name y.name w.name)) zs)) n ≡ has_name (map name_of zs) n
          → has_name (map name_of (cond (not b) (z ∷ filter (λ w. not (same_name y.name w.name)) zs) (filter (λ w. not (same_name y.name w.name)) zs))) n ≡ (same_name z.name n || has_name (map name_of zs) n)
      go true e more = more ∙ ap (λ b. b || has_name (map name_of zs) n) (sym (ap (λ m. same_name m n) (sym (same_name-is y.name z.name e)) ∙ apart))
      go false e more = ap (λ b. same_name z.name n || b) more

  stays_same : (z : Link) → IsIn z xs → stays rules links longer stood z ≡ stays rules links xs (standing_strikers rules links xs) z
  stays_same z k =
      ap (λ b. (not (is_striking z.entry.act) || b) && not (list_any (λ s. strike s z) stood))
      (sym (has_kept z.name (after.new z k) stood) ∙ ap (λ l. has_name (map name_of l) z.name) others_stand)
      ∙ ap (λ b. (not (is_striking z.entry.act) || has_name (map name_of (standing_strikers rules links xs)) z.name) && not b)
      (sym (any_kept (λ s. strike s z) other stood (λ s j e. go s e (of_stood s j))) ∙ ap (λ l. list_any (λ s. strike s z) l) others_stand)
    where
      go : (s : Link) → other s ≡ false → IsIn s xs ⊎ (y ≡ s) → strike s z ≡ false
      go s e (inl i) = absurd (false≢true (sym e ∙ kept s i))
      go s e (inr same) = subst (λ w. strike w z ≡ false) same (after.strikes_not z k)

  y_stays : stays rules links longer stood y ≡ true
  y_stays =
      rw (none_any (λ s. strike s y) stood (λ s k. (or_parts (strike s y) (strike y s) (meets_not s (of_stood s k))).0)) (go (is_striking y.entry.act) refl)
    where
      go : (b : Bool) → is_striking y.entry.act ≡ b → ((not b || has_name (map name_of stood) y.name) && not false) ≡ true
      go true e = rw (name_in name_of prev_of stood y (stands_too e) y.name refl) refl
      go false e = refl

  pub resolved-after : resolved_from rules links longer ≡ resolved_from rules links xs ++ y ∷ []
  resolved-after =
      filter_end (stays rules links longer stood) xs y true y_stays
      ∙ ap (λ l. l ++ y ∷ []) (filter_alike (stays rules links longer stood) (stays rules links xs (standing_strikers rules links xs)) xs stays_same)
