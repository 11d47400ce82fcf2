-- Where a link has one parent, the team of its past is that of the parent's past once the parent had its turn: the parent comes after all
-- of its past, so it strikes none of that.
use Rattle.std.proofs.Common.{◌≡◌, ◌+◌, ℕ, Bool, true, false, not, ◌&&◌, ◌||◌, cond, List, [], ◌∷◌, ◌++◌, append-nil, Some, is_none, refl, sym, ◌∙◌, ap, subst, inl, inr, filter, length, take, drop, slice_get, ◌<◌, ◌≤◌, arith}
use Rattle.std.specs.List.{list_any}
use Rattle.std.specs.Cmp.Lexicographic.{nat_list_eq_equiv}
use Rattle.std.proofs.lemmas.Bool.{false≢true, or_left}
use Rattle.std.proofs.lemmas.List.Sums.{fold-append}
use Rattle.std.proofs.lemmas.List.{take-append-drop}
use Rattle.team_sets.specs.Names.{Name, same_name, has_name}
use Rattle.team_sets.specs.Members.{IsIn}
use Rattle.team_sets.specs.Ancestry.{is_before, named}
use Rattle.team_sets.specs.OrderLaws.{IsSet, NamesDiffer}
use Rattle.team_sets.specs.PartLaws.{HasParents}
use Rattle.team_sets.proofs.Agree.{any_in, same_answer}
use Rattle.team_sets.proofs.Ancestors.{differ-past, in_links, not_later, order_first, transitive, unrolled}
use Rattle.team_sets.proofs.Lists.{filter_alike, filter_end}
use Rattle.team_sets.proofs.Arrivals.{first_set}
use Rattle.team_sets.proofs.OrderLeast.{in_filter, of_filter}
use Rattle.team_sets.proofs.Pasts.{any_of, reached_connected, same_name-is}
use Rattle.team_model.specs.State.{State, empty_state}
use Rattle.team_model.specs.Strikes.{strikes_by}
use Rattle.team_model.specs.CountingLaws.{BringIn}
use Rattle.team_model.specs.Judging.{Rules, name_of, prev_of, order_of, past_of, fold_team, lawful, resolved_from, team, unlawful_reason}
use Rattle.team_model.specs.declared.terms.Link.{Link}
use Rattle.team_model.proofs.Brought.{rank_defined}
use Rattle.team_model.proofs.PastTeams.{filter_comm, lawful-past}
use Rattle.acts.specs.declared.entry.Entry.{Entry}
use Rattle.link_graph.proofs.Arrived.{index_in, of_back, of_front, one_place}
use Rattle.replica.proofs.Later.{ComesAfter, resolved-after}
use Rattle.replica.proofs.Lower.{connected, lower}
use Rattle.replica.proofs.Parts.{team_part}
use Rattle.link_graph.proofs.Picks.{drop_here}

or_false : (b : Bool) → (b || false) ≡ b
or_false true = refl
or_false false = refl

one_added : {A : Type 0} (p q : A → Bool) (xs ys : List A) (y : A) → ((z : A) → IsIn z xs → p z ≡ q z) → p y ≡ true → q y ≡ false
    → ((z : A) → IsIn z ys → p z ≡ false) → ((z : A) → IsIn z ys → q z ≡ false) → filter p (xs ++ y ∷ ys) ≡ filter q (xs ++ y ∷ ys) ++ y ∷ []
one_added {A = A} p q [] ys y same here gone none left = rw (here, gone, none_of p ys none, none_of q ys left) refl
  where
    none_of : (r : A → Bool) (zs : List A) → ((z : A) → IsIn z zs → r z ≡ false) → filter r zs ≡ []
    none_of r [] h = refl
    none_of r (z ∷ zs) h = rw (h z (inl refl)) (none_of r zs (λ w k. h w (inr k)))
one_added p q (x ∷ xs) ys y same here gone none left = rw (same x (inl refl)) (go (q x) (one_added p q xs ys y (λ z k. same z (inr k)) here gone none left))
  where
    go : (b : Bool) → filter p (xs ++ y ∷ ys) ≡ filter q (xs ++ y ∷ ys) ++ y ∷ []
        → cond b (x ∷ filter p (xs ++ y ∷ ys)) (filter p (xs ++ y ∷ ys)) ≡ cond b (x ∷ filter q (xs ++ y ∷ ys)) (filter q (xs ++ y ∷ ys)) ++ y ∷ []
    go true e = ap (λ l. x ∷ l) e
    go false e = e

-- a link that isn't beside another has no strike with it
beside_not : (s b c d : Bool) → b ≡ true → ((not s && not b && not c) && d) ≡ false
beside_not true b c d e = refl
beside_not false b c d e = rw e refl

beside_nor : (s b c d : Bool) → c ≡ true → ((not s && not b && not c) && d) ≡ false
beside_nor true b c d e = refl
beside_nor false true c d e = refl
beside_nor false false c d e = rw e refl

-- the past of a connected link has the parents of each of its links
past_closed : (links : List Link) → NamesDiffer name_of links → (z : Link) → IsIn z (order_of links) → HasParents name_of prev_of links (λ w. is_before name_of prev_of links w.name z)
past_closed links differ z k x y in_x e in_y p =
    let here : IsIn x (order_of links) = connected name_of prev_of links differ x in_x (reached_connected name_of prev_of links differ z k (length links) x.name e) in
    transitive name_of prev_of links differ z x k in_x y.name e
    (unrolled name_of prev_of links differ x here y.name ∙ or_left (has_name x.prev y.name) (list_any (is_before name_of prev_of links y.name) (named name_of prev_of links x.prev)) p)

-- what is refused leaves the state
abbrev pub RefusedStays : Rules → Type 0
RefusedStays rules = (s : State) (e : Entry) → is_none (rules.refusal s e) ≡ false → rules.after s e ≡ s

module _ (links : List Link) (differ : NamesDiffer name_of links) (x y : Link) (in_x : IsIn x (order_of links)) (in_y : IsIn y (order_of links)) (follows : x.prev ≡ y.name ∷ []) where
  abbrev before_x : Link → Bool
  before_x z = is_before name_of prev_of links z.name x

  abbrev before_y : Link → Bool
  before_y z = is_before name_of prev_of links z.name y

  before_one : (a : Name) → list_any (is_before name_of prev_of links a) (named name_of prev_of links (y.name ∷ [])) ≡ is_before name_of prev_of links a y
  before_one a = same_answer (list_any (is_before name_of prev_of links a) (named name_of prev_of links (y.name ∷ []))) (is_before name_of prev_of links a y) forth back
    where
      in_set : IsIn y links
      in_set = in_links name_of prev_of links differ y in_y

      forth : list_any (is_before name_of prev_of links a) (named name_of prev_of links (y.name ∷ [])) ≡ true → is_before name_of prev_of links a y ≡ true
      forth t =
          let p = any_of (is_before name_of prev_of links a) (named name_of prev_of links (y.name ∷ [])) t in
          let of = of_filter (λ w. has_name (y.name ∷ []) w.name) p.0 links p.1 in
          let same : y ≡ p.0 = differ y p.0 in_set of.0 (same_name-is y.name (p.0).name (sym (or_false (same_name y.name (p.0).name)) ∙ of.1)) in
          ap (λ (w : Link). is_before name_of prev_of links a w) same ∙ p.2

      back : is_before name_of prev_of links a y ≡ true → list_any (is_before name_of prev_of links a) (named name_of prev_of links (y.name ∷ [])) ≡ true
      back t =
          any_in (is_before name_of prev_of links a) (named name_of prev_of links (y.name ∷ [])) y
          (in_filter (λ w. has_name (y.name ∷ []) w.name) y links in_set (or_false (same_name y.name y.name) ∙ nat_list_eq_equiv.refl y.name)) t

  before_is : (a : Name) → is_before name_of prev_of links a x ≡ (same_name y.name a || is_before name_of prev_of links a y)
  before_is a =
      unrolled name_of prev_of links differ x in_x a
      ∙ ap (λ ns. has_name ns a || list_any (is_before name_of prev_of links a) (named name_of prev_of links ns)) follows
      ∙ ap (λ b. b || list_any (is_before name_of prev_of links a) (named name_of prev_of links (y.name ∷ []))) (or_false (same_name y.name a))
      ∙ ap (λ b. same_name y.name a || b) (before_one a)

  at_y : (k : ℕ) × (slice_get (order_of links) k ≡ Some y)
  at_y = index_in (order_of links) y in_y

  order_set : IsSet name_of (order_of links)
  order_set = first_set name_of prev_of [] (order_of links) (order_first name_of prev_of links differ)

  -- another place has another name
  other_name : (j : ℕ) (z : Link) → slice_get (order_of links) j ≡ Some z → (j ≡ at_y.0 → false ≡ true) → same_name y.name z.name ≡ false
  other_name j z there apart = go (same_name y.name z.name) refl
    where
      go : (b : Bool) → same_name y.name z.name ≡ b → b ≡ false
      go false e = refl
      go true e = absurd (false≢true (apart (one_place (order_of links) order_set j at_y.0 z y there at_y.1 (sym (same_name-is y.name z.name e)))))

  parted : order_of links ≡ take at_y.0 (order_of links) ++ y ∷ drop (at_y.0 + 1) (order_of links)
  parted = sym (take-append-drop at_y.0 (order_of links)) ∙ ap (λ l. take at_y.0 (order_of links) ++ l) (drop_here (order_of links) at_y.0 y at_y.1)

  back_of : (z : Link) → IsIn z (drop (at_y.0 + 1) (order_of links)) → IsIn z (drop at_y.0 (order_of links))
  back_of z k = subst (λ l. IsIn z l) (sym (drop_here (order_of links) at_y.0 y at_y.1)) (inr k)

  later_none : (z : Link) → IsIn z (drop (at_y.0 + 1) (order_of links)) → before_y z ≡ false
  later_none z k = not_later name_of prev_of links differ at_y.0 y at_y.1 z (back_of z k)

  pub ancestors_follow : filter before_x (order_of links) ≡ filter before_y (order_of links) ++ y ∷ []
  ancestors_follow =
      filter_alike before_x (λ z. same_name y.name z.name || before_y z) (order_of links) (λ z k. before_is z.name)
      ∙ ap (λ l. filter (λ z. same_name y.name z.name || before_y z) l) parted
      ∙ one_added (λ z. same_name y.name z.name || before_y z) before_y (take at_y.0 (order_of links)) (drop (at_y.0 + 1) (order_of links)) y
      (λ z k. let j = of_front (order_of links) at_y.0 z k in let less : j.0 < at_y.0 = j.1 in
      ap (λ b. b || before_y z) (other_name j.0 z j.2 (λ e. absurd (omega (arith, less, e)))))
      (ap (λ b. b || before_y y) (nat_list_eq_equiv.refl y.name))
      (not_later name_of prev_of links differ at_y.0 y at_y.1 y (subst (λ l. IsIn y l) (sym (drop_here (order_of links) at_y.0 y at_y.1)) (inl refl)))
      (λ z k. let j = of_back (order_of links) (at_y.0 + 1) z k in let more : at_y.0 + 1 ≤ j.0 = j.1 in
      ap (λ b. b || before_y z) (other_name j.0 z j.2 (λ e. absurd (omega (arith, more, e)))) ∙ later_none z k)
      later_none
      ∙ ap (λ l. filter before_y l ++ y ∷ []) (sym parted)

  module _ (rules : Rules) (stays : RefusedStays rules) (bring : BringIn rules) where
    abbrev is_lawful : Link → Bool
    is_lawful z = is_none (unlawful_reason rules links z)

    -- the lawful links of the past of y
    abbrev kept : List Link
    kept = filter is_lawful (filter before_y (order_of links))

    team_of_past : (z : Link) → IsIn z (order_of links)
        → team rules (past_of links z) ≡ fold_team rules (resolved_from rules links (filter is_lawful (filter (λ w. is_before name_of prev_of links w.name z) (order_of links))))
    team_of_past z k =
        team_part rules links differ (λ w. is_before name_of prev_of links w.name z) (past_closed links differ z k)
        ∙ ap (λ l. fold_team rules (resolved_from rules links l)) (filter_comm (λ w. is_before name_of prev_of links w.name z) is_lawful (order_of links))

    lawful_past : lawful rules (past_of links y) ≡ kept
    lawful_past = lawful-past rules links differ y in_y ∙ filter_comm before_y is_lawful (order_of links)

    own : before_y y ≡ false
    own = not_later name_of prev_of links differ at_y.0 y at_y.1 y (subst (λ l. IsIn y l) (sym (drop_here (order_of links) at_y.0 y at_y.1)) (inl refl))

    of_kept : (z : Link) → IsIn z kept → IsIn z (order_of links) × (before_y z ≡ true)
    of_kept z k = of_filter before_y z (order_of links) (of_filter is_lawful z (filter before_y (order_of links)) k).0

    comes_after : ComesAfter rules links kept y
    comes_after = record {
      new = λ z k. go z (of_kept z k).1 (same_name y.name z.name) refl;
      unstruck = λ z k. beside_not (same_name z.name y.name) (is_before name_of prev_of links z.name y) (is_before name_of prev_of links y.name z) (strikes_by rules.device_of z.entry y.entry) (of_kept z k).1;
      strikes_not = λ z k. beside_nor (same_name y.name z.name) (is_before name_of prev_of links y.name z) (is_before name_of prev_of links z.name y) (strikes_by rules.device_of y.entry z.entry) (of_kept z k).1;
      higher = λ z k. lower name_of prev_of links differ y z in_y (in_links name_of prev_of links differ z (of_kept z k).0) (of_kept z k).1;
      brought = λ z k. let w = rank_defined rules bring (past_of links y) (differ-past name_of prev_of links differ y) z (subst (λ l. IsIn z l) (sym lawful_past) k) in
          (w.0, subst (λ l. IsIn w.0 l) lawful_past w.1.is_lawful, w.1.brings);
    }
      where
        go : (z : Link) → before_y z ≡ true → (b : Bool) → same_name y.name z.name ≡ b → b ≡ false
        go z h false e = refl
        go z h true e = absurd (false≢true (sym own ∙ ap (λ n. is_before name_of prev_of links n y) (same_name-is y.name z.name e) ∙ h))

    one_turn : (b : Bool) → is_lawful y ≡ b → fold_team rules (resolved_from rules links (kept ++ cond b (y ∷ []) [])) ≡ rules.after (team rules (past_of links y)) y.entry
    one_turn true e =
        ap (λ l. fold_team rules l) (resolved-after rules links kept y comes_after)
        ∙ fold-append (λ s z. rules.after s z.entry) empty_state (resolved_from rules links kept) (y ∷ [])
        ∙ ap (λ s. rules.after s y.entry) (sym (team_of_past y in_y))
    one_turn false e =
        ap (λ l. fold_team rules (resolved_from rules links l)) (append-nil kept) ∙ sym (team_of_past y in_y) ∙ sym (stays (team rules (past_of links y)) y.entry e)

    pub team_follows : team rules (past_of links x) ≡ rules.after (team rules (past_of links y)) y.entry
    team_follows =
        team_of_past x in_x ∙ ap (λ l. fold_team rules (resolved_from rules links (filter is_lawful l))) ancestors_follow
        ∙ ap (λ l. fold_team rules (resolved_from rules links l)) (filter_end is_lawful (filter before_y (order_of links)) y (is_lawful y) refl) ∙ one_turn (is_lawful y) refl
