-- What becomes of the links of the resolved list, each at its turn.
use Rattle.std.proofs.Common.{◌≡◌, ◌≢◌, ℕ, ◌<◌, Bool, true, false, cond, List, [], ◌∷◌, Option, Some, None, refl, sym, ◌∙◌, ap, inl, inr, length, set, get_or, slice_get, take_while, not, fold, arith, one-add}
use Rattle.std.specs.Option.{option_map_or}
use Rattle.std.specs.List.{AllByRecursion, IsDistinct, cons_option}
use Rattle.std.specs.Cmp.Lexicographic.{bytes_decides}
use Rattle.std.proofs.lemmas.Bool.{false≢true, or_parts}
use Rattle.std.proofs.lemmas.List.{get_or-set_other, get_or-set_same, length-set}
use Rattle.team_sets.specs.Names.{Name, same_name, has_name}
use Rattle.team_sets.specs.Members.{IsIn}
use Rattle.team_sets.specs.Order.{names}
use Rattle.team_sets.specs.OrderLaws.{IsSet}
use Rattle.team_sets.proofs.Pasts.{same_name-is}
use Rattle.team_model.specs.State.{State}
use Rattle.team_model.specs.Judging.{Rules, name_of}
use Rattle.team_model.specs.declared.terms.Link.{Link}
use Rattle.team_model.specs.declared.terms.Reason.{Reason}
use Rattle.team_model.specs.declared.terms.Verdict.{Verdict}
use Rattle.team_model.specs.declared.terms.Verdict.TheVariants.{Refused}
use Rattle.link_graph.specs.Positions.{at_places}
use Rattle.link_graph.proofs.Names.{get_within}
use Rattle.team_sets.proofs.Lists.{same_flip}
use Rattle.team_sets.proofs.Distinct.{apart}
use Rattle.replica.specs.Judged.{noted, turned}
use Rattle.link_graph.proofs.Arrived.{one_place}

module _ (rules : Rules) where
  -- what becomes of x over links that have their turn one after the other
  abbrev pub turn_in : State → List Link → Link → Verdict → Verdict
  turn_in s [] x v = v
  turn_in s (y ∷ ys) x v = turn_in (rules.after s y.entry) ys x (cond (same_name y.name x.name) (option_map_or (λ r. Refused r) (rules.refusal s y.entry) v) v)

  length-noted : (vs : List Verdict) (p : ℕ) (o : Option Reason) → length (noted vs p o) ≡ length vs
  length-noted vs p None = refl
  length-noted vs p (Some r) = length-set vs p (Refused r)

  pub length-turned : (placed : List Link) (s : State) (ps : List ℕ) (vs : List Verdict) → length (turned rules placed s ps vs) ≡ length vs
  length-turned placed s [] vs = refl
  length-turned placed s (p ∷ ps) vs = go (slice_get placed p) (length-turned placed s ps vs) (λ t ws. length-turned placed t ps ws)
    where
      go : (o : Option Link) → length (turned rules placed s ps vs) ≡ length vs → ((t : State) (ws : List Verdict) → length (turned rules placed t ps ws) ≡ length ws)
          → length (option_map_or (λ y. turned rules placed (rules.after s y.entry) ps (noted vs p (rules.refusal s y.entry))) o (turned rules placed s ps vs)) ≡ length vs
      go None same more = same
      go (Some y) same more = more (rules.after s y.entry) (noted vs p (rules.refusal s y.entry)) ∙ length-noted vs p (rules.refusal s y.entry)

  noted_at : (vs : List Verdict) (p i : ℕ) (o : Option Reason) (b : Bool) (d : Verdict) → i < length vs → (b ≡ true → p ≡ i) → (b ≡ false → i ≢ p)
      → get_or (noted vs p o) i d ≡ cond b (option_map_or (λ r. Refused r) o (get_or vs i d)) (get_or vs i d)
  noted_at vs p i None true d h same apart = refl
  noted_at vs p i None false d h same apart = refl
  noted_at vs p i (Some r) true d h same apart =
      let short : p < length vs = omega (arith, h, same refl) in
      ap (λ j. get_or (set vs p (Refused r)) j d) (sym (same refl)) ∙ get_or-set_same vs p (Refused r) d short
  noted_at vs p i (Some r) false d h same apart = get_or-set_other vs p i (Refused r) d (apart refl)

  module _ (placed : List Link) (set_of : IsSet name_of placed) (i : ℕ) (x : Link) (at : slice_get placed i ≡ Some x) (d : Verdict) where
    pub turned_at : (s : State) (ps : List ℕ) (vs : List Verdict) → length placed ≡ length vs → get_or (turned rules placed s ps vs) i d ≡ turn_in s (at_places placed ps) x (get_or vs i d)
    turned_at s [] vs size = refl
    turned_at s (p ∷ ps) vs size = go (slice_get placed p) refl (turned_at s ps vs size) (λ t ws e. turned_at t ps ws e)
      where
        go : (o : Option Link) → slice_get placed p ≡ o → get_or (turned rules placed s ps vs) i d ≡ turn_in s (at_places placed ps) x (get_or vs i d)
            → ((t : State) (ws : List Verdict) → length placed ≡ length ws → get_or (turned rules placed t ps ws) i d ≡ turn_in t (at_places placed ps) x (get_or ws i d))
            → get_or (option_map_or (λ y. turned rules placed (rules.after s y.entry) ps (noted vs p (rules.refusal s y.entry))) o (turned rules placed s ps vs)) i d
            ≡ turn_in s (cons_option o (at_places placed ps)) x (get_or vs i d)
        go None e same more = same
        go (Some y) e same more =
            let within : i < length placed = get_within placed i x at in
            more (rules.after s y.entry) (noted vs p (rules.refusal s y.entry)) (size ∙ sym (length-noted vs p (rules.refusal s y.entry)))
            ∙ ap (λ v. turn_in (rules.after s y.entry) (at_places placed ps) x v)
            (noted_at vs p i (rules.refusal s y.entry) (same_name y.name x.name) d (omega (arith, within, size))
            (λ h. one_place placed set_of p i y x e at (same_name-is y.name x.name h))
            (λ h j. let one : ◌≡◌ {A = Option Link} (Some x) (Some y) = sym at ∙ ap (λ n. slice_get placed n) j ∙ e in
            let link : y ≡ x = cc in
            false≢true (sym h ∙ (bytes_decides y.name x.name).1 (ap name_of link))))

  -- a link that isn't one of them keeps what it has
  pub turn_none : (s : State) (ys : List Link) (x : Link) (v : Verdict) → has_name (names name_of ys) x.name ≡ false → turn_in s ys x v ≡ v
  turn_none s [] x v h = refl
  turn_none s (y ∷ ys) x v h =
      let parts = or_parts (same_name y.name x.name) (has_name (names name_of ys) x.name) h in
      ap (λ b. turn_in (rules.after s y.entry) ys x (cond b (option_map_or (λ r. Refused r) (rules.refusal s y.entry) v) v)) parts.0
      ∙ turn_none (rules.after s y.entry) ys x v parts.1

  taken_here : (y : Link) (ys : List Link) (n : Name) → same_name y.name n ≡ true → take_while (λ z. not (same_name z.name n)) (y ∷ ys) ≡ []
  taken_here y ys n h = rw h refl

  taken_on : (y : Link) (ys : List Link) (n : Name) → same_name y.name n ≡ false → take_while (λ z. not (same_name z.name n)) (y ∷ ys) ≡ y ∷ take_while (λ z. not (same_name z.name n)) ys
  taken_on y ys n h = rw (h, one-add) refl

  -- a link that is one of them is refused or not by those before it
  pub turn_here : (s : State) (ys : List Link) (x : Link) (v : Verdict) → IsSet name_of ys → IsIn x ys
      → turn_in s ys x v ≡ option_map_or (λ r. Refused r) (rules.refusal (fold (λ t z. rules.after t z.entry) s (take_while (λ z. not (same_name z.name x.name)) ys)) x.entry) v
  unfolding IsDistinct
  turn_here s [] x v set_of k = absurd k
  turn_here s (y ∷ ys) x v set_of (inl e) =
      let here : same_name y.name x.name ≡ true = (bytes_decides y.name x.name).1 (ap name_of e) in
      let none : has_name (names name_of ys) x.name ≡ false = ap (λ (z : Link). has_name (names name_of ys) z.name) (sym e) ∙ all_apart y.name ys set_of.0 in
      ap (λ b. turn_in (rules.after s y.entry) ys x (cond b (option_map_or (λ r. Refused r) (rules.refusal s y.entry) v) v)) here
      ∙ turn_none (rules.after s y.entry) ys x (option_map_or (λ r. Refused r) (rules.refusal s y.entry) v) none
      ∙ ap (λ (z : Link). option_map_or (λ r. Refused r) (rules.refusal s z.entry) v) e
      ∙ ap (λ l. option_map_or (λ r. Refused r) (rules.refusal (fold (λ t z. rules.after t z.entry) s l) x.entry) v) (sym (taken_here y ys x.name here))
    where
      all_apart : (n : Name) (zs : List Link) → AllByRecursion (λ m. same_name n m ≡ false) (names name_of zs) → has_name (names name_of zs) n ≡ false
      all_apart n [] h = refl
      all_apart n (z ∷ zs) h = rw (same_flip z.name n, h.0) (all_apart n zs h.1)
  turn_here s (y ∷ ys) x v set_of (inr k) =
      let other : same_name y.name x.name ≡ false = apart name_of y.name x ys set_of.0 k in
      ap (λ b. turn_in (rules.after s y.entry) ys x (cond b (option_map_or (λ r. Refused r) (rules.refusal s y.entry) v) v)) other
      ∙ turn_here (rules.after s y.entry) ys x v set_of.1 k
      ∙ ap (λ l. option_map_or (λ r. Refused r) (rules.refusal (fold (λ t z. rules.after t z.entry) s l) x.entry) v) (sym (taken_on y ys x.name other))
