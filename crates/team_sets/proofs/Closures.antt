-- The closure has exactly what is reached.
use Rattle.std.proofs.Common.{◌≡◌, ℕ, zero, suc, Bool, true, false, not, cond, List, [], ◌∷◌, ◌++◌, filter, append-nil, refl, sym, ◌∙◌, ap, subst, inl, inr, ◌⊎◌, ◌↔◌, map, length, ◌≤◌, ◌<◌, arith}
use Rattle.std.proofs.lemmas.Bool.{false≢true, and_parts, and_from, or_cases, or_left, or_right, not_from_true, not_from_false, not-true}
use Rattle.team_sets.specs.Members.{IsIn}
use Rattle.team_sets.specs.Closure.{has, leads_out, grow, grown, closure, Reaches, is_given, follows}
use Rattle.team_sets.proofs.OrderLeast.{in_filter, of_filter, filter_shrinks, false_where_none}

shorter : {B : Type 0} (p : B → Bool) (bs : List B) → length (filter p bs) ≤ length bs
shorter p [] = omega arith
shorter p (b ∷ bs) = go (p b) (shorter p bs)
  where
    go : (t : Bool) → length (filter p bs) ≤ length bs → length (cond t (b ∷ filter p bs) (filter p bs)) ≤ suc (length bs)
    go true h = omega arith
    go false h = omega arith

module _ {A : Type 0} (same : A → A → Bool) (decides : (x y : A) → (same x y ≡ true → x ≡ y) × (x ≡ y → same x y ≡ true)) where
  has_in : (xs : List A) (x : A) → IsIn x xs → has same xs x ≡ true
  has_in [] x k = absurd k
  has_in (y ∷ ys) x (inl e) = or_left (same x y) (has same ys x) ((decides x y).1 (sym e))
  has_in (y ∷ ys) x (inr k) = or_right (same x y) (has same ys x) (has_in ys x k)

  in_has : (xs : List A) (x : A) → has same xs x ≡ true → IsIn x xs
  in_has [] x h = absurd (false≢true h)
  in_has (y ∷ ys) x h = go (or_cases (same x y) (has same ys x) h) (in_has ys x)
    where
      go : (same x y ≡ true) ⊎ (has same ys x ≡ true) → (has same ys x ≡ true → IsIn x ys) → (y ≡ x) ⊎ IsIn x ys
      go (inl e) more = inl (sym ((decides x y).0 e))
      go (inr k) more = inr (more k)

  in_left : (xs ys : List A) (x : A) → IsIn x xs → IsIn x (xs ++ ys)
  in_left [] ys x k = absurd k
  in_left (z ∷ zs) ys x (inl e) = inl e
  in_left (z ∷ zs) ys x (inr k) = inr (in_left zs ys x k)

  in_right : (xs ys : List A) (x : A) → IsIn x ys → IsIn x (xs ++ ys)
  in_right [] ys x k = k
  in_right (z ∷ zs) ys x k = inr (in_right zs ys x k)

  in_either : (xs ys : List A) (x : A) → IsIn x (xs ++ ys) → IsIn x xs ⊎ IsIn x ys
  in_either [] ys x k = inr k
  in_either (z ∷ zs) ys x (inl e) = inl (inl e)
  in_either (z ∷ zs) ys x (inr k) = go (in_either zs ys x k)
    where
      go : IsIn x zs ⊎ IsIn x ys → ((z ≡ x) ⊎ IsIn x zs) ⊎ IsIn x ys
      go (inl h) = inl (inr h)
      go (inr h) = inr h

  heads : List (A × A) → List A
  heads arrows = map (λ a. a.1) arrows

  in_heads : (arrows : List (A × A)) (a : A × A) → IsIn a arrows → IsIn a.1 (map (λ b. b.1) arrows)
  in_heads [] a k = absurd k
  in_heads (b ∷ bs) a (inl e) = inl (ap (λ p. p.1) e)
  in_heads (b ∷ bs) a (inr k) = inr (in_heads bs a k)

  of_heads : (arrows : List (A × A)) (x : A) → IsIn x (map (λ b. b.1) arrows) → (a : A × A) × IsIn a arrows × (a.1 ≡ x)
  of_heads [] x k = absurd k
  of_heads (b ∷ bs) x (inl e) = (b, inl refl, e)
  of_heads (b ∷ bs) x (inr k) = let r = of_heads bs x k in (r.0, inr r.1, r.2)

  module _ (arrows : List (A × A)) where
    keeps : (n : ℕ) (got : List A) (x : A) → IsIn x got → IsIn x (grown same n arrows got)
    keeps zero got x k = k
    keeps (suc n) got x k = keeps n (grow same arrows got) x (in_left got (map (λ a. a.1) (filter (leads_out same got) arrows)) x k)

    rests : (n : ℕ) (got : List A) → filter (leads_out same got) arrows ≡ [] → grown same n arrows got ≡ got
    rests zero got e = refl
    rests (suc n) got e =
        let here : grow same arrows got ≡ got = rw e (append-nil got) in
        ap (λ g. grown same n arrows g) here ∙ rests n got e

    is_closed : (n : ℕ) (got : List A) → length (filter (λ a. not (has same got a.1)) arrows) ≤ n
        → (a : A × A) → IsIn a arrows → IsIn a.0 (grown same n arrows got) → IsIn a.1 (grown same n arrows got)
    is_closed zero got few a k h = go (has same got a.1) refl
      where
        go : (b : Bool) → has same got a.1 ≡ b → IsIn a.1 got
        go true e = in_has got a.1 e
        go false e = absurd (false≢true (sym (false_where_none (filter (λ b. not (has same got b.1)) arrows) a (not (has same got a.1)) few (in_filter (λ b. not (has same got b.1)) a arrows k)) ∙ not_from_false (has same got a.1) e))
    is_closed (suc n) got few a k h = go (filter (leads_out same got) arrows) refl (is_closed n (grow same arrows got))
      where
        at_rest : filter (leads_out same got) arrows ≡ [] → IsIn a.1 (grown same (suc n) arrows got)
        at_rest e = by (has same got a.1) refl
          where
            still : grown same (suc n) arrows got ≡ got
            still = rests (suc n) got e

            by : (b : Bool) → has same got a.1 ≡ b → IsIn a.1 (grown same (suc n) arrows got)
            by true f = keeps (suc n) got a.1 (in_has got a.1 f)
            by false f = absurd (subst (λ l. IsIn a l) e (in_filter (leads_out same got) a arrows k
                (and_from (has same got a.0) (not (has same got a.1)) (has_in got a.0 (subst (λ l. IsIn a.0 l) still h)) (not_from_false (has same got a.1) f))))

        go : (out : List (A × A)) → filter (leads_out same got) arrows ≡ out
            → (length (filter (λ a. not (has same (grow same arrows got) a.1)) arrows) ≤ n → (a : A × A) → IsIn a arrows → IsIn a.0 (grown same n arrows (grow same arrows got)) → IsIn a.1 (grown same n arrows (grow same arrows got)))
            → IsIn a.1 (grown same (suc n) arrows got)
        go [] e more = at_rest e
        go (b ∷ bs) e more = more smaller a k h
          where
            found : IsIn b arrows × (leads_out same got b ≡ true)
            found = of_filter (leads_out same got) b arrows (subst (λ l. IsIn b l) (sym e) (inl refl))

            mono : (c : A × A) → not (has same (grow same arrows got) c.1) ≡ true → not (has same got c.1) ≡ true
            mono c f = back (has same got c.1) refl
              where
                back : (t : Bool) → has same got c.1 ≡ t → not t ≡ true
                back false g = refl
                back true g = absurd (false≢true (sym (not-true (has same (grow same arrows got) c.1) f)
                    ∙ has_in (grow same arrows got) c.1 (in_left got (map (λ a. a.1) (filter (leads_out same got) arrows)) c.1 (in_has got c.1 g))))

            smaller : length (filter (λ a. not (has same (grow same arrows got) a.1)) arrows) ≤ n
            smaller =
                let less : length (filter (λ a. not (has same (grow same arrows got) a.1)) arrows) < length (filter (λ a. not (has same got a.1)) arrows) =
                filter_shrinks (λ a. not (has same got a.1)) (λ a. not (has same (grow same arrows got) a.1)) b arrows mono found.0
                (and_parts (has same got b.0) (not (has same got b.1)) found.1).1
                (not_from_true (has same (grow same arrows got) b.1) (has_in (grow same arrows got) b.1
                (in_right got (map (λ a. a.1) (filter (leads_out same got) arrows)) b.1 (in_heads (filter (leads_out same got) arrows) b (subst (λ l. IsIn b l) (sym e) (inl refl)))))) in
                omega arith

    all_reached : (given : List A) (n : ℕ) (got : List A) → ((x : A) → IsIn x got → Reaches arrows given x) → (x : A) → IsIn x (grown same n arrows got) → Reaches arrows given x
    all_reached given zero got all x k = all x k
    all_reached given (suc n) got all x k = all_reached given n (grow same arrows got) step x k
      where
        step : (y : A) → IsIn y (grow same arrows got) → Reaches arrows given y
        step y j = go (in_either got (map (λ a. a.1) (filter (leads_out same got) arrows)) y j)
          where
            go : IsIn y got ⊎ IsIn y (map (λ a. a.1) (filter (leads_out same got) arrows)) → Reaches arrows given y
            go (inl h) = all y h
            go (inr h) =
                let a = of_heads (filter (leads_out same got) arrows) y h in
                let f = of_filter (leads_out same got) a.0 arrows a.1 in
                subst (λ z. Reaches arrows given z) a.2
                (follows a.0.0 a.0.1 f.0 (all a.0.0 (in_has got a.0.0 (and_parts (has same got a.0.0) (not (has same got a.0.1)) f.1).0)))

    has_reached : (given : List A) (x : A) → Reaches arrows given x → IsIn x (closure same arrows given)
    has_reached given _ (is_given x k) = keeps (length arrows) given x k
    has_reached given _ (follows x y k r) =
        is_closed (length arrows) given (shorter (λ a. not (has same given a.1)) arrows) (x, y) k (has_reached given x r)

    pub closure-reaches : (given : List A) (x : A) → (has same (closure same arrows given) x ≡ true) ↔ Reaches arrows given x
    closure-reaches given x = (
      λ h. all_reached given (length arrows) given (λ y k. is_given y k) x (in_has (closure same arrows given) x h),
      λ r. has_in (closure same arrows given) x (has_reached given x r),
    )
