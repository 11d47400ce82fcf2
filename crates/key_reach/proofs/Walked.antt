-- A walk along arrows: the members of a set are taken in turn, and the heads of the arrows from each are added at its end.
use Rattle.std.proofs.Common.{◌≡◌, ℕ, zero, suc, ◌<◌, ◌≤◌, Bool, true, false, cond, List, [], ◌∷◌, ◌++◌, refl, sym, ◌∙◌, ap, subst, inl, inr, ◌⊎◌, length, get_or, take, map, filter, fold, eqb, append_assoc, append-nil, arith}
use Rattle.std.proofs.lemmas.Bool.{eqb-true, eq-eqb}
use Rattle.std.proofs.lemmas.List.{take-append-le, take_all}
use Rattle.team_sets.specs.Members.{IsIn}
use Rattle.team_sets.specs.Closure.{Reaches, is_given, follows}
use Rattle.team_sets.proofs.Pasts.{any_of, in_more}
use Rattle.team_sets.proofs.OrderLeast.{in_filter, of_filter}
use Rattle.key_reach.specs.Numbers.{has_number, added, AreReached}
use Rattle.key_reach.proofs.Members.{in-left}

pub has-in : (ms : List ℕ) (n : ℕ) → has_number ms n ≡ true → IsIn n ms
has-in ms n h = let found = any_of (eqb n) ms h in subst (λ m. IsIn m ms) (sym (eqb-true n found.0 found.2)) found.1

in-last : {A : Type 0} (xs : List A) (x : A) → IsIn x (xs ++ x ∷ [])
in-last [] x = inl refl
in-last (z ∷ zs) x = inr (in-last zs x)

-- one number added: the members before, and that number
kept-one : (ms : List ℕ) (n i : ℕ) → IsIn i ms → IsIn i (added ms n)
kept-one ms n i k = go (has_number ms n)
  where
    go : (b : Bool) → IsIn i (cond b ms (ms ++ n ∷ []))
    go true = k
    go false = in-left ms (n ∷ []) i k

has-one : (ms : List ℕ) (n : ℕ) → IsIn n (added ms n)
has-one ms n = go (has_number ms n) refl
  where
    go : (b : Bool) → has_number ms n ≡ b → IsIn n (cond b ms (ms ++ n ∷ []))
    go true e = has-in ms n e
    go false e = in-last ms n

of-one : (ms : List ℕ) (n i : ℕ) → IsIn i (added ms n) → IsIn i ms ⊎ (n ≡ i)
of-one ms n i k = go (has_number ms n) k
  where
    go : (b : Bool) → IsIn i (cond b ms (ms ++ n ∷ [])) → IsIn i ms ⊎ (n ≡ i)
    go true j = inl j
    go false j = in_more ms n i j

longer-one : (ms : List ℕ) (n : ℕ) → (more : List ℕ) × (added ms n ≡ ms ++ more)
longer-one ms n = go (has_number ms n)
  where
    go : (b : Bool) → (more : List ℕ) × (cond b ms (ms ++ n ∷ []) ≡ ms ++ more)
    go true = ([], sym (append-nil ms))
    go false = (n ∷ [], refl)

-- all of a list added
pub kept-all : (ns ms : List ℕ) (i : ℕ) → IsIn i ms → IsIn i (fold added ms ns)
kept-all [] ms i k = k
kept-all (n ∷ ns) ms i k = kept-all ns (added ms n) i (kept-one ms n i k)

pub has-all : (ns ms : List ℕ) (i : ℕ) → IsIn i ns → IsIn i (fold added ms ns)
has-all [] ms i k = absurd k
has-all (n ∷ ns) ms i (inl e) = kept-all ns (added ms n) i (subst (λ j. IsIn j (added ms n)) e (has-one ms n))
has-all (n ∷ ns) ms i (inr k) = has-all ns (added ms n) i k

pub of-all : (ns ms : List ℕ) (i : ℕ) → IsIn i (fold added ms ns) → IsIn i ms ⊎ IsIn i ns
of-all [] ms i k = inl k
of-all (n ∷ ns) ms i k = go (of-all ns (added ms n) i k)
  where
    next : IsIn i ms ⊎ (n ≡ i) → IsIn i ms ⊎ ((n ≡ i) ⊎ IsIn i ns)
    next (inl j) = inl j
    next (inr e) = inr (inl e)

    go : IsIn i (added ms n) ⊎ IsIn i ns → IsIn i ms ⊎ ((n ≡ i) ⊎ IsIn i ns)
    go (inl j) = next (of-one ms n i j)
    go (inr j) = inr (inr j)

longer-all : (ns ms : List ℕ) → (more : List ℕ) × (fold added ms ns ≡ ms ++ more)
longer-all [] ms = ([], sym (append-nil ms))
longer-all (n ∷ ns) ms =
    let one = longer-one ms n in
    let rest = longer-all ns (added ms n) in
    (one.0 ++ rest.0, rest.1 ∙ ap (λ l. l ++ rest.0) one.1 ∙ append_assoc ms one.0 rest.0)

take-added : (ns ms : List ℕ) (k : ℕ) → k ≤ length ms → take k (fold added ms ns) ≡ take k ms
take-added ns ms k le = let more = longer-all ns ms in ap (λ l. take k l) more.1 ∙ take-append-le k ms more.0 le

pub record IsWalked (arrows : List (ℕ × ℕ)) (given members : List ℕ) (next : ℕ) : Type 0 where
  pub starts : (i : ℕ) → IsIn i given → IsIn i members
  pub sound : (i : ℕ) → IsIn i members → Reaches arrows given i
  pub closed : (a : ℕ × ℕ) → IsIn a arrows → IsIn a.0 (take next members) → IsIn a.1 members

pub walked-first : (arrows : List (ℕ × ℕ)) (given : List ℕ) → IsWalked arrows given given 0
walked-first arrows given = record { starts = λ i k. k; sound = λ i k. is_given i k; closed = λ a k h. absurd h }

in-heads : (arrows : List (ℕ × ℕ)) (a : ℕ × ℕ) → IsIn a arrows → IsIn a.1 (map (λ b. b.1) arrows)
in-heads [] a k = absurd k
in-heads (b ∷ bs) a (inl e) = inl (ap (λ p. p.1) e)
in-heads (b ∷ bs) a (inr k) = inr (in-heads bs a k)

of-heads : (arrows : List (ℕ × ℕ)) (n : ℕ) → IsIn n (map (λ b. b.1) arrows) → (a : ℕ × ℕ) × IsIn a arrows × (a.1 ≡ n)
of-heads [] n k = absurd k
of-heads (b ∷ bs) n (inl e) = (b, inl refl, e)
of-heads (b ∷ bs) n (inr k) = let r = of-heads bs n k in (r.0, inr r.1, r.2)

in-at : (ms : List ℕ) (k : ℕ) → k < length ms → IsIn (get_or ms k 0) ms
in-at [] k lt = absurd (omega (arith, lt))
in-at (m ∷ ms) zero lt = inl refl
in-at (m ∷ ms) (suc k) lt = inr (in-at ms k (omega (arith, lt)))

of-take : (ms : List ℕ) (k i : ℕ) → k < length ms → IsIn i (take (suc k) ms) → IsIn i (take k ms) ⊎ (get_or ms k 0 ≡ i)
of-take [] k i lt j = absurd (omega (arith, lt))
of-take (m ∷ ms) zero i lt (inl e) = inr e
of-take (m ∷ ms) zero i lt (inr j) = absurd j
of-take (m ∷ ms) (suc k) i lt (inl e) = inl (inl e)
of-take (m ∷ ms) (suc k) i lt (inr j) = go (of-take ms k i (omega (arith, lt)) j)
  where
    go : IsIn i (take k ms) ⊎ (get_or ms k 0 ≡ i) → ((m ≡ i) ⊎ IsIn i (take k ms)) ⊎ (get_or ms k 0 ≡ i)
    go (inl h) = inl (inr h)
    go (inr h) = inr h

pub walked-next : (arrows : List (ℕ × ℕ)) (given ms : List ℕ) (next tail : ℕ) (more : List ℕ) → IsWalked arrows given ms next → next < length ms → tail ≡ get_or ms next 0
    → more ≡ fold added ms (map (λ a. a.1) (filter (λ a. eqb a.0 tail) arrows)) → IsWalked arrows given more (suc next)
walked-next arrows given ms next tail more was lt at e = subst (λ l. IsWalked arrows given l (suc next)) (sym e) (record { starts = starts; sound = sound; closed = closed })
  where
    out : List (ℕ × ℕ)
    out = filter (λ a. eqb a.0 tail) arrows

    heads : List ℕ
    heads = map (λ a. a.1) out

    starts : (i : ℕ) → IsIn i given → IsIn i (fold added ms heads)
    starts i k = kept-all heads ms i (was.starts i k)

    sound : (i : ℕ) → IsIn i (fold added ms heads) → Reaches arrows given i
    sound i k = go (of-all heads ms i k)
      where
        go : IsIn i ms ⊎ IsIn i heads → Reaches arrows given i
        go (inl j) = was.sound i j
        go (inr j) =
            let arrow = of-heads out i j in
            let found = of_filter (λ a. eqb a.0 tail) arrow.0 arrows arrow.1 in
            let from : arrow.0.0 ≡ get_or ms next 0 = eqb-true arrow.0.0 tail found.1 ∙ at in
            let tail_reached = was.sound (get_or ms next 0) (in-at ms next lt) in
            subst (λ n. Reaches arrows given n) arrow.2 (follows arrow.0.0 arrow.0.1 found.0 (subst (λ n. Reaches arrows given n) (sym from) tail_reached))

    closed : (a : ℕ × ℕ) → IsIn a arrows → IsIn a.0 (take (suc next) (fold added ms heads)) → IsIn a.1 (fold added ms heads)
    closed a k h = go (of-take ms next a.0 lt (subst (λ l. IsIn a.0 l) (take-added heads ms (suc next) lt) h))
      where
        go : IsIn a.0 (take next ms) ⊎ (get_or ms next 0 ≡ a.0) → IsIn a.1 (fold added ms heads)
        go (inl j) = kept-all heads ms a.1 (was.closed a k j)
        go (inr j) = has-all heads ms a.1 (in-heads out a (in_filter (λ b. eqb b.0 tail) a arrows k (eq-eqb a.0 tail (sym j ∙ sym at))))

pub walked-done : (arrows : List (ℕ × ℕ)) (given ms : List ℕ) (next : ℕ) → IsWalked arrows given ms next → length ms ≤ next → AreReached arrows given ms
walked-done arrows given ms next was le = record { forth = was.sound; back = back }
  where
    back : (i : ℕ) → Reaches arrows given i → IsIn i ms
    back _ (is_given i k) = was.starts i k
    back _ (follows i j k r) = was.closed (i, j) k (subst (λ l. IsIn i l) (sym (take_all next ms le)) (back i r))
