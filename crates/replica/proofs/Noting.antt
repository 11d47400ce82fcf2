-- The pairs of links that strike each other, found one by one.
use Rattle.std.proofs.Common.{◌≡◌, ℕ, zero, suc, ◌+◌, ◌<◌, ◌≤◌, Bool, true, false, ◌&&◌, ◌||◌, ◌==◌, List, [], ◌∷◌, ◌++◌, Option, Some, None, All, nat_lt, get_or, slice_get, length, refl, sym, ◌∙◌, ap, arith}
use Rattle.std.specs.Cmp.Lexicographic.{nat_list_eq_equiv}
use Rattle.std.proofs.lemmas.Bool.{false≢true, and_parts}
use Rattle.std.proofs.lemmas.Bool.Decides.{nat_tests}
use Rattle.std.proofs.lemmas.List.Folds.{list_any-append}
use Rattle.settlement.specs.Ranks.{has_pair}
use Rattle.link_graph.specs.Held.{arrived_of}
use Rattle.team_model.specs.declared.terms.Link.{Link}
use Rattle.team_model.specs.declared.terms.Reason.{Reason}
use Rattle.replica.specs.Judged.{AreJudged, is_lawful_at}
use Rattle.replica.specs.Settling.{IsPairWithin}
use Rattle.replica.specs.Striking.{AreNoted, AreStrikes, AreStrikesBefore, NotesStrike, is_noted, link_strikes, strikes_between}
use Rattle.replica.proofs.Judgements.{judged_few}

pub or_none : (b : Bool) → (b || false) ≡ b
or_none true = refl
or_none false = refl

pub and_none : (b : Bool) → (b && false) ≡ false
and_none true = refl
and_none false = refl

and_all : (b : Bool) → (b && true) ≡ b
and_all true = refl
and_all false = refl

step_on : (n k a b : ℕ) (old s f g : Bool) → k < n → old ≡ (is_noted n k a b && s) → ((a ≡ k) → (b ≡ n) → s ≡ f) → ((a ≡ n) → (b ≡ k) → s ≡ g)
    → ((old || (((k == a) && (n == b)) && f)) || (((n == a) && (k == b)) && g)) ≡ (is_noted n (k + 1) a b && s)
step_on n k a b old s f g less is one two = grind (arith, nat_tests)

step_over : (n k a b : ℕ) (s : Bool) → k < n → (a ≡ k → s ≡ false) → (b ≡ k → s ≡ false) → (is_noted n k a b && s) ≡ (is_noted n (k + 1) a b && s)
step_over n k a b s less one two = grind (arith, nat_tests)

at_first : (n a b : ℕ) (s : Bool) → (is_noted n 0 a b && s) ≡ ((nat_lt a n && nat_lt b n) && s)
at_first n a b s = grind (arith, nat_tests)

at_last : (n a b : ℕ) (s : Bool) → (s ≡ true → a < n + 1) → (s ≡ true → b < n + 1) → (a ≡ n → b ≡ n → s ≡ false) → (is_noted n n a b && s) ≡ s
at_last n a b s one two own = grind (arith, nat_tests)

none_of_last : (n a b : ℕ) (s : Bool) → (s ≡ true → a < n + 1) → (s ≡ true → b < n + 1) → (a ≡ n → s ≡ false) → (b ≡ n → s ≡ false) → ((nat_lt a n && nat_lt b n) && s) ≡ s
none_of_last n a b s one two left right = grind (arith, nat_tests)

-- what is judged stands in the list
pub lawful_within : (reasons : List (Option Reason)) (p : ℕ) → is_lawful_at reasons p ≡ true → p < length reasons
lawful_within [] p h = absurd (false≢true h)
lawful_within (o ∷ os) zero h = omega arith
lawful_within (o ∷ os) (suc p) h = let less : p < length os = lawful_within os p h in omega (arith, less)

module _ (links : List Link) where
  -- one pair more is noted where its link strikes the other
  pub noted_one : (s o : ℕ) (old new : List (ℕ × ℕ)) (b : Bool) → b ≡ link_strikes links s o → b ≡ true → new ≡ old ++ (s, o) ∷ [] → NotesStrike links s o old new
  noted_one s o old new b is yes_it_does pushed a c =
      ap (λ l. has_pair l a c) pushed ∙ list_any-append (λ p. (p.0 == a) && (p.1 == c)) old ((s, o) ∷ [])
      ∙ ap (λ x. has_pair old a c || x) (or_none ((s == a) && (o == c)) ∙ sym (and_all ((s == a) && (o == c))))
      ∙ ap (λ x. has_pair old a c || (((s == a) && (o == c)) && x)) (sym yes_it_does ∙ is)

  pub noted_none : (s o : ℕ) (old new : List (ℕ × ℕ)) (b : Bool) → b ≡ link_strikes links s o → b ≡ false → new ≡ old → NotesStrike links s o old new
  noted_none s o old new b is fails same a c =
      ap (λ l. has_pair l a c) same ∙ sym (or_none (has_pair old a c))
      ∙ ap (λ x. has_pair old a c || x) (sym (and_none ((s == a) && (o == c))))
      ∙ ap (λ x. has_pair old a c || (((s == a) && (o == c)) && x)) (sym fails ∙ is)

  -- no link strikes itself
  pub own_not : (p : ℕ) → link_strikes links p p ≡ false
  own_not p = go (slice_get (arrived_of links) p) refl
    where
      go : (o : Option Link) → slice_get (arrived_of links) p ≡ o → link_strikes links p p ≡ false
      go None e = rw e refl
      go (Some x) e = rw (e, nat_list_eq_equiv.refl x.name) refl

  module _ (reasons : List (Option Reason)) where
    pub left_lawful : (a b : ℕ) → strikes_between links reasons a b ≡ true → (is_lawful_at reasons a ≡ true) × (is_lawful_at reasons b ≡ true)
    left_lawful a b h = and_parts (is_lawful_at reasons a) (is_lawful_at reasons b) (and_parts (is_lawful_at reasons a && is_lawful_at reasons b) (link_strikes links a b) h).0

    unlawful_left : (a b : ℕ) → is_lawful_at reasons a ≡ false → strikes_between links reasons a b ≡ false
    unlawful_left a b e = rw e refl

    unlawful_right : (a b : ℕ) → is_lawful_at reasons b ≡ false → strikes_between links reasons a b ≡ false
    unlawful_right a b e = ap (λ x. (is_lawful_at reasons a && x) && link_strikes links a b) e ∙ ap (λ x. x && link_strikes links a b) (and_none (is_lawful_at reasons a))

    own_none : (a : ℕ) → strikes_between links reasons a a ≡ false
    own_none a = ap (λ x. (is_lawful_at reasons a && is_lawful_at reasons a) && x) (own_not a) ∙ and_none (is_lawful_at reasons a && is_lawful_at reasons a)

    pub noted_first : (n : ℕ) (pairs : List (ℕ × ℕ)) → AreStrikesBefore links reasons n pairs → AreNoted links reasons n 0 pairs
    noted_first n pairs are a b = are a b ∙ sym (at_first n a b (strikes_between links reasons a b))

    -- with the link at k, which is lawful as that at n is
    pub noted_with : (n k : ℕ) (old mid new : List (ℕ × ℕ)) → k < n → is_lawful_at reasons n ≡ true → is_lawful_at reasons k ≡ true → AreNoted links reasons n k old → NotesStrike links k n old mid
        → NotesStrike links n k mid new → AreNoted links reasons n (k + 1) new
    noted_with n k old mid new less last here are one two a b =
        two a b ∙ ap (λ x. x || (((n == a) && (k == b)) && link_strikes links n k)) (one a b)
        ∙ step_on n k a b (has_pair old a b) (strikes_between links reasons a b) (link_strikes links k n) (link_strikes links n k) less (are a b)
        (λ e f. both k n a b e f here last) (λ e f. both n k a b e f last here)
      where
        both : (p q a b : ℕ) → a ≡ p → b ≡ q → is_lawful_at reasons p ≡ true → is_lawful_at reasons q ≡ true → strikes_between links reasons a b ≡ link_strikes links p q
        both p q a b e f yes_p yes_q = λ i. (both_true i && link_strikes links (e i) (f i))
          where
            both_true : (is_lawful_at reasons a && is_lawful_at reasons b) ≡ true
            both_true = ap (λ x. is_lawful_at reasons x && is_lawful_at reasons b) e ∙ ap (λ x. is_lawful_at reasons p && is_lawful_at reasons x) f ∙ ap (λ x. x && is_lawful_at reasons q) yes_p ∙ yes_q

    pub noted_without : (n k : ℕ) (old new : List (ℕ × ℕ)) → k < n → is_lawful_at reasons k ≡ false → AreNoted links reasons n k old → new ≡ old → AreNoted links reasons n (k + 1) new
    noted_without n k old new less here are same a b =
        ap (λ l. has_pair l a b) same ∙ are a b
        ∙ step_over n k a b (strikes_between links reasons a b) less (λ e. unlawful_left a b (ap (λ x. is_lawful_at reasons x) e ∙ here)) (λ e. unlawful_right a b (ap (λ x. is_lawful_at reasons x) e ∙ here))

    module _ (n : ℕ) (size : length reasons ≡ n + 1) where
      pub left_within : (a b : ℕ) → strikes_between links reasons a b ≡ true → a < n + 1
      left_within a b h = let less : a < length reasons = lawful_within reasons a (left_lawful a b h).0 in omega (arith, less, size)

      pub right_within : (a b : ℕ) → strikes_between links reasons a b ≡ true → b < n + 1
      right_within a b h = let less : b < length reasons = lawful_within reasons b (left_lawful a b h).1 in omega (arith, less, size)

      pub noted_all : (pairs : List (ℕ × ℕ)) → AreNoted links reasons n n pairs → AreStrikes links reasons pairs
      noted_all pairs are a b =
          are a b ∙ at_last n a b (strikes_between links reasons a b) (left_within a b) (right_within a b)
          (λ e f. (λ i. strikes_between links reasons (e i) (f i)) ∙ own_none n)

      -- a link that isn't lawful has no strikes
      pub none_noted : (pairs : List (ℕ × ℕ)) → is_lawful_at reasons n ≡ false → AreStrikesBefore links reasons n pairs → AreStrikes links reasons pairs
      none_noted pairs last are a b =
          are a b ∙ none_of_last n a b (strikes_between links reasons a b) (left_within a b) (right_within a b)
          (λ e. unlawful_left a b (ap (λ x. is_lawful_at reasons x) e ∙ last)) (λ e. unlawful_right a b (ap (λ x. is_lawful_at reasons x) e ∙ last))

    -- the positions of the pairs are given
    pub pairs_within : (pairs : List (ℕ × ℕ)) → AreJudged links reasons → AreStrikes links reasons pairs → All (IsPairWithin (length (arrived_of links))) pairs
    pairs_within pairs judged are i d h =
        let p : ℕ × ℕ = get_or pairs i d in
        let few : length reasons ≤ length (arrived_of links) = judged_few links reasons judged in
        let both = left_lawful p.0 p.1 (sym (are p.0 p.1) ∙ has_at pairs i d h) in
        let one : p.0 < length reasons = lawful_within reasons p.0 both.0 in
        let two : p.1 < length reasons = lawful_within reasons p.1 both.1 in (
          omega (arith, few, one),
          omega (arith, few, two),
        )
      where
        own : (n : ℕ) → (n == n) ≡ true
        own n = grind (arith, nat_tests)

        has_at : (ps : List (ℕ × ℕ)) (i : ℕ) (d : ℕ × ℕ) → i < length ps → has_pair ps (get_or ps i d).0 (get_or ps i d).1 ≡ true
        has_at [] i d h = absurd (omega (arith, h))
        has_at (p ∷ ps) zero d h = rw (own p.0, own p.1) refl
        has_at (p ∷ ps) (suc i) d h =
            ap (λ x. ((p.0 == (get_or ps i d).0) && (p.1 == (get_or ps i d).1)) || x) (has_at ps i d (omega (arith, h))) ∙ or_all ((p.0 == (get_or ps i d).0) && (p.1 == (get_or ps i d).1))
          where
            or_all : (b : Bool) → (b || true) ≡ true
            or_all true = refl
            or_all false = refl

-- where one reason more is found, the lawful ones before it are as before
pub lawful_before : (reasons : List (Option Reason)) (o : Option Reason) (new : List (Option Reason)) (n : ℕ) → length reasons ≡ n → new ≡ reasons ++ o ∷ []
    → (p : ℕ) → is_lawful_at reasons p ≡ (nat_lt p n && is_lawful_at new p)
lawful_before reasons o new n size is p = front reasons p ∙ ap (λ m. nat_lt p m && is_lawful_at (reasons ++ o ∷ []) p) size ∙ ap (λ l. nat_lt p n && is_lawful_at l p) (sym is)
  where
    front : (os : List (Option Reason)) (p : ℕ) → is_lawful_at os p ≡ (nat_lt p (length os) && is_lawful_at (os ++ o ∷ []) p)
    front [] p = grind (arith, nat_tests)
    front (r ∷ rs) zero = grind (arith, nat_tests)
    front (r ∷ rs) (suc p) = front rs p ∙ ap (λ x. x && is_lawful_at (rs ++ o ∷ []) p) (shift p (length rs))
      where
        shift : (p n : ℕ) → nat_lt p n ≡ nat_lt (suc p) (suc n)
        shift p n = grind (arith, nat_tests)

-- and so are the strikes between the links before it
pub strikes_before : (links : List Link) (reasons : List (Option Reason)) (o : Option Reason) (new : List (Option Reason)) (n : ℕ) (pairs : List (ℕ × ℕ)) → length reasons ≡ n → new ≡ reasons ++ o ∷ []
    → AreStrikes links reasons pairs → AreStrikesBefore links new n pairs
strikes_before links reasons o new n pairs size is are a b =
    are a b ∙ ap (λ x. x && link_strikes links a b) (both (is_lawful_at reasons a) (is_lawful_at reasons b) (is_lawful_at new a) (is_lawful_at new b) (nat_lt a n) (nat_lt b n) (one a) (one b))
    ∙ regroup (nat_lt a n) (nat_lt b n) (is_lawful_at new a && is_lawful_at new b) (link_strikes links a b)
  where
    one : (p : ℕ) → is_lawful_at reasons p ≡ (nat_lt p n && is_lawful_at new p)
    one p = lawful_before reasons o new n size is p

    regroup : (a b c d : Bool) → (((a && b) && c) && d) ≡ ((a && b) && (c && d))
    regroup true true c d = refl
    regroup true false c d = refl
    regroup false b c d = refl

    both : (x y v w s t : Bool) → x ≡ (s && v) → y ≡ (t && w) → (x && y) ≡ ((s && t) && (v && w))
    both x y v w true true e f = ap (λ z. z && y) e ∙ ap (λ z. v && z) f
    both x y v w true false e f = ap (λ z. x && z) f ∙ and_none x
    both x y v w false t e f = ap (λ z. z && y) e
