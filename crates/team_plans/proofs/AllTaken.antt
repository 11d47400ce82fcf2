-- No planned line is left.
use Rattle.std.proofs.Common.{◌≡◌, ◌≤◌, ◌+◌, ℕ, true, false, not, ◌&&◌, cond, List, [], ◌∷◌, ◌++◌, append-nil, filter, fold, length, map, refl, sym, ◌∙◌, ap, subst, inl, inr, ◌⊎◌, arith}
use Rattle.std.specs.List.{AllByRecursion, list_any}
use Rattle.std.specs.List.Sorted.{IsStrictlySortedBy}
use Rattle.std.specs.Ordering.{is_eq, ordering_then}
use Rattle.std.specs.Str.{bytes_eq}
use Rattle.std.specs.declared.cmp.Ordering.{Ordering}
use Rattle.std.specs.declared.cmp.Ordering.TheVariants.{Less, Equal, Greater}
use Rattle.std.proofs.lemmas.Bool.{and_parts, false_from_ne_true, false≢true}
use Rattle.std.proofs.lemmas.List.{length-append}
use Rattle.std.proofs.lemmas.List.Kept.{IsStrictlySortedBy-filter}
use Rattle.team_sets.specs.Closure.{has}
use Rattle.team_sets.specs.Members.{IsIn}
use Rattle.team_sets.proofs.Pasts.{all_at, any_of}
use Rattle.tg_text.specs.Order.{key_cmp, scope_cmp}
use Rattle.tg_text.specs.declared.keys.BoxLine.{BoxLine}
use Rattle.tg_text.specs.declared.keys.KeyId.{KeyId}
use Rattle.tg_text.specs.declared.keys.Scope.{Scope}
use Rattle.acts.specs.declared.entry.Entry.{Entry}
use Rattle.key_reach.specs.Keys.{Table, clean, current_keys, has_box, is_tainted, lacks_box, same_key, same_scope}
use Rattle.key_reach.specs.Laws as law
use Rattle.key_reach.proofs.Currents.{current-ascends, sorted-flat}
use Rattle.key_reach.proofs.Equal.{key-is, key-same}
use Rattle.key_reach.proofs.Meeting.{in-has-scope, scope-same}
use Rattle.key_reach.proofs.Members.{in-either}
use Rattle.key_reach.proofs.Numbered.{in-map, of-map}
use Rattle.key_laws.proofs.Lacking.{held_box}
use Rattle.team_model.specs.KeyLines.{box_fits, new_fits, same_line, take_box, take_new, taken_boxes, taken_news}
use Rattle.team_model.specs.KeyTables.{live_scopes}
use Rattle.team_model.specs.Limits.{most_boxes}
use Rattle.team_model.specs.State.{State, lists_device}
use Rattle.team_state.specs.Kept.{IsOrdered}
use Rattle.team_state.proofs.Lawful.{key-one-each, key-scopes-ascend}
use Rattle.team_reducer.proofs.Pasts.{ordered-keys}
use Rattle.team_reducer.proofs.Taken.{others-taken}
use Rattle.team_plans.specs.Plans.{ends_of, is_planned, lacking, lacks_by_content, next_keys, plan_news, plan_scopes}
use Rattle.team_plans.proofs.Boxed.{IsGood, good_fits}
use Rattle.team_plans.proofs.Planned.{news_fit, scopes_are}
use Rattle.team_plans.proofs.PlanLines.{IsPlanOf, due_then, line_good, line_lacks, not_before, renewed, tables, taken}

one_after : {A : Type 0} (xs ys : List A) (x : A) → (xs ++ x ∷ []) ++ ys ≡ xs ++ x ∷ ys
one_after [] ys x = refl
one_after (z ∷ zs) ys x = ap (λ l. z ∷ l) (one_after zs ys x)

pub not_less : (r : Ordering) → is_eq r ≡ true → r ≡ Less → ⊥
not_less r equal less = false≢true (sym (ap is_eq less) ∙ equal)

module _ (t : State) (e : Entry) where
  -- of each two of these keys the first one's scope comes before the other's
  abbrev ScopesBefore : List KeyId → List KeyId → Type 0
  ScopesBefore got news = (g k : KeyId) → IsIn g got → IsIn k news → scope_cmp g.scope k.scope ≡ Less

  abbrev scopes_of : List KeyId → List Scope
  scopes_of ks = map (λ k. k.scope) ks

  -- keys that fit, with scopes that ascend, are all taken
  all_news : (news got : List KeyId) → IsStrictlySortedBy scope_cmp (scopes_of news) → ScopesBefore got news → ((k : KeyId) → IsIn k news → new_fits t e k ≡ true)
      → fold (take_new t e) got news ≡ got ++ news
  unfolding IsStrictlySortedBy
  all_news [] got up before fits = sym (append-nil got)
  all_news (k ∷ ks) got up before fits =
      ap (λ g. fold (take_new t e) g ks) step ∙ all_news ks (got ++ k ∷ []) up.1 further (λ j i. fits j (inr i)) ∙ one_after got ks k
    where
      new : has same_scope (scopes_of got) k.scope ≡ false
      new = false_from_ne_true (has same_scope (scopes_of got) k.scope) (λ h.
          let g = of-map (λ (g : KeyId). g.scope) k.scope got (in-has-scope (scopes_of got) k.scope h) in
          let less = before g.0 k g.1 (inl refl) in
          not_less (scope_cmp k.scope k.scope) (scope-same k.scope) (subst (λ c. scope_cmp c k.scope ≡ Less) g.2 less))

      step : take_new t e got k ≡ got ++ k ∷ []
      step = λ i. cond (fits k (inl refl) i && not (new i)) (got ++ k ∷ []) got

      further : ScopesBefore (got ++ k ∷ []) ks
      further g j m n = go (in-either got (k ∷ []) g m)
        where
          go : IsIn g got ⊎ IsIn g (k ∷ []) → scope_cmp g.scope j.scope ≡ Less
          go (inl o) = before g j o (inr n)
          go (inr (inl is)) =
              subst (λ (h : KeyId). scope_cmp h.scope j.scope ≡ Less) is (all_at (λ c. scope_cmp k.scope c ≡ Less) (scopes_of ks) up.0 j.scope (in-map (λ (j : KeyId). j.scope) j ks n))
          go (inr (inr o)) = absurd o

-- the next keys of scopes are of these scopes
pub scopes_are_those : (t : State) (scopes : List Scope) (publics : List (List ℕ)) → length publics ≡ length scopes → map (λ (k : KeyId). k.scope) (next_keys t scopes publics) ≡ scopes
scopes_are_those t [] publics each = refl
scopes_are_those t (c ∷ cs) [] each = absurd (omega (arith, each))
scopes_are_those t (c ∷ cs) (p ∷ ps) each = ap (λ l. c ∷ l) (scopes_are_those t cs ps (omega (arith, each)))

-- pairs by their contents, and then by their recipients
abbrev content_cmp : KeyId × KeyId → KeyId × KeyId → Ordering
content_cmp a b = ordering_then (key_cmp a.1 b.1) (key_cmp a.0 b.0)

pub then_second : (r s : Ordering) → is_eq r ≡ true → ordering_then r s ≡ s
then_second Less s e = absurd (false≢true e)
then_second Equal s e = refl
then_second Greater s e = absurd (false≢true e)

content_itself : (p : KeyId × KeyId) → content_cmp p p ≡ Less → ⊥
content_itself p less = not_less (key_cmp p.0 p.0) (key-same p.0) (sym (then_second (key_cmp p.1 p.1) (key_cmp p.0 p.0) (key-same p.1)) ∙ less)

module _ (t : Table) (up : law.IsOrdered t) where
  clean_ascends : IsStrictlySortedBy key_cmp (clean t)
  clean_ascends = IsStrictlySortedBy-filter key_cmp (λ k. not (is_tainted t k)) (current_keys t) (current-ascends t up)

  -- the recipients of one content, in order
  pairs_ascend : (of : KeyId) (tos : List KeyId) → IsStrictlySortedBy key_cmp tos → IsStrictlySortedBy content_cmp (map (λ to. (to, of)) tos)
  unfolding IsStrictlySortedBy
  pairs_ascend of [] up = tt
  pairs_ascend of (x ∷ xs) up = (all xs up.0, pairs_ascend of xs up.1)
    where
      all : (ys : List KeyId) → AllByRecursion (λ y. key_cmp x y ≡ Less) ys → AllByRecursion (λ q. content_cmp (x, of) q ≡ Less) (map (λ to. (to, of)) ys)
      all [] h = tt
      all (y ∷ ys) h = (then_second (key_cmp of of) (key_cmp x y) (key-same of) ∙ h.0, all ys h.1)

  by_content_ascends : IsStrictlySortedBy content_cmp (lacks_by_content t)
  by_content_ascends = sorted-flat key_cmp content_cmp (lacking t) (clean t) clean_ascends each cross
    where
      each : (of : KeyId) → IsIn of (clean t) → IsStrictlySortedBy content_cmp (lacking t of)
      each of i = pairs_ascend of (filter (λ to. lacks_box t to of) (clean t)) (IsStrictlySortedBy-filter key_cmp (λ to. lacks_box t to of) (clean t) clean_ascends)

      cross : (of other : KeyId) (a b : KeyId × KeyId) → key_cmp of other ≡ Less → IsIn a (lacking t of) → IsIn b (lacking t other) → content_cmp a b ≡ Less
      cross of other a b less i j =
          let first = of-map (λ to. (to, of)) a (filter (λ to. lacks_box t to of) (clean t)) i in
          let second = of-map (λ to. (to, other)) b (filter (λ to. lacks_box t to other) (clean t)) j in
          let contents : key_cmp a.1 b.1 ≡ Less
          = subst (λ x. key_cmp x b.1 ≡ Less) (ap (λ (p : KeyId × KeyId). p.1) first.2) (subst (λ y. key_cmp of y ≡ Less) (ap (λ (p : KeyId × KeyId). p.1) second.2) less) in
          ap (λ r. ordering_then r (key_cmp a.0 b.0)) contents

module _ (t : State) (keys : List KeyId) where
  abbrev PairsBefore : List BoxLine → List BoxLine → Type 0
  PairsBefore got lines = (g b : BoxLine) → IsIn g got → IsIn b lines → content_cmp (ends_of g) (ends_of b) ≡ Less

  -- boxes that fit but for equal lines, none of whose pairs is held, and whose pairs ascend, are all taken
  all_lines : (lines got : List BoxLine) → IsStrictlySortedBy content_cmp (map ends_of lines) → PairsBefore got lines → ((b : BoxLine) → IsIn b lines → IsGood t keys b)
      → ((b : BoxLine) → IsIn b lines → has_box t.boxes b.to b.of ≡ false) → length (t.boxes ++ got) + length lines ≤ most_boxes → fold (take_box t keys) got lines ≡ got ++ lines
  unfolding IsStrictlySortedBy
  all_lines [] got up before good new room = sym (append-nil got)
  all_lines (b ∷ bs) got up before good new room =
      ap (λ g. fold (take_box t keys) g bs) step ∙ all_lines bs (got ++ b ∷ []) up.1 further (λ c i. good c (inr i)) (λ c i. new c (inr i)) room_then ∙ one_after got bs b
    where
      same_ends : (x : BoxLine) → same_line b x ≡ true → (b.to ≡ x.to) × (b.of ≡ x.of)
      same_ends x h =
          let one = and_parts (same_key b.to x.to) (same_key b.of x.of && bytes_eq b.bytes x.bytes) h in
          let two = and_parts (same_key b.of x.of) (bytes_eq b.bytes x.bytes) one.1 in
          (key-is b.to x.to one.0, key-is b.of x.of two.0)

      known : (x : BoxLine) → same_line b x ≡ true → IsIn x t.boxes ⊎ IsIn x got → ⊥
      known x h (inl i) =
          let ends = same_ends x h in
          false≢true (sym (new b (inl refl)) ∙ subst (λ k. has_box t.boxes k b.of ≡ true) (sym ends.0) (subst (λ k. has_box t.boxes x.to k ≡ true) (sym ends.1) (held_box t.boxes x i)))
      known x h (inr i) =
          let ends = same_ends x h in
          let pair : ends_of x ≡ ends_of b = λ i. (sym ends.0 i, sym ends.1 i) in
          content_itself (ends_of b) (subst (λ p. content_cmp p (ends_of b) ≡ Less) pair (before x b i (inl refl)))

      unknown_yet : list_any (same_line b) (t.boxes ++ got) ≡ false
      unknown_yet = false_from_ne_true (list_any (same_line b) (t.boxes ++ got)) (λ h.
          let x = any_of (same_line b) (t.boxes ++ got) h in
          known x.0 x.2 (in-either t.boxes got x.0 x.1))

      fits : box_fits t keys (t.boxes ++ got) b ≡ true
      fits = good_fits t keys (t.boxes ++ got) b (good b (inl refl)) unknown_yet (omega (arith, room))

      step : take_box t keys got b ≡ got ++ b ∷ []
      step = ap (λ c. cond c (got ++ b ∷ []) got) fits

      room_then : length (t.boxes ++ (got ++ b ∷ [])) + length bs ≤ most_boxes
      room_then =
          let before = length-append t.boxes got in
          let after = length-append t.boxes (got ++ b ∷ []) in
          let more = length-append got (b ∷ []) in
          omega (arith, room, before, after, more)

      further : PairsBefore (got ++ b ∷ []) bs
      further g c m n = go (in-either got (b ∷ []) g m)
        where
          go : IsIn g got ⊎ IsIn g (b ∷ []) → content_cmp (ends_of g) (ends_of c) ≡ Less
          go (inl o) = before g c o (inr n)
          go (inr (inl is)) =
              subst (λ (h : BoxLine). content_cmp (ends_of h) (ends_of c) ≡ Less) is (all_at (λ p. content_cmp (ends_of b) p ≡ Less) (map ends_of bs) up.0 (ends_of c) (in-map ends_of c bs n))
          go (inr (inr o)) = absurd o

module _ (s t : State) (e : Entry) (listed : lists_device t e.user e.device ≡ true) (up : IsOrdered t) where
  pub scopes_ascend : IsStrictlySortedBy scope_cmp (plan_scopes s t e)
  scopes_ascend =
      subst (λ l. IsStrictlySortedBy scope_cmp l) (sym (scopes_are s t e listed)) (IsStrictlySortedBy-filter scope_cmp (is_planned s t e) (live_scopes t) (key-scopes-ascend t up))

  pub plan_taken : (publics : List (List ℕ)) → length publics ≡ length (plan_scopes s t e) → taken_news t e (plan_news s t e publics) ≡ plan_news s t e publics
  plan_taken publics each =
      all_news t e (plan_news s t e publics) [] (subst (λ l. IsStrictlySortedBy scope_cmp l) (sym (scopes_are_those t (plan_scopes s t e) publics each)) scopes_ascend)
      (λ g k i j. absurd i) (news_fit s t e listed publics)

module _ (s t : State) (e : Entry) (publics : List (List ℕ)) (plan : IsPlanOf s t e publics) (up : IsOrdered t) where
  pub news_taken : taken_news t e e.lines.news ≡ e.lines.news
  news_taken = subst (λ news. taken_news t e news ≡ news) (sym plan.news) (plan_taken s t e plan.listed up publics plan.each)

  renewed_ordered : IsOrdered (renewed t e)
  renewed_ordered = ordered-keys (taken t e) t up (others-taken t e e.lines.news)

  tables_ordered : law.IsOrdered (tables t e)
  tables_ordered = record { ascends = key-scopes-ascend (renewed t e) renewed_ordered; one_each = key-one-each (renewed t e) renewed_ordered }

  due_ascends : IsStrictlySortedBy content_cmp (map ends_of e.lines.boxes)
  due_ascends =
      subst (λ l. IsStrictlySortedBy content_cmp l) (sym (plan.boxes ∙ due_then s t e publics plan))
      (IsStrictlySortedBy-filter content_cmp (not_before s) (lacks_by_content (tables t e)) (by_content_ascends (tables t e) tables_ordered))

  pub boxes_taken : length t.boxes + length e.lines.boxes ≤ most_boxes → taken_boxes t (current_keys (tables t e)) e.lines.boxes ≡ e.lines.boxes
  boxes_taken room =
      all_lines t (current_keys (tables t e)) e.lines.boxes [] due_ascends (λ g b i j. absurd i) (line_good s t e publics plan)
      (λ b i. (line_lacks s t e publics plan b i).unboxed) (subst (λ (bs : List BoxLine). length bs + length e.lines.boxes ≤ most_boxes) (sym (append-nil t.boxes)) room)
