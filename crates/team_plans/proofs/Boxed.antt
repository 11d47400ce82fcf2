-- Which boxes are taken of lines that fit but for what is held.
use Rattle.std.proofs.Common.{◌≡◌, ◌≤◌, ◌<◌, ◌+◌, Bool, true, false, not, ◌&&◌, cond, List, [], ◌∷◌, ◌++◌, fold, length, nat_lt, refl, sym, ◌∙◌, ap, subst, inl, inr, ◌⊎◌, arith}
use Rattle.std.specs.List.{list_any}
use Rattle.std.proofs.lemmas.Bool.{and_from, and_parts, false≢true, lt-ltb}
use Rattle.std.proofs.lemmas.List.{length-append}
use Rattle.std.specs.Str.{bytes_eq}
use Rattle.team_sets.specs.Closure.{has}
use Rattle.team_sets.specs.Members.{IsIn}
use Rattle.team_sets.proofs.Decisions.{in_end, in_front}
use Rattle.team_sets.proofs.Pasts.{any_of}
use Rattle.tg_text.specs.declared.keys.BoxLine.{BoxLine}
use Rattle.tg_text.specs.declared.keys.KeyId.{KeyId}
use Rattle.key_reach.specs.Keys.{has_box, is_tainted, same_key}
use Rattle.key_reach.proofs.Equal.{key-is}
use Rattle.key_reach.proofs.Members.{in-either, in-left, in-right}
use Rattle.key_laws.proofs.Lacking.{box_held, held_box}
use Rattle.team_model.specs.KeyLines.{box_fits, same_line, take_box}
use Rattle.team_model.specs.KeyTables.{is_allowed, key_table}
use Rattle.team_model.specs.Limits.{most_boxes}
use Rattle.team_model.specs.State.{State}

-- a box of the pair is among more boxes too
pub more_boxed : (xs ys : List BoxLine) (to of : KeyId) → ((b : BoxLine) → IsIn b xs → IsIn b ys) → has_box xs to of ≡ true → has_box ys to of ≡ true
more_boxed xs ys to of more h =
    let b = box_held xs to of h in
    subst (λ k. has_box ys k of ≡ true) b.2 (subst (λ k. has_box ys b.0.to k ≡ true) b.3 (held_box ys b.0 (more b.0 b.1)))

module _ (t : State) (keys : List KeyId) where
  -- a line that fits, but for equal lines that are held, and for room
  pub record IsGood (b : BoxLine) : Type 0 where
    pub to : has same_key keys b.to ≡ true
    pub of : has same_key keys b.of ≡ true
    pub allowed : is_allowed t b.to.scope b.of.scope ≡ true
    pub clean : is_tainted (key_table t) b.to ≡ false

  pub good_fits : (held : List BoxLine) (b : BoxLine) → IsGood b → list_any (same_line b) held ≡ false → length held < most_boxes → box_fits t keys held b ≡ true
  good_fits held b good new room =
      and_from (has same_key keys b.to) (has same_key keys b.of && (is_allowed t b.to.scope b.of.scope && (not (is_tainted (key_table t) b.to) && (not (list_any (same_line b) held) && nat_lt (length held) most_boxes)))) good.to
      (and_from (has same_key keys b.of) (is_allowed t b.to.scope b.of.scope && (not (is_tainted (key_table t) b.to) && (not (list_any (same_line b) held) && nat_lt (length held) most_boxes))) good.of
      (and_from (is_allowed t b.to.scope b.of.scope) (not (is_tainted (key_table t) b.to) && (not (list_any (same_line b) held) && nat_lt (length held) most_boxes)) good.allowed
      (and_from (not (is_tainted (key_table t) b.to)) (not (list_any (same_line b) held) && nat_lt (length held) most_boxes) (ap not good.clean)
      (and_from (not (list_any (same_line b) held)) (nat_lt (length held) most_boxes) (ap not new) (lt-ltb (length held) most_boxes room)))))

  step_grows : (got : List BoxLine) (b x : BoxLine) (c : Bool) → IsIn x got → IsIn x (cond c (got ++ b ∷ []) got)
  step_grows got b x true i = in_front got (b ∷ []) x i
  step_grows got b x false i = i

  pub boxes_grow : (lines got : List BoxLine) (x : BoxLine) → IsIn x got → IsIn x (fold (take_box t keys) got lines)
  boxes_grow [] got x i = i
  boxes_grow (b ∷ bs) got x i = boxes_grow bs (take_box t keys got b) x (step_grows got b x (box_fits t keys (t.boxes ++ got) b) i)

  all_grow : (lines got : List BoxLine) (x : BoxLine) → IsIn x (t.boxes ++ got) → IsIn x (t.boxes ++ fold (take_box t keys) got lines)
  all_grow lines got x i = go (in-either t.boxes got x i)
    where
      go : IsIn x t.boxes ⊎ IsIn x got → IsIn x (t.boxes ++ fold (take_box t keys) got lines)
      go (inl j) = in-left t.boxes (fold (take_box t keys) got lines) x j
      go (inr j) = in-right t.boxes (fold (take_box t keys) got lines) x (boxes_grow lines got x j)

  -- where there is room, it is taken, or an equal one is held
  step_boxed : (got : List BoxLine) (b : BoxLine) → IsGood b → length (t.boxes ++ got) < most_boxes → has_box (t.boxes ++ take_box t keys got b) b.to b.of ≡ true
  step_boxed got b good room = go (box_fits t keys (t.boxes ++ got) b) refl
    where
      same : (c : Bool) → list_any (same_line b) (t.boxes ++ got) ≡ c → box_fits t keys (t.boxes ++ got) b ≡ false → has_box (t.boxes ++ got) b.to b.of ≡ true
      same true h unfit =
          let x = any_of (same_line b) (t.boxes ++ got) h in
          let one = and_parts (same_key b.to x.0.to) (same_key b.of x.0.of && bytes_eq b.bytes x.0.bytes) x.2 in
          let two = and_parts (same_key b.of x.0.of) (bytes_eq b.bytes x.0.bytes) one.1 in
          subst (λ k. has_box (t.boxes ++ got) k b.of ≡ true) (sym (key-is b.to x.0.to one.0))
          (subst (λ k. has_box (t.boxes ++ got) x.0.to k ≡ true) (sym (key-is b.of x.0.of two.0)) (held_box (t.boxes ++ got) x.0 x.1))
      same false h unfit = absurd (false≢true (sym unfit ∙ good_fits (t.boxes ++ got) b good h room))

      go : (c : Bool) → box_fits t keys (t.boxes ++ got) b ≡ c → has_box (t.boxes ++ cond c (got ++ b ∷ []) got) b.to b.of ≡ true
      go true fits = held_box (t.boxes ++ (got ++ b ∷ [])) b (in-right t.boxes (got ++ b ∷ []) b (in_end got b))
      go false unfit = same (list_any (same_line b) (t.boxes ++ got)) refl unfit

  step_length : (got : List BoxLine) (b : BoxLine) (c : Bool) → length (t.boxes ++ cond c (got ++ b ∷ []) got) ≤ length (t.boxes ++ got) + 1
  step_length got b true =
      let before = length-append t.boxes got in
      let after = length-append t.boxes (got ++ b ∷ []) in
      let more = length-append got (b ∷ []) in
      omega (arith, before, after, more)
  step_length got b false = omega arith

  pub all_boxed : (lines got : List BoxLine) → ((b : BoxLine) → IsIn b lines → IsGood b) → length (t.boxes ++ got) + length lines ≤ most_boxes
      → (b : BoxLine) → IsIn b lines → has_box (t.boxes ++ fold (take_box t keys) got lines) b.to b.of ≡ true
  all_boxed [] got good room b i = absurd i
  all_boxed (x ∷ xs) got good room b (inl is) =
      subst (λ (y : BoxLine). has_box (t.boxes ++ fold (take_box t keys) (take_box t keys got x) xs) y.to y.of ≡ true) is
      (more_boxed (t.boxes ++ take_box t keys got x) (t.boxes ++ fold (take_box t keys) (take_box t keys got x) xs) x.to x.of
      (all_grow xs (take_box t keys got x)) (step_boxed got x (good x (inl refl)) (omega (arith, room))))
  all_boxed (x ∷ xs) got good room b (inr i) =
      let grown = step_length got x (box_fits t keys (t.boxes ++ got) x) in
      all_boxed xs (take_box t keys got x) (λ y j. good y (inr j)) (omega (arith, room, grown)) b i
