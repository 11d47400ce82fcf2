-- What holds of each line that fits holds of all that are taken.
use Rattle.std.proofs.Common.{◌≡◌, ◌≤◌, ◌<◌, ◌==◌, Bool, true, false, not, ◌&&◌, ◌||◌, cond, List, [], ◌∷◌, ◌++◌, fold, length, map, nat_lt, refl, arith}
use Rattle.std.specs.List.{AllByRecursion, list_any}
use Rattle.std.proofs.lemmas.Bool.{and_parts, eqb-true, ltb-true, not-true}
use Rattle.std.proofs.lemmas.List.{length-append}
use Rattle.team_sets.specs.Closure.{has}
use Rattle.acts.specs.declared.entry.Entry.{Entry}
use Rattle.tg_text.specs.declared.keys.BoxLine.{BoxLine}
use Rattle.tg_text.specs.declared.keys.KeyId.{KeyId}
use Rattle.key_reach.specs.Keys.{is_device, is_live, is_tainted, same_key, same_scope}
use Rattle.team_model.specs.KeyLines.{box_fits, has_next, is_rotated, may_rekey, new_fits, next_generation, same_line, take_box, take_new, taken_news, wants_key}
use Rattle.team_model.specs.KeyTables.{is_allowed, key_table}
use Rattle.team_model.specs.Limits.{most_boxes}
use Rattle.team_model.specs.State.{State}
use Rattle.team_state.proofs.Placed.{all-append}

module _ (s : State) (keys : List KeyId) where
  -- what is told of a line that fits
  pub record Fits (held : List BoxLine) (b : BoxLine) : Type 0 where
    pub to : has same_key keys b.to ≡ true
    pub of : has same_key keys b.of ≡ true
    pub allowed : is_allowed s b.to.scope b.of.scope ≡ true
    pub clean : is_tainted (key_table s) b.to ≡ false
    pub room : length held < most_boxes

  pub fits-so : (held : List BoxLine) (b : BoxLine) → box_fits s keys held b ≡ true → Fits held b
  fits-so held b h =
      let one = and_parts (has same_key keys b.to) (has same_key keys b.of && (is_allowed s b.to.scope b.of.scope && (not (is_tainted (key_table s) b.to) && (not (list_any (same_line b) held) && nat_lt (length held) most_boxes)))) h in
      let two = and_parts (has same_key keys b.of) (is_allowed s b.to.scope b.of.scope && (not (is_tainted (key_table s) b.to) && (not (list_any (same_line b) held) && nat_lt (length held) most_boxes))) one.1 in
      let three = and_parts (is_allowed s b.to.scope b.of.scope) (not (is_tainted (key_table s) b.to) && (not (list_any (same_line b) held) && nat_lt (length held) most_boxes)) two.1 in
      let four = and_parts (not (is_tainted (key_table s) b.to)) (not (list_any (same_line b) held) && nat_lt (length held) most_boxes) three.1 in
      let five = and_parts (not (list_any (same_line b) held)) (nat_lt (length held) most_boxes) four.1 in
      record { to = one.0; of = two.0; allowed = three.0; clean = not-true (is_tainted (key_table s) b.to) four.0; room = ltb-true (length held) most_boxes five.1 }

  pub all-boxes : (P : BoxLine → Type 0) → ((held : List BoxLine) (b : BoxLine) → Fits held b → P b) → (lines got : List BoxLine) → AllByRecursion P got
      → AllByRecursion P (fold (take_box s keys) got lines)
  all-boxes P each [] got all = all
  all-boxes P each (b ∷ bs) got all = all-boxes P each bs (take_box s keys got b) (go (box_fits s keys (s.boxes ++ got) b) refl)
    where
      go : (c : Bool) → box_fits s keys (s.boxes ++ got) b ≡ c → AllByRecursion P (cond c (got ++ b ∷ []) got)
      go true h = all-append P got (b ∷ []) all (each (s.boxes ++ got) b (fits-so (s.boxes ++ got) b h), tt)
      go false h = all

  pub few-boxes : (lines got : List BoxLine) → length (s.boxes ++ got) ≤ most_boxes → length (s.boxes ++ fold (take_box s keys) got lines) ≤ most_boxes
  few-boxes [] got few = few
  few-boxes (b ∷ bs) got few = few-boxes bs (take_box s keys got b) (go (box_fits s keys (s.boxes ++ got) b) refl)
    where
      go : (c : Bool) → box_fits s keys (s.boxes ++ got) b ≡ c → length (s.boxes ++ cond c (got ++ b ∷ []) got) ≤ most_boxes
      go true h =
          let room = (fits-so (s.boxes ++ got) b h).room in
          let before = length-append s.boxes got in
          let after = length-append s.boxes (got ++ b ∷ []) in
          let more = length-append got (b ∷ []) in
          omega (arith, room, before, after, more)
      go false h = few

module _ (s : State) (e : Entry) where
  pub record IsDue (k : KeyId) : Type 0 where
    pub other : is_device k.scope ≡ false
    pub next : k.generation ≡ next_generation s k.scope

  pub due-so : (k : KeyId) → new_fits s e k ≡ true → IsDue k
  due-so k h =
      let one = and_parts (is_live (key_table s) k.scope) (not (is_device k.scope) && ((k.generation == next_generation s k.scope) && (has_next s k.scope && (may_rekey s e k.scope && (wants_key s k.scope || is_rotated e.act k.scope))))) h in
      let two = and_parts (not (is_device k.scope)) ((k.generation == next_generation s k.scope) && (has_next s k.scope && (may_rekey s e k.scope && (wants_key s k.scope || is_rotated e.act k.scope)))) one.1 in
      let three = and_parts (k.generation == next_generation s k.scope) (has_next s k.scope && (may_rekey s e k.scope && (wants_key s k.scope || is_rotated e.act k.scope))) two.1 in
      record { other = not-true (is_device k.scope) two.0; next = eqb-true k.generation (next_generation s k.scope) three.0 }

  all-news : (P : KeyId → Type 0) → ((k : KeyId) → IsDue k → P k) → (news got : List KeyId) → AllByRecursion P got → AllByRecursion P (fold (take_new s e) got news)
  all-news P each [] got all = all
  all-news P each (k ∷ ks) got all = all-news P each ks (take_new s e got k) (go (new_fits s e k) refl (not (has same_scope (map (λ g. g.scope) got) k.scope)))
    where
      go : (c : Bool) → new_fits s e k ≡ c → (d : Bool) → AllByRecursion P (cond (c && d) (got ++ k ∷ []) got)
      go true h true = all-append P got (k ∷ []) all (each k (due-so k h), tt)
      go true h false = all
      go false h d = all

  -- none of the keys that are taken is a device's, and each is the next one of its scope
  pub others-taken : (news : List KeyId) → AllByRecursion (λ (k : KeyId). is_device k.scope ≡ false) (taken_news s e news)
  others-taken news = all-news (λ (k : KeyId). is_device k.scope ≡ false) (λ k due. due.other) news [] tt

  pub next-taken : (news : List KeyId) → AllByRecursion (λ (k : KeyId). k.generation ≡ next_generation s k.scope) (taken_news s e news)
  next-taken news = all-news (λ (k : KeyId). k.generation ≡ next_generation s k.scope) (λ k due. due.next) news [] tt
