-- A walk through boxes: the opened pairs are taken in turn, and what each opens is added at the end.
use Rattle.std.proofs.Common.{◌≡◌, ℕ, zero, suc, ◌+◌, ◌<◌, ◌≤◌, Bool, true, false, cond, ◌||◌, List, [], ◌∷◌, ◌++◌, Option, Some, None, Contains, refl, sym, ◌∙◌, ap, subst, inl, inr, ◌⊎◌, length, get_or, slice_get, take, drop, drop-cons, add-one, map, append_assoc, append-nil, All, arith, bytes_eq}
use Rattle.std.specs.List.{list_any}
use Rattle.std.specs.Option.{option_map_or}
use Rattle.std.proofs.lemmas.Bool.{false≢true}
use Rattle.std.proofs.lemmas.List.{take-append-le, take_all}
use Rattle.std.proofs.lemmas.Option as options
use Rattle.std.proofs.lemmas.Option.{get_or_from_slice_get, slice_get-get_or, slice_get_within}
use Rattle.std.proofs.lemmas.Slice.Eq.{bytes_eq-Decides}
use Rattle.team_sets.specs.Members.{IsIn}
use Rattle.key_reach.proofs.Members.{in-either, in-left, in-right}
use Rattle.tg_text.specs.declared.keys.BoxLine.{BoxLine}
use Rattle.tg_text.specs.declared.keys.KeyId.{KeyId}
use Rattle.lockboxes.specs.declared.opened.Opened.{Opened}
use Rattle.lockboxes.specs.Keeping.{Keeper, Opens, is_own, opens}
use Rattle.lockboxes.specs.Opening.{content, named_content}
use Rattle.lockboxes.specs.Indexes.{contents_at, contents_of, places_in, IsGrown}

-- lists that grow
pub grown_none : {A : Type 0} (xs : List A) → IsGrown xs xs []
grown_none xs = record { longer = ([], sym (append-nil xs)); kept = λ x k. absurd k; only = λ x k. inl k }

pub grown_then : {A : Type 0} (old mid new xs ys : List A) → IsGrown old mid xs → IsGrown mid new ys → IsGrown old new (xs ++ ys)
grown_then {A} old mid new xs ys first next = record { longer = longer; kept = kept; only = only }
  where
    longer : (rest : List A) × (new ≡ old ++ rest)
    longer = (first.longer.0 ++ next.longer.0, next.longer.1 ∙ ap (λ l. l ++ next.longer.0) first.longer.1 ∙ append_assoc old first.longer.0 next.longer.0)

    stays : (x : A) → IsIn x mid → IsIn x new
    stays x k = subst (λ l. IsIn x l) (sym next.longer.1) (in-left mid next.longer.0 x k)

    kept : (x : A) → IsIn x (xs ++ ys) → IsIn x new
    kept x k = go (in-either xs ys x k)
      where
        go : IsIn x xs ⊎ IsIn x ys → IsIn x new
        go (inl j) = stays x (first.kept x j)
        go (inr j) = next.kept x j

    only : (x : A) → IsIn x new → IsIn x old ⊎ IsIn x (xs ++ ys)
    only x k = go (next.only x k)
      where
        before : IsIn x old ⊎ IsIn x xs → IsIn x old ⊎ IsIn x (xs ++ ys)
        before (inl j) = inl j
        before (inr j) = inr (in-left xs ys x j)

        go : IsIn x mid ⊎ IsIn x ys → IsIn x old ⊎ IsIn x (xs ++ ys)
        go (inl j) = before (first.only x j)
        go (inr j) = inr (in-right xs ys x j)

has_of : {A : Type 0} (same : A → A → Bool) → ((x y : A) → same x y ≡ true → x ≡ y) → (xs : List A) (x : A) → list_any (same x) xs ≡ true → IsIn x xs
has_of same tells [] x h = absurd (false≢true h)
has_of same tells (y ∷ ys) x h = go (same x y) refl h (λ k. has_of same tells ys x k)
  where
    go : (b : Bool) → same x y ≡ b → (b || list_any (same x) ys) ≡ true → (list_any (same x) ys ≡ true → IsIn x ys) → IsIn x (y ∷ ys)
    go true e k rest = inl (sym (tells x y e))
    go false e k rest = inr (rest k)

-- a value put into a list that has none twice
pub grown_one : {A : Type 0} (same : A → A → Bool) → ((x y : A) → same x y ≡ true → x ≡ y) → (xs : List A) (x : A) → IsGrown xs (cond (list_any (same x) xs) xs (xs ++ x ∷ [])) (x ∷ [])
grown_one {A} same tells xs x = go (list_any (same x) xs) refl
  where
    go : (b : Bool) → list_any (same x) xs ≡ b → IsGrown xs (cond b xs (xs ++ x ∷ [])) (x ∷ [])
    go true e = record { longer = ([], sym (append-nil xs)); kept = kept; only = λ y k. inl k }
      where
        kept : (y : A) → IsIn y (x ∷ []) → IsIn y xs
        kept y (inl f) = subst (λ z. IsIn z xs) f (has_of same tells xs x e)
        kept y (inr k) = absurd k
    go false e = record { longer = (x ∷ [], refl); kept = λ y k. in-right xs (x ∷ []) y k; only = λ y k. in-either xs (x ∷ []) y k }

none-some : {A : Type 0} {x : A} → None ≡ Some x → ⊥
none-some {A} {x} e = options.none-some x e

same_Some : {A : Type 0} {x y : A} → Some x ≡ Some y → x ≡ y
same_Some {A} {x} {y} e = options.same_Some x y e

-- elements of a list at places
pub in_slice : {A : Type 0} (xs : List A) (i : ℕ) (x : A) → slice_get xs i ≡ Some x → IsIn x xs
in_slice [] i x at = absurd (none-some at)
in_slice (y ∷ ys) zero x at = inl (same_Some at)
in_slice (y ∷ ys) (suc i) x at = inr (in_slice ys i x at)

in_at : {A : Type 0} (xs : List A) (i : ℕ) (d : A) → i < length xs → IsIn (get_or xs i d) xs
in_at xs i d lt = in_slice xs i (get_or xs i d) (slice_get-get_or xs i d lt)

contains_slice : {A : Type 0} (xs : List A) (i : ℕ) (x : A) → slice_get xs i ≡ Some x → Contains xs x
contains_slice xs i x at = (i, slice_get_within xs i x at, get_or_from_slice_get xs i x x at)

pub slice_contains : {A : Type 0} (xs : List A) (x : A) → (held : Contains xs x) → slice_get xs held.0 ≡ Some x
slice_contains xs x held = slice_get-get_or xs held.0 x held.1 ∙ ap (λ y. Some y) held.2

of_take : {A : Type 0} (xs : List A) (k : ℕ) (x y : A) → slice_get xs k ≡ Some y → IsIn x (take (suc k) xs) → IsIn x (take k xs) ⊎ (y ≡ x)
of_take [] k x y at j = absurd (none-some at)
of_take (z ∷ zs) zero x y at (inl e) = inr (sym (same_Some at) ∙ e)
of_take (z ∷ zs) zero x y at (inr j) = absurd j
of_take (z ∷ zs) (suc k) x y at (inl e) = inl (inl e)
of_take (z ∷ zs) (suc k) x y at (inr j) = go (of_take zs k x y at j)
  where
    go : IsIn x (take k zs) ⊎ (y ≡ x) → ((z ≡ x) ⊎ IsIn x (take k zs)) ⊎ (y ≡ x)
    go (inl h) = inl (inr h)
    go (inr h) = inr h

-- where the boxes to a key stand
module _ (same : KeyId → KeyId → Bool) (k : KeyId) where
  abbrev places : ℕ → List BoxLine → List ℕ
  places i boxes = places_in same i (map (λ b. b.to) boxes) k

  in_places : (boxes : List BoxLine) (i n j : ℕ) (b : BoxLine) → j ≡ n + i → slice_get boxes n ≡ Some b → same b.to k ≡ true → IsIn j (places i boxes)
  in_places [] i n j b e at h = absurd (none-some at)
  in_places (c ∷ cs) i zero j b e at h = subst (λ r. IsIn j (cond r (i ∷ places (suc i) cs) (places (suc i) cs))) (sym (ap (λ (d : BoxLine). same d.to k) (same_Some at) ∙ h)) (inl (omega (arith, e)))
  in_places (c ∷ cs) i (suc n) j b e at h = go (same c.to k) (in_places cs (suc i) n j b (omega (arith, e)) at h)
    where
      go : (r : Bool) → IsIn j (places (suc i) cs) → IsIn j (cond r (i ∷ places (suc i) cs) (places (suc i) cs))
      go true m = inr m
      go false m = m

  abbrev StandsAt : ℕ → List BoxLine → ℕ → Type 0
  StandsAt i boxes j = (n : ℕ) × (b : BoxLine) × (j ≡ n + i) × (slice_get boxes n ≡ Some b) × (same b.to k ≡ true)

  of_places : (boxes : List BoxLine) (i j : ℕ) → IsIn j (places i boxes) → StandsAt i boxes j
  of_places [] i j m = absurd m
  of_places (c ∷ cs) i j m = go (same c.to k) refl m (λ l. of_places cs (suc i) j l)
    where
      further : StandsAt (suc i) cs j → StandsAt i (c ∷ cs) j
      further r = (suc r.0, r.1, omega (arith, r.2), r.3, r.4)

      go : (r : Bool) → same c.to k ≡ r → IsIn j (cond r (i ∷ places (suc i) cs) (places (suc i) cs)) → (IsIn j (places (suc i) cs) → StandsAt (suc i) cs j) → StandsAt i (c ∷ cs) j
      go true h (inl e) rest = (zero, c, omega (arith, e), refl, h)
      go true h (inr l) rest = further (rest l)
      go false h l rest = further (rest l)

  -- each place is one of a box
  places_within : (boxes : List BoxLine) → All (λ i. i < length boxes) (places 0 boxes)
  places_within boxes i d lt =
      let r = of_places boxes 0 (get_or (places 0 boxes) i d) (in_at (places 0 boxes) i d lt) in
      let within = slice_get_within boxes r.0 r.1 r.3 in
      omega (arith, r.2, within)

-- places that an index of the recipients has for a key are places of boxes to it
module _ (same : KeyId → KeyId → Bool) (k : KeyId) (found : List ℕ) (keys : List KeyId) (boxes : List BoxLine) where
  found_places : found ≡ places_in same 0 keys k → keys ≡ map (λ b. b.to) boxes → found ≡ places_in same 0 (map (λ b. b.to) boxes) k
  found_places are all = are ∙ ap (λ l. places_in same 0 l k) all

  pub found_within : found ≡ places_in same 0 keys k → keys ≡ map (λ b. b.to) boxes → All (λ i. i < length boxes) found
  found_within are all = subst (λ (l : List ℕ). All (λ i. i < length boxes) l) (sym (found_places are all)) (places_within same k boxes)

-- what a secret makes of boxes
module _ (keeper : Keeper) (secret : List ℕ) where
  in_contents : (boxes : List BoxLine) (is : List ℕ) (j : ℕ) (b : BoxLine) (x : Opened) → IsIn j is → slice_get boxes j ≡ Some b → content keeper secret b ≡ Some x → IsIn x (contents_at keeper secret boxes is)
  in_contents boxes [] j b x m at h = absurd m
  in_contents boxes (i ∷ is) j b x (inl e) at h =
      in-left (contents_of keeper secret (slice_get boxes i)) (contents_at keeper secret boxes is) x
      (subst (λ (o : Option BoxLine). IsIn x (contents_of keeper secret o)) (sym (ap (λ n. slice_get boxes n) e ∙ at)) (subst (λ (o : Option Opened). IsIn x (option_map_or (λ y. y ∷ []) o [])) (sym h) (inl refl)))
  in_contents boxes (i ∷ is) j b x (inr m) at h = in-right (contents_of keeper secret (slice_get boxes i)) (contents_at keeper secret boxes is) x (in_contents boxes is j b x m at h)

  abbrev OpensAt : List BoxLine → List ℕ → Opened → Type 0
  OpensAt boxes is x = (j : ℕ) × (b : BoxLine) × IsIn j is × (slice_get boxes j ≡ Some b) × (content keeper secret b ≡ Some x)

  of_option : (b : BoxLine) (x : Opened) → IsIn x (contents_of keeper secret (Some b)) → content keeper secret b ≡ Some x
  of_option b x m = go (content keeper secret b) m
    where
      go : (o : Option Opened) → IsIn x (option_map_or (λ y. y ∷ []) o []) → o ≡ Some x
      go None k = absurd k
      go (Some y) (inl e) = ap (λ z. Some z) e
      go (Some y) (inr k) = absurd k

  of_contents : (boxes : List BoxLine) (is : List ℕ) (x : Opened) → IsIn x (contents_at keeper secret boxes is) → OpensAt boxes is x
  of_contents boxes [] x m = absurd m
  of_contents boxes (i ∷ is) x m = go (in-either (contents_of keeper secret (slice_get boxes i)) (contents_at keeper secret boxes is) x m) (λ k. of_contents boxes is x k)
    where
      later : OpensAt boxes is x → OpensAt boxes (i ∷ is) x
      later r = (r.0, r.1, inr r.2, r.3, r.4)

      here : (o : Option BoxLine) → slice_get boxes i ≡ o → IsIn x (contents_of keeper secret o) → OpensAt boxes (i ∷ is) x
      here None at k = absurd k
      here (Some b) at k = (i, b, inl refl, at, of_option b x k)

      go : IsIn x (contents_of keeper secret (slice_get boxes i)) ⊎ IsIn x (contents_at keeper secret boxes is) → (IsIn x (contents_at keeper secret boxes is) → OpensAt boxes is x) → OpensAt boxes (i ∷ is) x
      go (inl k) rest = here (slice_get boxes i) refl k
      go (inr k) rest = later (rest k)

  -- what the box at a place gives, and then those at the places behind it
  pub contents_step : (boxes : List BoxLine) (is : List ℕ) (n d : ℕ) (b : BoxLine) (old mid new : List Opened) → n < length is → slice_get boxes (get_or is n d) ≡ Some b
      → IsGrown old mid (contents_of keeper secret (Some b)) → IsGrown mid new (contents_at keeper secret boxes (drop (n + 1) is)) → IsGrown old new (contents_at keeper secret boxes (drop n is))
  contents_step boxes is n d b old mid new lt at first next =
      subst (λ (l : List Opened). IsGrown old new l) (sym whole) (grown_then old mid new (contents_of keeper secret (Some b)) (contents_at keeper secret boxes (drop (suc n) is)) first (subst (λ m. IsGrown mid new (contents_at keeper secret boxes (drop m is))) (add-one n) next))
    where
      whole : contents_at keeper secret boxes (drop n is) ≡ contents_of keeper secret (Some b) ++ contents_at keeper secret boxes (drop (suc n) is)
      whole = ap (contents_at keeper secret boxes) (drop-cons is n d lt) ∙ ap (λ o. contents_of keeper secret o ++ contents_at keeper secret boxes (drop (suc n) is)) at

  -- what a box with content tells
  pub told : (b : BoxLine) (x : Opened) → content keeper secret b ≡ Some x → (keeper.unseal b.bytes secret ≡ Some x.secret) × (keeper.public_of x.secret ≡ b.of.public) × (b.of ≡ x.key)
  told b x h = go (keeper.unseal b.bytes secret) refl h
    where
      named : (s : List ℕ) (r : Bool) → bytes_eq (keeper.public_of s) b.of.public ≡ r → cond r (Some (record { key = b.of; secret = s })) None ≡ Some x
          → (Some s ≡ Some x.secret) × (keeper.public_of x.secret ≡ b.of.public) × (b.of ≡ x.key)
      named s true e f =
          let is : s ≡ x.secret = ap (λ (o : Opened). o.secret) (same_Some f) in
          (ap (λ t. Some t) is, subst (λ t. keeper.public_of t ≡ b.of.public) is ((bytes_eq-Decides (keeper.public_of s) b.of.public).0 e), ap (λ (o : Opened). o.key) (same_Some f))
      named s false e f = absurd (none-some f)

      go : (o : Option (List ℕ)) → keeper.unseal b.bytes secret ≡ o → named_content keeper b o ≡ Some x → (keeper.unseal b.bytes secret ≡ Some x.secret) × (keeper.public_of x.secret ≡ b.of.public) × (b.of ≡ x.key)
      go None e f = absurd (none-some f)
      go (Some s) e f = let r = named s (bytes_eq (keeper.public_of s) b.of.public) refl f in (e ∙ r.0, r.1, r.2)

  tells : (b : BoxLine) (s : List ℕ) → keeper.unseal b.bytes secret ≡ Some s → keeper.public_of s ≡ b.of.public → content keeper secret b ≡ Some (record { key = b.of; secret = s })
  tells b s e f =
      ap (named_content keeper b) e
      ∙ ap (λ r. cond r (Some (record { key = b.of; secret = s })) None) ((bytes_eq-Decides (keeper.public_of s) b.of.public).1 f)

module _ (keeper : Keeper) (boxes : List BoxLine) (own : KeyId) (secret : List ℕ) where
  abbrev is_reached : Opened → Type 0
  is_reached o = Opens keeper boxes own secret o.key o.secret

  -- of the opened pairs, so many have been taken
  pub record IsWalked (found : List Opened) (next : ℕ) : Type 0 where
    pub starts : IsIn (record { key = own; secret = secret }) found
    pub sound : (o : Opened) → IsIn o found → is_reached o
    pub closed : (o : Opened) → IsIn o (take next found) → (j : ℕ) (b : BoxLine) (x : Opened) → slice_get boxes j ≡ Some b → b.to ≡ o.key → content keeper o.secret b ≡ Some x → IsIn x found

  pub walked_first : (old found : List Opened) → old ≡ [] → IsGrown old found (record { key = own; secret = secret } ∷ []) → IsWalked found 0
  walked_first old found none grown = record { starts = grown.kept (record { key = own; secret = secret }) (inl refl); sound = λ o k. go o (subst (λ (l : List Opened). IsIn o l ⊎ IsIn o (record { key = own; secret = secret } ∷ [])) none (grown.only o k)); closed = λ o k. absurd k }
    where
      go : (o : Opened) → IsIn o [] ⊎ IsIn o (record { key = own; secret = secret } ∷ []) → is_reached o
      go o (inl k) = absurd k
      go o (inr (inl e)) = subst is_reached e is_own
      go o (inr (inr k)) = absurd k

  walked_next : (same : KeyId → KeyId → Bool) → ((x y : KeyId) → same x y ≡ true → x ≡ y) → ((x : KeyId) → same x x ≡ true)
      → (found new : List Opened) (next : ℕ) (from : Opened) → next < length found → slice_get found next ≡ Some from
      → IsWalked found next → IsGrown found new (contents_at keeper from.secret boxes (places_in same 0 (map (λ b. b.to) boxes) from.key)) → IsWalked new (next + 1)
  walked_next same is like found new next from lt at was grown = subst (λ n. IsWalked new n) (sym (add-one next)) (record { starts = stays (record { key = own; secret = secret }) was.starts; sound = sound; closed = closed })
    where
      stays : (x : Opened) → IsIn x found → IsIn x new
      stays x k = subst (λ l. IsIn x l) (sym grown.longer.1) (in-left found grown.longer.0 x k)

      sound : (o : Opened) → IsIn o new → is_reached o
      sound o k = go (grown.only o k)
        where
          go : IsIn o found ⊎ IsIn o (contents_at keeper from.secret boxes (places_in same 0 (map (λ b. b.to) boxes) from.key)) → is_reached o
          go (inl j) = was.sound o j
          go (inr j) =
              let r = of_contents keeper from.secret boxes (places_in same 0 (map (λ b. b.to) boxes) from.key) o j in
              let place = of_places same from.key boxes 0 r.0 r.2 in
              let at_place : r.0 ≡ place.0 = omega (arith, place.2) in
              let line : r.1 ≡ place.1 = same_Some (sym r.3 ∙ ap (λ n. slice_get boxes n) at_place ∙ place.3) in
              let to : r.1.to ≡ from.key = ap (λ (b : BoxLine). b.to) line ∙ is place.1.to from.key place.4 in
              let says = told keeper from.secret r.1 o r.4 in
              let reached = was.sound from (in_slice found next from at) in
              subst (λ key. Opens keeper boxes own secret key o.secret) says.2
              (opens r.1 from.secret o.secret (contains_slice boxes r.0 r.1 r.3) (subst (λ key. Opens keeper boxes own secret key from.secret) (sym to) reached) says.0 says.1)

      closed : (o : Opened) → IsIn o (take (suc next) new) → (j : ℕ) (b : BoxLine) (x : Opened) → slice_get boxes j ≡ Some b → b.to ≡ o.key → content keeper o.secret b ≡ Some x → IsIn x new
      closed o k j b x stands to h = go (of_take found next o from at (subst (λ l. IsIn o l) (ap (λ l. take (suc next) l) grown.longer.1 ∙ take-append-le (suc next) found grown.longer.0 (omega (arith, lt))) k))
        where
          go : IsIn o (take next found) ⊎ (from ≡ o) → IsIn x new
          go (inl m) = stays x (was.closed o m j b x stands to h)
          go (inr e) =
              let to_from : b.to ≡ from.key = to ∙ ap (λ (p : Opened). p.key) (sym e) in
              let here = in_places same from.key boxes 0 j j b (omega arith) stands (subst (λ key. same b.to key ≡ true) to_from (like b.to)) in
              grown.kept x (in_contents keeper from.secret boxes (places_in same 0 (map (λ c. c.to) boxes) from.key) j b x here stands (subst (λ (p : Opened). content keeper p.secret b ≡ Some x) (sym e) h))

  pub walked_on : (same : KeyId → KeyId → Bool) (found new : List Opened) (next : ℕ) (from : Opened) (at_key : List ℕ) (keys : List KeyId)
      → at_key ≡ places_in same 0 keys from.key → keys ≡ map (λ b. b.to) boxes → next < length found → from ≡ get_or found next from
      → IsWalked found next → IsGrown found new (contents_at keeper from.secret boxes at_key) → ((x y : KeyId) → same x y ≡ true → x ≡ y) → ((x : KeyId) → same x x ≡ true) → IsWalked new (next + 1)
  walked_on same found new next from at_key keys are all lt is was grown tells like =
      walked_next same tells like found new next from lt (slice_get-get_or found next from lt ∙ ap (λ o. Some o) (sym is)) was
      (subst (λ (l : List ℕ). IsGrown found new (contents_at keeper from.secret boxes l)) (found_places same from.key at_key keys boxes are all) grown)

  pub walked_done : (found : List Opened) (next : ℕ) → IsWalked found next → length found ≤ next → (o : Opened) → (IsIn o found → is_reached o) × (is_reached o → IsIn o found)
  walked_done found next was le o = (was.sound o, λ r. back o.key o.secret r)
    where
      back : (key : KeyId) (s : List ℕ) → Opens keeper boxes own secret key s → IsIn (record { key = key; secret = s }) found
      back _ _ is_own = was.starts
      back _ _ (opens b m s held r unseals names) =
          was.closed (record { key = b.to; secret = m }) (subst (λ l. IsIn (record { key = b.to; secret = m }) l) (sym (take_all next found le)) (back b.to m r))
          held.0 b (record { key = b.of; secret = s }) (slice_contains boxes b held) refl (tells keeper m b s unseals names)
