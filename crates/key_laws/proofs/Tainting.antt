-- What taint depends on.
use Rattle.std.proofs.Common.{◌≡◌, Bool, true, false, cond, ◌&&◌, not, List, [], ◌∷◌, ◌++◌, append-nil, map, filter, refl, sym, ◌∙◌, ap, subst, inl, inr, ◌⊎◌}
use Rattle.std.proofs.lemmas.Bool.{false≢true}
use Rattle.std.proofs.lemmas.List.Elements.{filter-append}
use Rattle.team_sets.specs.Members.{IsIn}
use Rattle.team_sets.specs.Names.{Name}
use Rattle.team_sets.specs.Closure.{Reaches, has}
use Rattle.team_sets.proofs.Agree.{same_answer}
use Rattle.tg_text.specs.declared.keys.Scope.TheVariants.{User}
use Rattle.tg_text.specs.declared.keys.KeyId.{KeyId}
use Rattle.tg_text.specs.declared.keys.BoxLine.{BoxLine}
use Rattle.key_reach.specs.Keys.{Table, box_arrows, is_device, is_live, is_tainted, leaked, reach, same_scope, tainted}
use Rattle.key_reach.specs.Laws.{IsKeyTable}
use Rattle.key_laws.specs.TaintLaws.{GoToClean, HaveSameDevices, HoldNoDeviceKey, IsLeakedBy, UsersGoToDevices, device_keys, with_boxes}
use Rattle.key_laws.proofs.Reached.{box_of, of_leaked, of_tainted, reaches_more, reaches_taint, taint_reaches, unreached_nothing, OfDevice, OfBox, ByBox}

apart : (b : Bool) → b ≡ true → b ≡ false → ⊥
apart b e f = false≢true (sym f ∙ e)

clean_is : (b : Bool) → (b ≡ true → ⊥) → b ≡ false
clean_is true never = absurd (never refl)
clean_is false never = refl

-- a filter by two tests
filter_twice : {A : Type 0} (p q : A → Bool) (xs : List A) → filter (λ x. p x && q x) xs ≡ filter q (filter p xs)
filter_twice p q [] = refl
filter_twice p q (x ∷ xs) = go (p x) (filter_twice p q xs)
  where
    go : (b : Bool) → filter (λ y. p y && q y) xs ≡ filter q (filter p xs) → cond (b && q x) (x ∷ filter (λ y. p y && q y) xs) (filter (λ y. p y && q y) xs) ≡ filter q (cond b (x ∷ filter p xs) (filter p xs))
    go true e = ap (λ l. cond (q x) (x ∷ l) l) e
    go false e = e

pub same_taint : (t u : Table) → HaveSameDevices t u → tainted t ≡ tainted u
same_taint t u same = λ i. reach (same.boxes i) (leaks i)
  where
    dead : (v : Table) → filter (λ k. is_device k.scope && not (is_live v k.scope)) v.currents ≡ filter (λ k. not (is_live v k.scope)) (device_keys v)
    dead v = filter_twice (λ k. is_device k.scope) (λ k. not (is_live v k.scope)) v.currents

    middle : filter (λ k. not (is_live t k.scope)) (device_keys t) ≡ filter (λ k. not (is_live u k.scope)) (device_keys u)
    middle = λ i. filter (λ k. not (has same_scope (same.scopes i) k.scope)) (same.devices i)

    first : filter (λ k. is_device k.scope && not (is_live t k.scope)) t.currents ≡ filter (λ k. is_device k.scope && not (is_live u k.scope)) u.currents
    first = dead t ∙ middle ∙ sym (dead u)

    leaks : leaked t ≡ leaked u
    leaks = λ i. first i ++ map (λ b. b.of) (filter (λ b. not (same.allowed b.to.scope b.of.scope i)) (same.boxes i))

none_left : {A : Type 0} (p : A → Bool) (xs : List A) → ((x : A) → IsIn x xs → p x ≡ false) → filter p xs ≡ []
none_left p [] never = refl
none_left p (x ∷ xs) never = ap (λ b. cond b (x ∷ filter p xs) (filter p xs)) (never x (inl refl)) ∙ none_left p xs (λ y k. never y (inr k))

map_append : {A B : Type 0} (f : A → B) (xs ys : List A) → map f (xs ++ ys) ≡ map f xs ++ map f ys
map_append f [] ys = refl
map_append f (x ∷ xs) ys = ap (λ l. f x ∷ l) (map_append f xs ys)

module _ (t : Table) (more : List BoxLine) (clean : GoToClean t more) where
  abbrev unlawful : BoxLine → Bool
  unlawful b = not (t.allowed b.to.scope b.of.scope)

  same_leaked : leaked (with_boxes t more) ≡ leaked t
  same_leaked =
      ap (λ l. filter (λ k. is_device k.scope && not (is_live t k.scope)) t.currents ++ map (λ b. b.of) l)
      (filter-append unlawful t.boxes more ∙ ap (λ l. filter unlawful t.boxes ++ l) (none_left unlawful more (λ b k. ap not (clean b k).0)) ∙ append-nil (filter unlawful t.boxes))

  more_arrows : box_arrows (t.boxes ++ more) ≡ box_arrows t.boxes ++ box_arrows more
  more_arrows = map_append (λ b. (b.to, b.of)) t.boxes more

  pub keep_taint : (k : KeyId) → is_tainted (with_boxes t more) k ≡ is_tainted t k
  keep_taint k = same_answer (is_tainted (with_boxes t more) k) (is_tainted t k) forth back
    where
      none : (a : KeyId × KeyId) → IsIn a (box_arrows more) → Reaches (box_arrows t.boxes) (leaked t) a.0 → ⊥
      none a j r =
          let b = box_of more a.0 a.1 j in
          apart (is_tainted t a.0) (reaches_taint t a.0 r) (subst (λ key. is_tainted t key ≡ false) b.2 (clean b.0 b.1).1)

      moved : Reaches (box_arrows (t.boxes ++ more)) (leaked (with_boxes t more)) k ≡ Reaches (box_arrows t.boxes ++ box_arrows more) (leaked t) k
      moved = λ i. Reaches (more_arrows i) (same_leaked i) k

      forth : is_tainted (with_boxes t more) k ≡ true → is_tainted t k ≡ true
      forth h = reaches_taint t k (unreached_nothing (box_arrows t.boxes) (box_arrows more) (leaked t) none k (subst (λ (X : Type 0). X) moved (taint_reaches (with_boxes t more) k h)))

      back : is_tainted t k ≡ true → is_tainted (with_boxes t more) k ≡ true
      back h = reaches_taint (with_boxes t more) k (subst (λ (X : Type 0). X) (sym moved) (reaches_more (box_arrows t.boxes) (box_arrows more) (leaked t) k (taint_reaches t k h)))

module _ (t : Table) where
  pub fresh_clean : (k : KeyId) → is_device k.scope ≡ false → ((b : BoxLine) → IsIn b t.boxes → b.of ≡ k → ⊥) → is_tainted t k ≡ false
  fresh_clean k other none = clean_is (is_tainted t k) (λ h. go (of_tainted t k h))
    where
      leak : OfDevice t k ⊎ OfBox t k → ⊥
      leak (inl d) = apart (is_device k.scope) d.device other
      leak (inr b) = none b.box b.held b.content

      go : IsIn k (leaked t) ⊎ ByBox t k → ⊥
      go (inl j) = leak (of_leaked t k j)
      go (inr b) = none b.box b.held b.content

  pub device_clean : HoldNoDeviceKey t → (k : KeyId) → is_device k.scope ≡ true → is_live t k.scope ≡ true → is_tainted t k ≡ false
  device_clean others k device live = clean_is (is_tainted t k) (λ h. go (of_tainted t k h))
    where
      held : (b : BoxLine) → IsIn b t.boxes → b.of ≡ k → ⊥
      held b j e = apart (is_device k.scope) device (subst (λ (key : KeyId). is_device key.scope ≡ false) e (others b j))

      leak : OfDevice t k ⊎ OfBox t k → ⊥
      leak (inl d) = apart (is_live t k.scope) live d.dead
      leak (inr b) = held b.box b.held b.content

      go : IsIn k (leaked t) ⊎ ByBox t k → ⊥
      go (inl j) = leak (of_leaked t k j)
      go (inr b) = held b.box b.held b.content

  pub user_leaked : IsKeyTable t → HoldNoDeviceKey t → UsersGoToDevices t → (k : KeyId) (u : Name) → k.scope ≡ User u → is_tainted t k ≡ true → (b : BoxLine) × IsLeakedBy t k b
  user_leaked law others down k u of_user h = go (of_tainted t k h)
    where
      leak : OfDevice t k ⊎ OfBox t k → (b : BoxLine) × IsLeakedBy t k b
      leak (inl d) = absurd (false≢true (ap is_device (sym of_user) ∙ d.device))
      leak (inr b) = (b.box, record { held = b.held; content = b.content; unlawful = b.unlawful })

      by_box : (b : ByBox t k) (r : Bool) → t.allowed b.box.to.scope b.box.of.scope ≡ r → (b : BoxLine) × IsLeakedBy t k b
      by_box b false e = (b.box, record { held = b.held; content = b.content; unlawful = e })
      by_box b true e =
          let live = (law.joins_live b.box.to.scope b.box.of.scope e).0 in
          let device = down b.box u b.held (ap (λ (key : KeyId). key.scope) b.content ∙ of_user) in
          absurd (apart (is_tainted t b.box.to) b.tainted (device_clean others b.box.to device live))

      go : IsIn k (leaked t) ⊎ ByBox t k → (b : BoxLine) × IsLeakedBy t k b
      go (inl j) = leak (of_leaked t k j)
      go (inr b) = by_box b (t.allowed b.box.to.scope b.box.of.scope) refl
