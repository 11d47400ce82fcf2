-- An input has one list of items, and a run of whole items is its beginning.
use Rattle.std.proofs.Common.{◌≡◌, ℕ, zero, suc, ◌<◌, ◌≤◌, ◌⊎◌, inl, inr, List, [], ◌∷◌, ◌++◌, length, take, refl, sym, ap, ◌∙◌, subst, arith}
use Rattle.std.proofs.lemmas.Bool.{cases_lt}
use Rattle.team_files.specs.declared.item.Item.{Item}
use Rattle.team_files.specs.declared.item.Item.TheVariants.{Header, Text, Cut, BadFrame, Long}
use Rattle.team_files.specs.Bundles.{Begins, IsBad, IsFront, IsItems, IsJudged, long_of}
use Rattle.team_files.specs.Parts.{IsEnd, IsRun, IsRunTo}
use Rattle.team_files.specs.declared.next.End.{End}
use Rattle.team_files.specs.declared.next.End.TheVariants as end_
use Rattle.team_files.proofs.ItemTexts.{begins_more, begins_once, begins_some, not_bad, not_front, tell_item}

-- a list of items begins with a whole one, or is one fault
IsMore : List ℕ → Item → List Item → Type 0
IsMore b x xs = ((r : List ℕ) × Begins b x r × IsItems r xs) ⊎ (((x ≡ Cut) × (0 < length b) × IsFront b × (xs ≡ [])) ⊎ ((x ≡ BadFrame) × IsBad b × (xs ≡ [])))

more_of : (b : List ℕ) (x : Item) (xs : List Item) → IsItems b (x ∷ xs) → IsMore b x xs
unfolding IsMore
more_of b Header xs h = inl (h.0, h.1, h.2)
more_of b (Text inner) xs h = inl (h.0, h.1, h.2)
more_of b Cut xs h = inr (inl (refl, h.0, h.1, h.2))
more_of b BadFrame xs h = inr (inr (refl, h.0, h.1))
more_of b Long xs h = absurd h

pub items_cons : (b : List ℕ) (x : Item) (r : List ℕ) (xs : List Item) → Begins b x r → IsItems r xs → IsItems b (x ∷ xs)
items_cons b Header r xs h k = (r, h, k)
items_cons b (Text inner) r xs h k = (r, h, k)
items_cons b Cut r xs h k = absurd h
items_cons b BadFrame r xs h k = absurd h
items_cons b Long r xs h k = absurd h

items_some : (b : List ℕ) (x : Item) (xs : List Item) → IsItems b (x ∷ xs) → 0 < length b
unfolding IsMore
items_some b x xs h = elim (more_of b x xs h) [
  | inl whole ↦ omega (arith, begins_some b x whole.0 whole.1)
  | inr fault ↦ elim fault [ inl cut ↦ cut.1 | inr bad ↦ bad.1.some ]
]

same_items : (x y : Item) (xs ys : List Item) → x ≡ y → xs ≡ ys → x ∷ xs ≡ y ∷ ys
same_items x y xs ys h t = cc

pub items_once : (b : List ℕ) (xs ys : List Item) → IsItems b xs → IsItems b ys → xs ≡ ys
unfolding IsMore
items_once b [] [] h k = refl
items_once b [] (y ∷ ys) h k = absurd (omega (arith, ap length h, items_some b y ys k))
items_once b (x ∷ xs) [] h k = absurd (omega (arith, ap length k, items_some b x xs h))
items_once b (x ∷ xs) (y ∷ ys) h k = elim (more_of b x xs h) [
  | inl whole ↦ elim (more_of b y ys k) [
    | inl other ↦
        let once = begins_once b x y whole.0 other.0 whole.1 other.1 in
        same_items x y xs ys once.0 (items_once other.0 xs ys (subst (λ r. IsItems r xs) once.1 whole.2) other.2)
    | inr fault ↦ elim fault [ inl cut ↦ absurd (not_front b x whole.0 whole.1 cut.2) | inr bad ↦ absurd (not_bad b x whole.0 whole.1 bad.1) ]
  ]
  | inr own ↦ elim (more_of b y ys k) [
    | inl other ↦ elim own [ inl cut ↦ absurd (not_front b y other.0 other.1 cut.2) | inr bad ↦ absurd (not_bad b y other.0 other.1 bad.1) ]
    | inr fault ↦ elim own [
      | inl cut ↦ elim fault [
        | inl same ↦ same_items x y xs ys (cut.0 ∙ sym same.0) (cut.3 ∙ sym same.3)
        | inr bad ↦ absurd (bad.1.no_front cut.2)
      ]
      | inr bad ↦ elim fault [
        | inl cut ↦ absurd (bad.1.no_front cut.2)
        | inr same ↦ same_items x y xs ys (bad.0 ∙ sym same.0) (bad.2 ∙ sym same.2)
      ]
    ]
  ]
]

items_within : (n : ℕ) (b : List ℕ) → length b ≤ n → (xs : List Item) × IsItems b xs
items_within n [] short = ([], refl)
items_within zero (c ∷ b) short = absurd (omega (arith, short))
items_within (suc n) (c ∷ b) short = elim (tell_item (c ∷ b) (omega arith)) [
  | inl whole ↦
      let less = begins_some (c ∷ b) whole.0 whole.1 whole.2 in
      let rest = items_within n whole.1 (omega (arith, less, short)) in
      (whole.0 ∷ rest.0, items_cons (c ∷ b) whole.0 whole.1 rest.0 whole.2 rest.1)
  | inr fault ↦ elim fault [ inl front ↦ (Cut ∷ [], (omega arith, front, refl)) | inr bad ↦ (BadFrame ∷ [], (bad, refl)) ]
]

pub all_items : (b : List ℕ) → (xs : List Item) × IsItems b xs
all_items b = items_within (length b) b (omega arith)

-- the items of a front
pub front_items : (b : List ℕ) → IsFront b → (xs : List Item) × IsItems b xs × (long_of xs ≡ Long ∷ [])
front_items [] front = ([], refl, refl)
front_items (c ∷ b) front = (Cut ∷ [], (omega arith, front, refl), refl)

-- runs

pub run_items : (b : List ℕ) (xs : List Item) (r : List ℕ) (ys : List Item) → IsRun b xs r → IsItems r ys → IsItems b (xs ++ ys)
run_items b [] r ys h k = subst (λ l. IsItems l ys) (sym h) k
run_items b (x ∷ xs) r ys h k = items_cons b x h.0 (xs ++ ys) h.1 (run_items h.0 xs r ys h.2 k)

pub run_more : (b : List ℕ) (xs : List Item) (r more : List ℕ) → IsRun b xs r → IsRun (b ++ more) xs (r ++ more)
run_more b [] r more h = ap (λ l. l ++ more) h
run_more b (x ∷ xs) r more h = (h.0 ++ more, begins_more b x h.0 more h.1, run_more h.0 xs r more h.2)

pub run_push : (b : List ℕ) (xs : List Item) (mid : List ℕ) (x : Item) (r : List ℕ) → IsRun b xs mid → Begins mid x r → IsRun b (xs ++ x ∷ []) r
run_push b [] mid x r h k = (r, subst (λ l. Begins l x r) (sym h) k, refl)
run_push b (y ∷ xs) mid x r h k = (h.0, h.1, run_push h.0 xs mid x r h.2 k)

pub end_of : (b kept : List ℕ) (xs : List Item) (e : End) → IsRunTo b xs e → IsEnd b kept xs e
end_of b kept xs end_.Kept h = absurd h
end_of b kept xs (end_.Front rest) h = h
end_of b kept xs end_.Bad h = h

pub end_cons : (b kept : List ℕ) (x : Item) (r : List ℕ) (xs : List Item) (e : End) → Begins b x r → IsRunTo r xs e → IsEnd b kept (x ∷ xs) e
end_cons b kept x r xs end_.Kept h k = absurd k
end_cons b kept x r xs (end_.Front rest) h k = ((r, h, k.0), k.1)
end_cons b kept x r xs end_.Bad h k = (k.0, (r, h, k.1), k.2)

long_cons : (b : List ℕ) (x : Item) (r : List ℕ) (xs : List Item) → Begins b x r → long_of (x ∷ xs) ≡ x ∷ long_of xs
long_cons b Header r xs h = refl
long_cons b (Text inner) r xs h = refl
long_cons b Cut r xs h = absurd h
long_cons b BadFrame r xs h = absurd h
long_cons b Long r xs h = absurd h

pub run_long : (b : List ℕ) (xs : List Item) (r : List ℕ) (ys : List Item) → IsRun b xs r → long_of (xs ++ ys) ≡ xs ++ long_of ys
run_long b [] r ys h = refl
run_long b (x ∷ xs) r ys h = long_cons b x h.0 (xs ++ ys) h.1 ∙ ap (λ l. x ∷ l) (run_long h.0 xs r ys h.2)

-- judged items

pub judged_once : (left : ℕ) (kept more : List ℕ) (xs ys : List Item) → IsJudged left kept more xs → IsJudged left kept more ys → xs ≡ ys
judged_once left kept more xs ys h k = elim (cases_lt left (length more)) [
  | inl longer ↦
      let own = h.longer longer in
      let other = k.longer longer in
      own.2 ∙ ap long_of (items_once (kept ++ take left more) own.0 other.0 own.1 other.1) ∙ sym other.2
  | inr within ↦ items_once (kept ++ more) xs ys (h.within (omega (arith, within))) (k.within (omega (arith, within)))
]

pub all_judged : (left : ℕ) (kept more : List ℕ) → (xs : List Item) × IsJudged left kept more xs
all_judged left kept more = elim (cases_lt left (length more)) [
  | inl longer ↦
      let found = all_items (kept ++ take left more) in
      (long_of found.0, record { within = λ short. absurd (omega (arith, longer, short)); longer = λ _. (found.0, found.1, refl) })
  | inr within ↦
      let found = all_items (kept ++ more) in
      (found.0, record { within = λ _. found.1; longer = λ past. absurd (omega (arith, within, past)) })
]
