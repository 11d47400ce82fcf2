-- Items that are given one after another.
use Rattle.std.proofs.Common.{◌≡◌, ◌⊎◌, inl, inr, ◌+◌, ◌<◌, ℕ, Result, Ok, Err, OnOk, OnErr, List, [], ◌∷◌, ◌++◌, take, drop, get_or, length, take-append-drop, refl, sym, ◌∙◌, ap, subst}
use Rattle.std.proofs.lemmas.List.{take_more}
use Rattle.link_graph.specs.Held.{Held}
use Rattle.team_files.specs.declared.item.Item.{Item}
use Rattle.link_intake.specs.Giving.{Becomes, IsGiven, IsPartGiven}
use Rattle.link_intake.specs.declared.item_result.ItemResult.{ItemResult}

-- an item was given, and what became of it added
abbrev pub GivesOne : Held → Held → Item → List ItemResult → List ItemResult → Type 0
GivesOne old new item results more = (f : ItemResult) × (more ≡ results ++ f ∷ []) × Becomes old new item f

-- an item was given, or nothing
abbrev pub MayGive : Held → Held → Item → Type 0
MayGive old new item = (new ≡ old) ⊎ ((f : ItemResult) × Becomes old new item f)

pub gives_one : {T E : Type 0} (r : Result T E) (old new : Held) (item same : Item) (results more : List ItemResult) (f : ItemResult) → item ≡ same → Becomes old new same f
    → OnOk r (more ≡ results ++ f ∷ []) → OnOk r (GivesOne old new item results more)
gives_one (Ok x) old new item same results more f e becomes pushed = (f, pushed, subst (λ (i : Item). Becomes old new i f) (sym e) becomes)
gives_one (Err x) old new item same results more f e becomes pushed = tt

pub gives_part : {T E : Type 0} (r : Result T E) (old new : Held) (item same : Item) (f : ItemResult) → item ≡ same → Becomes old new same f → OnErr r (MayGive old new item)
gives_part (Ok x) old new item same f e becomes = tt
gives_part (Err x) old new item same f e becomes = inr (f, subst (λ (i : Item). Becomes old new i f) (sym e) becomes)

pub keeps_part : {T E : Type 0} (r : Result T E) (old new : Held) (item : Item) → new ≡ old → OnErr r (MayGive old new item)
keeps_part (Ok x) old new item same = tt
keeps_part (Err x) old new item same = inl same

-- items were given, and one more
given_more : (old mid new : Held) (items : List Item) (item : Item) (results : List ItemResult) (f : ItemResult) → IsGiven old items mid results → Becomes mid new item f
    → IsGiven old (items ++ item ∷ []) new (results ++ f ∷ [])
given_more old mid new [] item [] f h becomes = (new, subst (λ (m : Held). Becomes m new item f) h.1 becomes, (refl, refl))
given_more old mid new [] item (r ∷ results) f h becomes = absurd (let bad : (r ∷ results) ≡ [] = h.0 in cc)
given_more old mid new (x ∷ items) item [] f h becomes = absurd h
given_more old mid new (x ∷ items) item (r ∷ results) f h becomes = (h.0, h.1, given_more h.0 mid new items item results f h.2 becomes)

-- so many first items were given
part_given : (old new : Held) (items : List Item) (i : ℕ) (results : List ItemResult) → IsGiven old (take i items) new results → IsPartGiven old items new
part_given old new items i results h = record { first = take i items; rest = drop i items; whole = sym (take-append-drop i items); results = results; given = h }

module _ (old mid new : Held) (items : List Item) (i : ℕ) (item : Item) (results : List ItemResult) (lt : i < length items) (at : item ≡ get_or items i item) where
  one_more : take (i + 1) items ≡ take i items ++ item ∷ []
  one_more = take_more items i item lt ∙ ap (λ (x : Item). take i items ++ x ∷ []) (sym at)

  pub given_next : (f : ItemResult) → IsGiven old (take i items) mid results → Becomes mid new item f → IsGiven old (take (i + 1) items) new (results ++ f ∷ [])
  given_next f h becomes =
      subst (λ (xs : List Item). IsGiven old xs new (results ++ f ∷ [])) (sym one_more) (given_more old mid new (take i items) item results f h becomes)

  pub part_next : IsGiven old (take i items) mid results → MayGive mid new item → IsPartGiven old items new
  part_next h (inl same) = part_given old new items i results (subst (λ (m : Held). IsGiven old (take i items) m results) (sym same) h)
  part_next h (inr given) = part_given old new items (i + 1) (results ++ given.0 ∷ []) (given_next given.0 h given.1)
