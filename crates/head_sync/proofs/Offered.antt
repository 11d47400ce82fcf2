-- Texts that are offered one after another.
use Rattle.std.proofs.Common.{◌≡◌, ◌<◌, ◌+◌, ◌-◌, ◌^◌, ℕ, Bool, true, false, List, [], ◌∷◌, ◌++◌, Result, Ok, Err, OnErr, cond, filter, get_or, length, map, min, take, drop, take-append-drop, append-nil, length-append, refl, sym, ◌∙◌, ap, subst, arith}
use Rattle.std.specs.Borrow.{Bor}
use Rattle.std.proofs.lemmas.List.{take_more}
use Rattle.std.proofs.lemmas.List.Elements.{filter-append}
use Rattle.link_graph.specs.Held.{Held}
use Rattle.team_files.specs.declared.item.Item.{Item}
use Rattle.team_files.specs.declared.item.Item.TheVariants.{Text}
use Rattle.link_intake.specs.Giving.{IsGiven, IsPartGiven, TextBecomes}
use Rattle.link_intake.specs.ResultsText.{count, is_refused}
use Rattle.link_intake.specs.declared.item_result.ItemResult.{ItemResult}
use Rattle.head_sync.specs.Bodies.{lent}
use Rattle.head_sync.specs.Steps.{AreOffered}

pub on_err : {T E : Type 0} (r : Result T E) (P : Type 0) → P → OnErr r P
on_err (Ok x) P p = tt
on_err (Err e) P p = p

-- items are given, and then others
pub given_join : (old mid new : Held) (a b : List Item) (r s : List ItemResult) → IsGiven old a mid r → IsGiven mid b new s → IsGiven old (a ++ b) new (r ++ s)
given_join old mid new [] b [] s h g = subst (λ (m : Held). IsGiven m b new s) h.1 g
given_join old mid new [] b (x ∷ r) s h g = absurd (let bad : (x ∷ r) ≡ [] = h.0 in cc)
given_join old mid new (item ∷ a) b [] s h g = absurd h
given_join old mid new (item ∷ a) b (x ∷ r) s h g = (h.0, h.1, given_join h.0 mid new a b r s h.2 g)

pub count_join : (r s : List ItemResult) → count is_refused (r ++ s) ≡ count is_refused r + count is_refused s
count_join r s = ap length (filter-append is_refused r s) ∙ length-append (filter is_refused r) (filter is_refused s)

lent_append : (a b : List (Bor (List ℕ))) → map Text (lent (a ++ b)) ≡ map Text (lent a) ++ map Text (lent b)
lent_append [] b = refl
lent_append (x ∷ a) b = ap (λ (l : List Item). Text x.now ∷ l) (lent_append a b)

-- so many first texts were offered
pub offered_part : (old mid new : Held) (texts : List (Bor (List ℕ))) (i refused : ℕ) → AreOffered old (lent (take i texts)) mid refused → new ≡ mid
    → IsPartGiven old (map Text (lent texts)) new
offered_part old mid new texts i refused o same = record {
  first = map Text (lent (take i texts));
  rest = map Text (lent (drop i texts));
  whole = ap (λ (x : List (Bor (List ℕ))). map Text (lent x)) (sym (take-append-drop i texts)) ∙ lent_append (take i texts) (drop i texts);
  results = o.0;
  given = subst (λ (h : Held). IsGiven old (map Text (lent (take i texts))) h o.0) (sym same) o.1;
}

-- one more text is offered
pub offered_more : (old mid new : Held) (texts : List (Bor (List ℕ))) (d : Bor (List ℕ)) (i refused next : ℕ) (f : ItemResult) → i < length texts
    → AreOffered old (lent (take i texts)) mid refused → TextBecomes mid new (get_or texts i d).now f → next ≡ min (refused + cond (is_refused f) 1 0) (2 ^ 32 - 1)
    → AreOffered old (lent (take (i + 1) texts)) new next
offered_more old mid new texts d i refused next f lt o becomes e = (
  o.0 ++ f ∷ [],
  subst (λ (items : List Item). IsGiven old items new (o.0 ++ f ∷ [])) (sym whole)
      (given_join old mid new (map Text (lent (take i texts))) (Text (get_or texts i d).now ∷ []) o.0 (f ∷ []) o.1 (new, becomes, (refl, refl))),
  let before = o.2 in let size = count_join o.0 (f ∷ []) in let one = last f in omega (arith, e, before, size, one),
)
  where
    whole : map Text (lent (take (i + 1) texts)) ≡ map Text (lent (take i texts)) ++ Text (get_or texts i d).now ∷ []
    whole = ap (λ (x : List (Bor (List ℕ))). map Text (lent x)) (take_more texts i d lt) ∙ lent_append (take i texts) (get_or texts i d ∷ [])

    last : (f : ItemResult) → ◌≡◌ {A = ℕ} (count is_refused (f ∷ [])) (cond (is_refused f) 1 0)
    last f = go (is_refused f)
      where
        go : (b : Bool) → ◌≡◌ {A = ℕ} (length (cond b (f ∷ []) [])) (cond b 1 0)
        go true = refl
        go false = refl

-- all texts were offered
pub whole_part : (old new : Held) (texts : List (List ℕ)) (refused : ℕ) → AreOffered old texts new refused → IsPartGiven old (map Text texts) new
whole_part old new texts refused o = record { first = map Text texts; rest = []; whole = sym (append-nil (map Text texts)); results = o.0; given = o.1 }
