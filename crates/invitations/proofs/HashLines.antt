-- Lines of hashes, read one after another.
use Rattle.std.proofs.Common.{◌≡◌, ℕ, ◌+◌, ◌<◌, List, [], ◌∷◌, ◌++◌, length, Option, Some, None, refl, sym, ap, ◌∙◌, append_assoc, append-nil, arith, length-append}
use Rattle.std.specs.List.{AllByRecursion}
use Rattle.tg_text.specs.Reading.{Takes}
use Rattle.tg_text.specs.Spelling.{IsHash}
use Rattle.tg_text.proofs.Lists.{same_some}
use Rattle.std.proofs.lemmas.List.Concat.{flat_map-append}
use Rattle.invitations.specs.FileLines.{hash_line, hash_lines}
use Rattle.invitations.specs.TokenText.{AreHashes}

-- Of all that the text may spell, these hashes are the first, and the rest of it is left.
pub record AreTaken (word : List ℕ) (many : ℕ) (old now : List ℕ) (hashes : List (List ℕ)) : Type 0 where
  pub each : AllByRecursion IsHash hashes
  pub spelled : old ≡ hash_lines word hashes ++ now
  pub only : (all : List (List ℕ)) (rest : List ℕ) → AreHashes many all → old ≡ hash_lines word all ++ rest
      → (more : List (List ℕ)) × (all ≡ hashes ++ more) × AllByRecursion IsHash more × (now ≡ hash_lines word more ++ rest)

pub taken_none : (word : List ℕ) (many : ℕ) (old : List ℕ) → AreTaken word many old old []
taken_none word many old = record {
  each = tt;
  spelled = refl;
  only = λ all rest is e. (all, refl, is.each, e);
}

lines_append : (word : List ℕ) (xs ys : List (List ℕ)) → hash_lines word (xs ++ ys) ≡ hash_lines word xs ++ hash_lines word ys
lines_append word xs ys = flat_map-append (hash_line word) xs ys

one_more : (word : List ℕ) (hashes : List (List ℕ)) (hash : List ℕ) → hash_lines word (hashes ++ hash ∷ []) ≡ hash_lines word hashes ++ hash_line word hash
one_more word hashes hash =
    lines_append word hashes (hash ∷ []) ∙ ap (λ (t : List ℕ). hash_lines word hashes ++ t) (append-nil (hash_line word hash))

all_append : (xs : List (List ℕ)) (x : List ℕ) → AllByRecursion IsHash xs → IsHash x → AllByRecursion IsHash (xs ++ x ∷ [])
all_append [] x all is = (is, tt)
all_append (y ∷ xs) x all is = (all.0, all_append xs x all.1 is)

-- There are more where fewer than all were taken,
no_more : (hashes all : List (List ℕ)) (many : ℕ) → length hashes < many → length all ≡ many → all ≡ hashes ++ [] → ⊥
no_more hashes all many few size e =
    let same : length all ≡ length hashes = ap (λ (l : List (List ℕ)). length l) (e ∙ append-nil hashes) in
    omega (arith, few, size, same)

-- and the next line is that of the next.
next_of : (word : List ℕ) (many : ℕ) (old now new : List ℕ) (hashes : List (List ℕ)) (found : Option (List ℕ)) → Takes IsHash (hash_line word) now new found → length hashes < many
    → (all : List (List ℕ)) (rest : List ℕ) (more : List (List ℕ)) → AreHashes many all → all ≡ hashes ++ more → AllByRecursion IsHash more → now ≡ hash_lines word more ++ rest
    → (x : List ℕ) × (others : List (List ℕ)) × (more ≡ x ∷ others) × AllByRecursion IsHash others × (found ≡ Some x) × (new ≡ hash_lines word others ++ rest)
next_of word many old now new hashes found takes few all rest [] is e each left = absurd (no_more hashes all many few is.count e)
next_of word many old now new hashes found takes few all rest (x ∷ others) is e each left =
    let first = takes.only x (hash_lines word others ++ rest) each.0 (left ∙ append_assoc (hash_line word x) (hash_lines word others) rest) in
    (x, others, refl, each.1, first.0, first.1)

pub taken_more : (word : List ℕ) (many : ℕ) (old now new : List ℕ) (hashes : List (List ℕ)) (hash : List ℕ) → AreTaken word many old now hashes → Takes IsHash (hash_line word) now new (Some hash)
    → length hashes < many → AreTaken word many old new (hashes ++ hash ∷ [])
taken_more word many old now new hashes hash taken takes few = record {
  each = all_append hashes hash taken.each takes.found.0;
  spelled =
      taken.spelled ∙ ap (λ (t : List ℕ). hash_lines word hashes ++ t) takes.found.1
      ∙ sym (append_assoc (hash_lines word hashes) (hash_line word hash) new) ∙ ap (λ (t : List ℕ). t ++ new) (sym (one_more word hashes hash));
  only = λ all rest is e.
      let before = taken.only all rest is e in
      let next = next_of word many old now new hashes (Some hash) takes few all rest before.0 is before.1 before.2 before.3 in
      let same : hash ≡ next.0 = same_some hash next.0 next.4 in
      let whole : all ≡ (hashes ++ hash ∷ []) ++ next.1 =
      before.1 ∙ ap (λ (l : List (List ℕ)). hashes ++ l) (next.2 ∙ ap (λ (x : List ℕ). x ∷ next.1) (sym same)) ∙ sym (append_assoc hashes (hash ∷ []) next.1) in
      (next.1, whole, next.3, next.5);
}

none_is : {X : Type 0} (x : X) → None ≡ Some x → ⊥
none_is x e = cc

-- Where the next line isn't there, they aren't all there.
pub taken_stops : (word : List ℕ) (many : ℕ) (old now new : List ℕ) (hashes : List (List ℕ)) → AreTaken word many old now hashes → Takes IsHash (hash_line word) now new None → length hashes < many
    → Takes (AreHashes many) (hash_lines word) old new None
taken_stops word many old now new hashes taken takes few = record {
  found = tt;
  only = λ all rest is e.
      let before = taken.only all rest is e in
      let next = next_of word many old now new hashes None takes few all rest before.0 is before.1 before.2 before.3 in
      absurd (none_is next.0 next.4);
}

nil_of : (hashes more : List (List ℕ)) → length (hashes ++ more) ≡ length hashes → more ≡ []
nil_of hashes [] e = refl
nil_of hashes (x ∷ more) e =
    let both : length (hashes ++ x ∷ more) ≡ length hashes + length (x ∷ more) = length-append hashes (x ∷ more) in
    absurd (omega (arith, e, both))

-- All that were asked for are taken.
pub taken_all : (word : List ℕ) (many : ℕ) (old now : List ℕ) (hashes : List (List ℕ)) → AreTaken word many old now hashes → length hashes ≡ many
    → Takes (AreHashes many) (hash_lines word) old now (Some hashes)
taken_all word many old now hashes taken size = record {
  found = (record { count = size; each = taken.each }, taken.spelled);
  only = λ all rest is e.
      let before = taken.only all rest is e in
      let nil : before.0 ≡ [] = nil_of hashes before.0 (ap (λ (l : List (List ℕ)). length l) (sym before.1) ∙ is.count ∙ sym size) in
      let same : all ≡ hashes = before.1 ∙ ap (λ (l : List (List ℕ)). hashes ++ l) nil ∙ append-nil hashes in
      (ap Some (sym same), before.3 ∙ ap (λ (l : List (List ℕ)). hash_lines word l ++ rest) nil);
}
