-- A line is held exactly where it is among the held boxes that have the print of a line.
use Rattle.std.proofs.Common.{◌≡◌, Bool, true, false, ◌&&◌, ◌||◌, cond, List, [], ◌∷◌, map, filter, refl, sym, ◌∙◌, ap, subst}
use Rattle.std.specs.List.{list_any}
use Rattle.std.specs.Ordering.{eq_by_cmp, is_eq, nat_cmp, ordering_then}
use Rattle.std.specs.Cmp.Lexicographic.{slice_cmp}
use Rattle.std.specs.declared.cmp.Ordering.{Ordering}
use Rattle.std.specs.declared.cmp.Ordering.TheVariants.{Less, Equal, Greater}
use Rattle.std.specs.Str.{bytes_eq}
use Rattle.std.proofs.lemmas.Bool.{false≢true, and_from, and_parts}
use Rattle.sha2.specs.Sha256.{sha256}
use Rattle.team_sets.specs.Members.{IsIn}
use Rattle.team_sets.proofs.Agree.{any_in}
use Rattle.team_sets.proofs.Pasts.{same_name-is}
use Rattle.tg_text.specs.Order.{key_cmp}
use Rattle.tg_text.specs.declared.keys.BoxLine.{BoxLine}
use Rattle.tg_text.specs.declared.keys.KeyId.{KeyId}
use Rattle.key_reach.specs.Keys.{same_key}
use Rattle.key_reach.specs.Lists.{IsListOf, pair_cmp}
use Rattle.key_reach.proofs.Equal.{key-is, key-same}
use Rattle.key_reach.proofs.Meeting.{names_equal}
use Rattle.key_reach.proofs.Numbered.{in-map}
use Rattle.team_model.specs.KeyLines.{same_line}
use Rattle.team_reducer.specs.Prints.{Print, has_pair, has_print, may_be, pair_of, print_cmp, print_of}

tied : (r s : Ordering) → is_eq r ≡ true → is_eq s ≡ true → is_eq (ordering_then r s) ≡ true
tied Less s e f = absurd (false≢true e)
tied Equal s e f = f
tied Greater s e f = absurd (false≢true e)

print-same : (p : Print) → eq_by_cmp print_cmp p p ≡ true
print-same p =
    tied (ordering_then (key_cmp p.0 p.0) (key_cmp p.1 p.1)) (slice_cmp nat_cmp p.2 p.2)
    (tied (key_cmp p.0 p.0) (key_cmp p.1 p.1) (key-same p.0) (key-same p.1)) (names_equal p.2)

pair-same : (p : KeyId × KeyId) → eq_by_cmp pair_cmp p p ≡ true
pair-same p = tied (key_cmp p.0 p.0) (key_cmp p.1 p.1) (key-same p.0) (key-same p.1)

same_print : (b h : BoxLine) → same_line b h ≡ true → (pair_of b ≡ pair_of h) × (print_of b ≡ print_of h)
same_print b h same =
    let first = and_parts (same_key b.to h.to) (same_key b.of h.of && bytes_eq b.bytes h.bytes) same in
    let second = and_parts (same_key b.of h.of) (bytes_eq b.bytes h.bytes) first.1 in
    let to = key-is b.to h.to first.0 in
    let of = key-is b.of h.of second.0 in
    let bytes = same_name-is b.bytes h.bytes second.1 in
    (λ i. (to i, of i), λ i. (to i, of i, sha256 (bytes i)))

-- a filter that keeps each that passes a test
kept_any : (p q : BoxLine → Bool) → ((h : BoxLine) → q h ≡ true → p h ≡ true) → (hs : List BoxLine) → list_any q (filter p hs) ≡ list_any q hs
kept_any p q keeps [] = refl
kept_any p q keeps (h ∷ hs) = go (p h) refl (q h) refl (kept_any p q keeps hs)
  where
    go : (b : Bool) → p h ≡ b → (c : Bool) → q h ≡ c → list_any q (filter p hs) ≡ list_any q hs → list_any q (cond b (h ∷ filter p hs) (filter p hs)) ≡ (c || list_any q hs)
    go true e c f more = (λ i. f i || list_any q (filter p hs)) ∙ ap (λ r. c || r) more
    go false e true f more = absurd (false≢true (sym e ∙ keeps h f))
    go false e false f more = more

pub known-are : (lines held : List BoxLine) (pairs : List (KeyId × KeyId)) (prints : List Print) → IsListOf pair_cmp (map pair_of lines) pairs → IsListOf print_cmp (map print_of lines) prints
    → (b : BoxLine) → IsIn b lines → list_any (same_line b) (filter (may_be pairs prints) held) ≡ list_any (same_line b) held
known-are lines held pairs prints paired list b k = kept_any (may_be pairs prints) (same_line b) keeps held
  where
    twinned : has_pair pairs b ≡ true
    twinned = paired.exact (pair_of b) ∙ any_in (eq_by_cmp pair_cmp (pair_of b)) (map pair_of lines) (pair_of b) (in-map pair_of b lines k) (pair-same (pair_of b))

    printed : has_print prints b ≡ true
    printed = list.exact (print_of b) ∙ any_in (eq_by_cmp print_cmp (print_of b)) (map print_of lines) (print_of b) (in-map print_of b lines k) (print-same (print_of b))

    keeps : (h : BoxLine) → same_line b h ≡ true → may_be pairs prints h ≡ true
    keeps h same =
        let is = same_print b h same in
        and_from (has_pair pairs h) (has_print prints h) (subst (λ (p : KeyId × KeyId). list_any (eq_by_cmp pair_cmp p) pairs ≡ true) is.0 twinned)
        (subst (λ (p : Print). list_any (eq_by_cmp print_cmp p) prints ≡ true) is.1 printed)
