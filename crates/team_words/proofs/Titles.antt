-- A word that was read as a title.
use Rattle.std.proofs.Common.{◌≡◌, ◌↔◌, ◌&&◌, ℕ, Bool, true, false, cond, List, length, Option, Some, None, IsSome, IfSome, nat_le, refl, ap}
use Rattle.std.specs.List.{list_all}
use Rattle.std.specs.Str.{is_utf8}
use Rattle.std.proofs.lemmas.Bool.{and_parts, false≢true, le-leb, leb-true}
use Rattle.std.proofs.lemmas.Str.{IsUtf8-from_is_utf8, is_utf8-from_IsUtf8}
use Rattle.tg_text.specs.Spelling.{IsTitle, is_printing}
use Rattle.team_words.specs.Words.{is_title}

is_title-true : (w : List ℕ) → IsTitle w → is_title w ≡ true
is_title-true w is =
    let some : nat_le 1 (length w) ≡ true = le-leb 1 (length w) is.some in
    let short : nat_le (length w) 128 ≡ true = le-leb (length w) 128 is.short in
    let text : is_utf8 w ≡ true = is_utf8-from_IsUtf8 w is.text in
    let printing : list_all is_printing w ≡ true = is.printing in
    rw (some, short, text, printing) refl

IsTitle-from_is_title : (w : List ℕ) → is_title w ≡ true → IsTitle w
IsTitle-from_is_title w e =
    let all = and_parts (nat_le 1 (length w) && nat_le (length w) 128 && is_utf8 w) (list_all is_printing w) e in
    let text = and_parts (nat_le 1 (length w) && nat_le (length w) 128) (is_utf8 w) all.0 in
    let size = and_parts (nat_le 1 (length w)) (nat_le (length w) 128) text.0 in
    record {
      some = leb-true 1 (length w) size.0;
      short = leb-true (length w) 128 size.1;
      text = IsUtf8-from_is_utf8 w text.1;
      printing = all.1;
    }

-- the title of a word, where it has one
pub read_title : (w : List ℕ) (title : Option (List ℕ)) → IsSome title ↔ IsTitle w → IfSome title (λ t. t ≡ w) → title ≡ cond (is_title w) (Some w) None
read_title w (Some t) exact found = rw (is_title-true w (exact.0 refl)) (ap (λ (b : List ℕ). Some b) found)
read_title w None exact found = go (is_title w) refl
  where
    go : (b : Bool) → is_title w ≡ b → ◌≡◌ {A = Option (List ℕ)} None (cond b (Some w) None)
    go false e = refl
    go true e = absurd (false≢true (exact.1 (IsTitle-from_is_title w e)))
