-- Hexadecimal digits of a list, part by part.
use Rattle.std.proofs.Common.{◌≡◌, ℕ, List, [], ◌∷◌, ◌++◌, refl}
use Rattle.hex.specs.Hex.{encode_with}
use Rattle.tg_text.specs.Spelling.{spell_hex}

pub spell_hex-nil : spell_hex [] ≡ []
unfolding encode_with
spell_hex-nil = refl

pub spell_hex-append : (xs ys : List ℕ) → spell_hex (xs ++ ys) ≡ spell_hex xs ++ spell_hex ys
unfolding encode_with
spell_hex-append [] ys = refl
spell_hex-append (x ∷ xs) ys = rw (spell_hex-append xs ys) refl
