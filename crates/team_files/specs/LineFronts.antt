-- The first lines of items, cut off before their newline.
use Rattle.std.specs.Prelude.{◌≡◌, ℕ, ◌<◌, ◌≤◌, ◌^◌, ◌⊎◌, Bool, true, List, ◌++◌, length, codes}
use Rattle.std.specs.List.{list_all}
use Rattle.hex.specs.Hex.{lower_digits}
use Rattle.tg_text.specs.Spelling.{has_byte}
use Rattle.team_files.specs.Frames.{length_fields}

abbrev pub is_lower_digit : ℕ → Bool
is_lower_digit c = has_byte c lower_digits

-- a part of the word, or the word and a length of at most nine digits
abbrev pub IsLengthFront : List ℕ → Type 0
IsLengthFront bytes = ((more : List ℕ) × (codes "link " ≡ bytes ++ more)) ⊎ ((n : ℕ) × (n < 10 ^ 9) × (bytes ≡ length_fields n))

-- a part of the words, or the words and at most 64 digits
abbrev pub IsHeaderFront : List ℕ → Type 0
IsHeaderFront bytes = ((more : List ℕ) × (codes "team-file 1 " ≡ bytes ++ more))
    ⊎ ((digits : List ℕ) × (bytes ≡ codes "team-file 1 " ++ digits) × (length digits ≤ 64) × (list_all is_lower_digit digits ≡ true))
