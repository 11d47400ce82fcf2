-- How the fields of a text are spelled. A text is a list of bytes.
use Rattle.std.specs.Prelude.{◌≡◌, ℕ, ◌≤◌, ◌<◌, Bool, false, not, ◌&&◌, ◌||◌, ◌==◌, nat_le, List, [], ◌∷◌, ◌++◌, length, take, drop, decimal, slice_index, IsUtf8, IsTrue}
use Rattle.std.specs.List.{list_all, list_any}
use Rattle.std.specs.Int.{w32, from_be_bytes}
use Rattle.hex.specs.Hex.{encode_lower}
use Rattle.base64.specs.Engines.{standard}
use Rattle.base64.specs.GeneralPurpose.{encode_of}

-- Each is a byte.
abbrev pub AreBytes : List ℕ → Type 0
AreBytes bytes = (i : ℕ) → slice_index bytes i < 256

-- 32 bytes: a link's name, a device's id, a seal.
pub record IsHash (hash : List ℕ) : Type 0 where
  pub size : length hash ≡ 32
  pub bytes : AreBytes hash

-- A number is spelled in digits without a leading zero. A number of a text is below 2 ^ 64.
abbrev pub spell_decimal : ℕ → List ℕ
spell_decimal n = decimal n

-- Bytes are spelled in two lower-case digits each.
abbrev pub spell_hex : List ℕ → List ℕ
spell_hex bytes = encode_lower bytes

-- Bytes are spelled as RFC 4648 section 4 says, padded, the unused bits zero.
abbrev pub spell_base64 : List ℕ → List ℕ
spell_base64 bytes = encode_of standard bytes

-- Whether a byte is a lower-case letter or a digit.
abbrev pub is_letter_or_digit : ℕ → Bool
is_letter_or_digit c = (nat_le 97 c && nat_le c 122) || (nat_le 48 c && nat_le c 57)

-- Whether a byte may stand in a name: `_`, `.` and `-` may too, but not first.
abbrev pub is_name_byte : ℕ → Bool
is_name_byte c = is_letter_or_digit c || (c == 95) || (c == 46) || (c == 45)

-- Whether a text begins with a letter or a digit.
abbrev pub begins_well : List ℕ → Bool
begins_well [] = false
begins_well (c ∷ cs) = is_letter_or_digit c

-- Whether a text is a user's or a role's name: 1 to 32 bytes.
abbrev pub is_user_name : List ℕ → Bool
is_user_name bytes = nat_le (length bytes) 32 && begins_well bytes && list_all is_name_byte bytes

-- Whether a byte is no control character of ASCII.
abbrev pub is_printing : ℕ → Bool
is_printing c = nat_le 32 c && not (c == 127)

-- A title has 1 to 128 bytes of UTF-8 without control characters of ASCII.
pub record IsTitle (bytes : List ℕ) : Type 0 where
  pub some : 1 ≤ length bytes
  pub short : length bytes ≤ 128
  pub text : IsUtf8 bytes
  pub printing : IsTrue (list_all is_printing bytes)

-- The number that the four bytes from a place on spell, the highest first.
unfoldable pub number_at : ℕ → List ℕ → ℕ
number_at i bytes = from_be_bytes w32 (take 4 (drop i bytes))

-- Whether a list has the form of a public key: 56 bytes that begin with an LMS type 5 to 9 and an LM-OTS type 1 to 4.
abbrev pub is_public_key : List ℕ → Bool
is_public_key bytes = (length bytes == 56) && nat_le 5 (number_at 0 bytes) && nat_le (number_at 0 bytes) 9
    && nat_le 1 (number_at 4 bytes) && nat_le (number_at 4 bytes) 4

-- A public key is bytes of this form.
pub record IsPublicKey (key : List ℕ) : Type 0 where
  pub form : IsTrue (is_public_key key)
  pub bytes : AreBytes key

-- Fields with one space between them.
abbrev pub spaced : List (List ℕ) → List ℕ
spaced [] = []
spaced (field ∷ []) = field
spaced (field ∷ fields) = field ++ 32 ∷ spaced fields

-- A line of fields, with its newline after them.
abbrev pub line_of : List (List ℕ) → List ℕ
line_of fields = spaced fields ++ 10 ∷ []

-- Whether a byte stands in a text.
abbrev pub has_byte : ℕ → List ℕ → Bool
has_byte c bytes = list_any (λ b. b == c) bytes

-- Whether a newline stands in a text.
abbrev pub has_newline : List ℕ → Bool
has_newline bytes = has_byte 10 bytes

-- Whether a space stands in a text.
abbrev pub has_space : List ℕ → Bool
has_space bytes = has_byte 32 bytes
