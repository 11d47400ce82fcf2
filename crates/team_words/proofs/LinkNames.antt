-- A word that was read as a link's name.
use Rattle.std.proofs.Common.{◌≡◌, ◌∙◌, ℕ, ◌*◌, Bool, true, false, cond, List, Option, Some, None, Result, Ok, Err, length, nat_eq, refl, sym, arith}
use Rattle.std.specs.Cmp.Lexicographic.{bytes_decides, pointwise}
use Rattle.hex.specs.Hex.{decode_sized}
use Rattle.hex.specs.declared.error.FromHexError.{FromHexError}
use Rattle.hex.proofs.HexLemmas.{decode_of-ok, decode_sized-encode_lower, decode_sized-ok, decode_sized-twice}
use Rattle.tg_text.specs.Reading.{Reads}
use Rattle.tg_text.specs.Spelling.{IsHash, spell_hex}
use Rattle.team_words.specs.Words.{hash_of, spelled_by}

decoded_hash : (word bytes : List ℕ) → decode_sized word 32 ≡ Ok bytes → IsHash bytes
decoded_hash word bytes e =
    let size : length word ≡ 64 = decode_sized-ok word 32 bytes e in
    let parts = decode_of-ok word bytes (sym (decode_sized-twice word 32 size) ∙ e) in
    let half : length word ≡ 2 * length bytes = parts.2 in
    record { size = omega (arith, size, half); bytes = parts.3 }

pub read_hash : (word : List ℕ) (found : Option (List ℕ)) → Reads IsHash spell_hex word found → found ≡ hash_of word
read_hash word (Some hash) is =
    let range = is.found.0 in
    rw (is.found.1, decode_sized-encode_lower hash 32 range.size range.bytes, (bytes_decides (spell_hex hash) (spell_hex hash)).1 refl) refl
read_hash word None is = go (decode_sized word 32) refl
  where
    go : (r : Result (List ℕ) FromHexError) → decode_sized word 32 ≡ r → ◌≡◌ {A = Option (List ℕ)} None (spelled_by word r)
    go (Err fault) e = refl
    go (Ok bytes) e = same (pointwise nat_eq (spell_hex bytes) word) refl
      where
        same : (b : Bool) → pointwise nat_eq (spell_hex bytes) word ≡ b → ◌≡◌ {A = Option (List ℕ)} None (cond b (Some bytes) None)
        same false f = refl
        same true f = is.only bytes (decoded_hash word bytes e) (sym ((bytes_decides (spell_hex bytes) word).0 f))
