-- The base64 of a key decodes into 56 bytes.
use Rattle.std.proofs.Common.{◌≡◌, ℕ, ◌*◌, ◌+◌, ◌-◌, ◌/◌, ◌%◌, Bool, List, length, Option, None, Some, Ok, refl, ◌∙◌, length-append}
use Rattle.std.proofs.lemmas.List.{length-replicate}
use Rattle.base64.specs.Engines.{standard}
use Rattle.base64.specs.GeneralPurpose.{decode_slice_of, decoded_bytes_of}
use Rattle.base64.specs.Decode.{or_else, decode_error, decode_slice_result, lone_error, groups_error, suffix_error, groups_before_last, decoded_bytes}
use Rattle.base64.specs.declared.decode.DecodeError.{DecodeError}
use Rattle.base64.specs.declared.engine.DecodePaddingMode.{DecodePaddingMode}
use Rattle.base64.proofs.RoundTrip.{decode-encode, length-encode_symbols}
use Rattle.tg_text.specs.Spelling.{AreBytes, spell_base64}

both_none : (x y : Option DecodeError) → or_else x y ≡ None → (x ≡ None) × (y ≡ None)
both_none None y e = (refl, e)
both_none (Some x) y e = cc e

pub length-spell_base64 : (x : List ℕ) → length (spell_base64 x) ≡ (4 * length x + 2) / 3 + (3 - length x % 3) % 3
length-spell_base64 x = rw (length-append, length-encode_symbols, length-replicate) refl

pub decodes_bytes : (x : List ℕ) → AreBytes x → decoded_bytes_of standard (spell_base64 x) ≡ x
decodes_bytes x bytes = (decode-encode standard.encode_table standard.decode_table x 61 standard.config.decode_allow_trailing_bits standard.config.decode_padding_mode standard.config.encode_padding refl bytes refl).1

-- what decodes to 56 bytes fits where 56 have room
decodes_56 : (dec s x : List ℕ) (pad : ℕ) (allow : Bool) (mode : DecodePaddingMode) → decode_error dec pad allow mode s ≡ None → decoded_bytes dec pad s ≡ x → length s ≡ 76 → length x ≡ 56
    → decode_slice_result dec pad allow mode s 56 ≡ Ok 56
decodes_56 dec s x pad allow mode none is long size =
    let lone = both_none (lone_error dec pad s) (or_else (groups_error dec s (groups_before_last (length s))) (suffix_error dec pad allow mode (4 * groups_before_last (length s)) s)) none in
    rw (lone.0, lone.1, is, size, long) refl

pub decodes_key : (x : List ℕ) → length x ≡ 56 → AreBytes x → decode_slice_of standard (spell_base64 x) 56 ≡ Ok 56
decodes_key x size bytes =
    let long : length (spell_base64 x) ≡ 76 = length-spell_base64 x ∙ rw size refl in
    let none = (decode-encode standard.encode_table standard.decode_table x 61 standard.config.decode_allow_trailing_bits standard.config.decode_padding_mode standard.config.encode_padding refl bytes refl).0 in
    decodes_56 standard.decode_table (spell_base64 x) x 61 standard.config.decode_allow_trailing_bits standard.config.decode_padding_mode none (decodes_bytes x bytes) long size
