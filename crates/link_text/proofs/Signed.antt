-- The line of a signature, and the body before it.
use Rattle.std.proofs.Common.{◌≡◌, ℕ, ◌+◌, ◌-◌, ◌*◌, ◌/◌, ◌%◌, ◌^◌, ◌<◌, ◌≤◌, List, [], ◌∷◌, ◌++◌, length, take, codes, sym, ap, ◌∙◌, length-append, arith}
use Rattle.std.proofs.Math.Seq.{take-append_seam}
use Rattle.std.specs.Int.{div_ceil}
use Rattle.tg_text.proofs.Base64.{length-spell_base64}
use Rattle.tg_text.specs.Spelling.{spell_base64}
use Rattle.tg_text.specs.Limits.{most_link_bytes}
use Rattle.link_text.specs.LinkText.{sign_line}

line_length : (digits : List ℕ) → length ((codes "sign " ++ digits) ++ 10 ∷ []) ≡ length digits + 6
line_length digits = omega (arith, length-append (codes "sign " ++ digits) (10 ∷ []), length-append (codes "sign ") digits)

groups : (n : ℕ) → (4 * n + 2) / 3 + (3 - n % 3) % 3 ≡ div_ceil n 3 * 4
groups n = omega arith

-- three bytes have four digits, and so have one or two at the end
pub sign_length : (s : List ℕ) → div_ceil (length s) 3 * 4 + 6 ≡ length (sign_line s)
sign_length s = sym (line_length (spell_base64 s) ∙ ap (λ n. n + 6) (length-spell_base64 s ∙ groups (length s)))

pub line_fits : (bytes front back : List ℕ) (n : ℕ) → bytes ≡ front ++ back → n ≡ length back → n ≤ length bytes
line_fits bytes front back n e is = omega (arith, is, ap length e, length-append front back)

pub line_small : (n : ℕ) (bytes text : List ℕ) → n * 4 + 6 ≤ length bytes → bytes ≡ text → length text ≤ most_link_bytes → n * 4 + 6 < 2 ^ 64
line_small n bytes text h e fits = omega (arith, h, ap length e, fits)

pub cut_front : (bytes front back : List ℕ) (n : ℕ) → bytes ≡ front ++ back → n ≡ length back → take (length bytes - n) bytes ≡ front
cut_front bytes front back n e is =
    let at : length bytes - n ≡ length front = omega (arith, is, ap length e, length-append front back) in
    rw (at, e) (take-append_seam front back)
