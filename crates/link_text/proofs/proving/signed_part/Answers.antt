use Rattle.std.proofs.Common.{◌+◌, ◌*◌, ap, ◌∙◌, arith}
use Rattle.std.specs.Int.{div_ceil}
use Rattle.link_text.specs.LinkText.{body, sign_line, text}
use Rattle.link_text.proofs.Signed.{cut_front, line_fits, line_small, sign_length}
use Rattle.link_text.proofs.proving.signed_part.Goals as goal

pub overflow_sub-bytes : goal.overflow_sub-bytes
overflow_sub-bytes c =
    let l = c.args.link.now in
    line_fits c.args.bytes.now (body l) (sign_line l.signature) _ c.requires.is_text
    (ap (λ n. n * 4 + 6) (c.div_ceil-digits.ensures ∙ ap (λ n. div_ceil n 3) c.len.ensures) ∙ sign_length l.signature)

pub overflow_add-digits : goal.overflow_add-digits
overflow_add-digits c =
    let small = line_small c.div_ceil-digits.result c.args.bytes.now (text c.args.link.now) (overflow_sub-bytes c) c.requires.is_text c.requires.well_formed.fits in
    omega (arith, small)

pub overflow_mul-digits : goal.overflow_mul-digits
overflow_mul-digits c =
    let small = line_small c.div_ceil-digits.result c.args.bytes.now (text c.args.link.now) (overflow_sub-bytes c) c.requires.is_text c.requires.well_formed.fits in
    omega (arith, small)

pub returns : goal.returns
returns c =
    let l = c.args.link.now in
    c.split_at.ensures.front ∙ cut_front c.args.bytes.now (body l) (sign_line l.signature) _ c.requires.is_text
    (ap (λ n. n * 4 + 6) (c.div_ceil-digits.ensures ∙ ap (λ n. div_ceil n 3) c.len.ensures) ∙ sign_length l.signature)
