use Rattle.std.proofs.Common.{inl, inr, sym, ◌∙◌, rules}
use Rattle.team_files.proofs.Fronts.{digits_of_front, long_digits}
use Rattle.team_files.proofs.first.is_header_front.Goals as goal

pub returns-then-digits-le-HEX_DIGITS : goal.returns-then-digits-le-HEX_DIGITS
returns-then-digits-le-HEX_DIGITS c = (
  (λ t. inr (c.in-Some.digits.now, c.in-Some.ensures, c.if-digits-le-HEX_DIGITS.true, sym c.are_lower_digits.ensures ∙ t)),
  (λ h. c.are_lower_digits.ensures ∙ (digits_of_front c.args.bytes.now c.in-Some.digits.now c.in-Some.ensures h).1),
)

pub returns-else-digits-le-HEX_DIGITS : goal.returns-else-digits-le-HEX_DIGITS
returns-else-digits-le-HEX_DIGITS c = (
  (λ t. absurd (search rules)),
  (λ h. absurd (long_digits c.args.bytes.now c.in-Some.digits.now c.in-Some.ensures h c.if-digits-le-HEX_DIGITS.false)),
)

pub returns-in-None : goal.returns-in-None
returns-in-None c = (
  (λ t. inl (c.begins_with.ensures.0 t)),
  (λ h. elim h [ inl short ↦ c.begins_with.ensures.1 short | inr long ↦ absurd (c.in-None.ensures long.0 long.1) ]),
)
