use Rattle.std.proofs.Common.{inl, inr, rules}
use Rattle.team_files.proofs.Fronts.{front_of_header, front_of_length, line_of_front}
use Rattle.team_files.proofs.first.is_line_front.Goals as goal

pub returns-then-is_length_front : goal.returns-then-is_length_front
returns-then-is_length_front c = λ none. ((λ t. front_of_length c.args.bytes.now (c.is_length_front.ensures.0 c.if-is_length_front.true)), (λ h. c.if-is_length_front.true))

pub returns-else-is_length_front : goal.returns-else-is_length_front
returns-else-is_length_front c = λ none. (
  (λ t. front_of_header c.args.bytes.now (c.is_header_front.ensures.0 t)),
  (λ h. elim (line_of_front c.args.bytes.now none h) [
    | inl line ↦ absurd (let is = c.is_length_front.ensures.1 line in search rules)
    | inr line ↦ c.is_header_front.ensures.1 line
  ]),
)
