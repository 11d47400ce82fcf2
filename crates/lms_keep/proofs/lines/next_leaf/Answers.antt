use Rattle.std.proofs.Common.{ℕ, ◌≤◌, codes, refl, arith}
use Rattle.tg_text.specs.Spelling.{spell_decimal}
use Rattle.tg_text.proofs.FieldLaws.{decimal_lacks}
use Rattle.tg_text.proofs.FieldLines.{takes}
use Rattle.lms_keep.proofs.lines.next_leaf.Goals as goal

pub returns : goal.returns
returns c = takes (λ (n : ℕ). (0 ≤ n) × (n ≤ c.args.leaves)) spell_decimal (codes "next") c.in_ok-field.field.now c.args.lines.now c.take_field.new.self c.read_within.result
    (λ n is. decimal_lacks 10 n refl (omega (arith, is.1, c.ranges.leaves.fits))) c.in_ok-field.ensures.some c.read_within.ensures
