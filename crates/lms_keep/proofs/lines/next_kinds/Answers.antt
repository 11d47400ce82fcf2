use Rattle.std.proofs.Common.{ℕ, codes}
use Rattle.lms_keep.specs.KeyText.{AreKinds, kinds_field}
use Rattle.lms_keep.proofs.KindLaws.{kinds_lack}
use Rattle.tg_text.proofs.FieldLines.{takes}
use Rattle.lms_keep.proofs.lines.next_kinds.Goals as goal

pub returns : goal.returns
returns c = takes (λ (k : ℕ × ℕ). AreKinds k.0 k.1) (λ (k : ℕ × ℕ). kinds_field k.0 k.1) (codes "kinds") c.in_ok-field.field.now c.args.lines.now c.take_field.new.self c.read_kinds.result
    (λ k is. kinds_lack k.0 k.1 is) c.in_ok-field.ensures.some c.read_kinds.ensures
