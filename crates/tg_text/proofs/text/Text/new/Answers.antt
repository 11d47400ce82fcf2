use Rattle.tg_text.specs.Padded.{padded_text}
use Rattle.tg_text.proofs.text.Text.new.Goals as goal

pub invariant_of-result : goal.invariant_of-result
invariant_of-result g c = padded_text _ _ _ c.copy_from_slice.ensures.after c.requires
