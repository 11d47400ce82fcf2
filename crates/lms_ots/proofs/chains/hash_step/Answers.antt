use Rattle.std.proofs.Common.{ap, ◌∙◌, refl}
use Rattle.sha2.specs.Sha256.{sha256}
use Rattle.lms_ots.proofs.Buffers.{three_parts}
use Rattle.lms_ots.proofs.chains.hash_step.Goals as goal

pub returns : goal.returns
returns c =
    c.digest.ensures ∙ rw (c.copy_from_slice.ensures.after, c.copy_from_slice-2.ensures.after) (ap sha256 (three_parts c.args.front.now _ c.args.value.now c.args.j c.told-front refl c.told-value))
