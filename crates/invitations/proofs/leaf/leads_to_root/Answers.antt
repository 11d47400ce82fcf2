use Rattle.std.proofs.Common.{refl}
use Rattle.invitations.proofs.leaf.leads_to_root.Goals as goal

pub returns : goal.returns
returns c = rw (c.eq.ensures, c.split_at.ensures.back, c.as_slice.ensures, c.root_of.ensures, c.as_slice-2.ensures.bytes) refl
