use Rattle.std.proofs.Common.{Some, ap, append-nil, ◌∙◌}
use Rattle.tg_text.proofs.Base64.{decodes_bytes, decodes_key}
use Rattle.tg_text.proofs.public_key.parse_key.Goals as goal

pub returns-in-Ok : goal.returns-in-Ok
returns-in-Ok c = λ x size bytes e. let found = rw (e, decodes_bytes x bytes, size) at c.in-Ok.ensures.written in ap Some (found ∙ append-nil x)

pub returns-in-Err : goal.returns-in-Err
returns-in-Err c = λ x size bytes e. let found = rw (e, decodes_key x size bytes) at c.in-Err.ensures.value in cc
