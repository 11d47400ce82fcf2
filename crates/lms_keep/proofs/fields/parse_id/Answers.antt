use Rattle.std.proofs.Common.{Some, ap}
use Rattle.hex.proofs.HexLemmas.{decode_sized-encode_lower}
use Rattle.lms_keep.proofs.fields.parse_id.Goals as goal

pub returns-in-Ok : goal.returns-in-Ok
returns-in-Ok c = λ x is e. let found = rw (e, decode_sized-encode_lower x 16 is.size is.bytes) at c.in-Ok.ensures.value in ap Some found.1

pub returns-in-Err : goal.returns-in-Err
returns-in-Err c = λ x is e. let found = rw (e, decode_sized-encode_lower x 16 is.size is.bytes) at c.in-Err.ensures.value in cc
