use Rattle.std.proofs.Common.{append-nil, append_assoc, refl}
use Rattle.std.proofs.lemmas.List.{take_more}
use Rattle.tg_text.proofs.HexDigits.{spell_hex-append, spell_hex-nil}
use Rattle.tg_text.proofs.writing.extend_hex.Goals as goal

pub loop-byte-init : goal.loop-byte-init
loop-byte-init c = rw (spell_hex-nil, append-nil) refl

pub loop-byte-preserved : goal.loop-byte-preserved
loop-byte-preserved c = rw (c.in_ok-append_byte.ensures.ok, c.loop-byte.invariant, take_more c.args.bytes.now c.loop-byte.byte-index 0 c.loop-byte-test.true, spell_hex-append, append_assoc) refl
