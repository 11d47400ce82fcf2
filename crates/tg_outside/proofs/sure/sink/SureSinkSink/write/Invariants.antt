use Rattle.std.proofs.Common.{◌≡◌, ◌++◌, take}
use Rattle.tg_outside.proofs.sure.sink.SureSinkSink.write.Given as goal

abbrev pub invariant-loop-byte : goal.invariant-loop-byte
invariant-loop-byte l = l.self.taken.bytes ≡ l.fn.self.taken.bytes ++ take l.byte-index l.piece
