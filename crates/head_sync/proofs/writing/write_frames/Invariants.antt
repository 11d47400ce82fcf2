use Rattle.std.proofs.Common.{◌≡◌, ◌++◌, drop}
use Rattle.head_sync.specs.Messages.{frames_of}
use Rattle.head_sync.specs.Texts.{texts_at}
use Rattle.head_sync.proofs.writing.write_frames.Given as goal

abbrev pub invariant-loop-position : goal.invariant-loop-position
invariant-loop-position g l =
    let links = (g.H.LinkKeeper.held l.keeper).links in
    l.out ++ frames_of (texts_at links (drop l.position-index l.positions)) ≡ l.fn.out ++ frames_of (texts_at links l.positions)
