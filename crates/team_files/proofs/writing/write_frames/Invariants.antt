use Rattle.std.proofs.Common.{◌≡◌, ◌++◌, take}
use Rattle.team_files.specs.Frames.{frames_named}
use Rattle.team_files.proofs.writing.write_frames.Given as goal

abbrev pub invariant-loop-name : goal.invariant-loop-name
invariant-loop-name l = l.out ≡ l.fn.out ++ frames_named l.graph.links (take l.name-index l.names)
