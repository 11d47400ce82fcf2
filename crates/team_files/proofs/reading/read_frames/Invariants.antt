use Rattle.std.proofs.Common.{List, length}
use Rattle.team_model.specs.declared.terms.Link.{Link}
use Rattle.team_files.proofs.Places.{IsReadTo}
use Rattle.team_files.proofs.reading.read_frames.Given as goal

abbrev pub invariant-loop-rest : goal.invariant-loop-rest
invariant-loop-rest l = (links : List Link) × IsReadTo l.team l.bytes l.at_end l.rest l.places l.last links

abbrev pub decreases-loop-rest : goal.decreases-loop-rest
decreases-loop-rest l = length l.rest
