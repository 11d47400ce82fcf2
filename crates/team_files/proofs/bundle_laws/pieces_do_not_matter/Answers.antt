use Rattle.team_files.proofs.ComingItems.{pieces_dont_matter}
use Rattle.team_files.proofs.bundle_laws.pieces_do_not_matter.Goals as goal

pub returns : goal.returns
returns c = pieces_dont_matter
