use Rattle.std.proofs.Common.{refl}
use Rattle.std.specs.Fmt.{digits}
use Rattle.hex.specs.Hex.{encode_with}
use Rattle.team_model.specs.KeyLines.{lined, with_lines}
use Rattle.team_model.proofs.laws.worked_show.Goals as goal

pub returns : goal.returns
unfolding digits encode_with lined with_lines
returns c = record { first = (refl, refl); waiting = (refl, refl) }
