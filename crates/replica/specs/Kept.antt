-- What a replica keeps of its links beside them. Only private contracts cite it.
use Rattle.std.specs.Prelude.{◌≡◌, List}
use Rattle.team_model.specs.declared.terms.Link.{Link}
use Rattle.replica.specs.Striking.{AreStriking, AreStrikes}
use Rattle.replica.specs.Views.{IsViewOf, judgements}
use Rattle.replica.specs.declared.judged.Judged.{Judged}
use Rattle.replica.specs.declared.viewing.Kept.{Kept}

-- what was found is found of all connected links
pub record AreAllJudged (links : List Link) (judged : Judged) : Type 0 where
  pub reasons : judged.reasons.items ≡ judgements links
  pub strikers : AreStriking links judged.reasons.items judged.strikers.items
  pub strikes : AreStrikes links judged.reasons.items judged.strikes.items

pub record IsKept (links : List Link) (kept : Kept) : Type 0 where
  pub judged : AreAllJudged links kept.judged
  pub view : IsViewOf links kept.view
