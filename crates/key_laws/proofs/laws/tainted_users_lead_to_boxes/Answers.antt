use Rattle.key_laws.proofs.Tainting.{user_leaked}
use Rattle.key_laws.proofs.laws.tainted_users_lead_to_boxes.Goals as goal

pub returns : goal.returns
returns c = λ t law others down k u is h. user_leaked t law others down k u is h
