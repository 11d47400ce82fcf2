use Rattle.acts.proofs.Bodies.{body_once}
use Rattle.acts.proofs.laws.proof_bodies_differ.Goals as goal

pub returns : goal.returns
returns c = body_once
