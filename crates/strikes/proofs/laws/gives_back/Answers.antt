use Rattle.strikes.proofs.Larger.{gives-back}
use Rattle.strikes.proofs.laws.gives_back.Goals as goal

pub returns : goal.returns
returns c = λ rules links others apart more x k plain gone stood. gives-back rules links others apart more x k plain gone stood
