-- The text of links that a replica took over from a graph.
use Rattle.std.proofs.Common.{◌≡◌, ℕ, List, Result, IfOk, subst}
use Rattle.tg_text.specs.declared.memory.Memory.{Memory}
use Rattle.link_graph.specs.Held.{Held}

pub of_held : (text : Held → List ℕ) (a b : Held) (r : Result (List ℕ) Memory) → a ≡ b → IfOk r (λ out. out ≡ text a) → IfOk r (λ out. out ≡ text b)
of_held text a b r e h = subst (λ (x : Held). IfOk r (λ out. out ≡ text x)) e h
