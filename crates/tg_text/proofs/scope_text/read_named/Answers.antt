use Rattle.std.proofs.Common.{◌≡◌, sym, ◌∙◌, ap, codes, false, nat_eq, List, ℕ}
use Rattle.std.specs.Cmp.Lexicographic.{pointwise}
use Rattle.tg_text.proofs.KeyTexts.{other_kind}
use Rattle.tg_text.proofs.scope_text.read_named.Goals as goal

pub returns-else-eq-3 : goal.returns-else-eq-3
returns-else-eq-3 c = λ lacks.
    let is = λ (w : List ℕ). pointwise nat_eq c.args.kind.now w in
    let role : is (codes "role") ≡ false = ap is (sym c.as_slice.ensures) ∙ sym c.if-eq.ensures in
    let user : is (codes "user") ≡ false = ap is (sym c.as_slice-else-eq.ensures) ∙ sym c.if-eq-2.ensures in
    let device : is (codes "device") ≡ false = ap is (sym c.as_slice-else-eq-2.ensures) ∙ sym c.if-eq-3.ensures in
    record { found = tt; only = λ s is e. absurd (other_kind s c.args.kind.now c.args.name.now lacks role user device e) }
