use Rattle.std.proofs.Common.{sym, ◌∙◌, ap, nat_eq, List, ℕ}
use Rattle.std.specs.Cmp.Lexicographic.{pointwise}
use Rattle.acts.proofs.ActWords.{IsUnknown, unknown}
use Rattle.acts.proofs.reading.read_fields.Goals as goal

pub returns-else-eq-16 : goal.returns-else-eq-16
returns-else-eq-16 c = λ lacks.
    let is = λ (w : List ℕ). pointwise nat_eq c.args.word.now w in
    let other : IsUnknown c.args.word.now = record {
      found = ap is (sym c.as_slice.ensures) ∙ sym c.if-eq.ensures;
      add_member = ap is (sym c.as_slice-else-eq.ensures) ∙ sym c.if-eq-2.ensures;
      remove_member = ap is (sym c.as_slice-else-eq-2.ensures) ∙ sym c.if-eq-3.ensures;
      add_role = ap is (sym c.as_slice-else-eq-3.ensures) ∙ sym c.if-eq-4.ensures;
      remove_role = ap is (sym c.as_slice-else-eq-4.ensures) ∙ sym c.if-eq-5.ensures;
      give_role = ap is (sym c.as_slice-else-eq-5.ensures) ∙ sym c.if-eq-6.ensures;
      take_role = ap is (sym c.as_slice-else-eq-6.ensures) ∙ sym c.if-eq-7.ensures;
      add_device = ap is (sym c.as_slice-else-eq-7.ensures) ∙ sym c.if-eq-8.ensures;
      remove_device = ap is (sym c.as_slice-else-eq-8.ensures) ∙ sym c.if-eq-9.ensures;
      invite_member = ap is (sym c.as_slice-else-eq-9.ensures) ∙ sym c.if-eq-10.ensures;
      invite_device = ap is (sym c.as_slice-else-eq-10.ensures) ∙ sym c.if-eq-11.ensures;
      revoke = ap is (sym c.as_slice-else-eq-11.ensures) ∙ sym c.if-eq-12.ensures;
      admit_member = ap is (sym c.as_slice-else-eq-12.ensures) ∙ sym c.if-eq-13.ensures;
      admit_device = ap is (sym c.as_slice-else-eq-13.ensures) ∙ sym c.if-eq-14.ensures;
      rotate = ap is (sym c.as_slice-else-eq-14.ensures) ∙ sym c.if-eq-15.ensures;
      title = ap is (sym c.as_slice-else-eq-15.ensures) ∙ sym c.if-eq-16.ensures;
    } in
    record { found = tt; only = λ a is e. absurd (unknown a c.args.word.now c.args.fields.now other lacks e) }
