use Rattle.std.proofs.Common.{◌≡◌, ◌<◌, ◌==◌, false, length, ◌∙◌, refl, sym}
use Rattle.std.proofs.lemmas.Bool.{eq-eqb, ne_eqb}
use Rattle.lms_ots.specs.Kinds.{ots_row}
use Rattle.tg_text.specs.Spelling.{number_at}
use Rattle.lms_tree.specs.LmsKinds.{lms_length, leaves_of}
use Rattle.lms_tree.proofs.Conditions.{wrong_length, wrong_leaf, types_left}
use Rattle.lms_tree.proofs.verifying.is_signature.Goals as goal
use Rattle.lms_tree.proofs.verifying.is_signature.Goals.{then-signature-signature_length-via-then-signature-signature_length, then-signature-signature_length-via-else-signature-signature_length+then-number_at-leaves}

pub returns-then-signature-signature_length : goal.returns-then-signature-signature_length
returns-then-signature-signature_length c =
    elim c.then-signature-signature_length.branch [
      | then-signature-signature_length-via-then-signature-signature_length w ↦
          sym (wrong_length c.args.lms c.args.ots c.args.signature.now (λ e. w.if-signature-signature_length.true (e ∙ sym c.signature_length.ensures)))
      | then-signature-signature_length-via-else-signature-signature_length+then-number_at-leaves w ↦
          sym (wrong_leaf c.args.lms c.args.ots c.args.signature.now (rw (w.leaves.ensures, w.number_at.ensures) at w.if-number_at-leaves.true))
    ]

pub returns-then-number_at-number : goal.returns-then-number_at-number
returns-then-number_at-number c =
    let s = c.args.signature.now in
    let size : length s ≡ lms_length c.args.lms c.args.ots = c.if-signature-signature_length.false ∙ c.signature_length.ensures in
    let low : number_at 0 s < leaves_of c.args.lms = rw (c.leaves.ensures, c.number_at.ensures) at c.if-number_at-leaves.false in
    let ots : number_at 4 s ≡ (ots_row c.args.ots).number = sym c.number_at-2.ensures ∙ c.if-number_at-number.true ∙ c.number.ensures in
    rw (c.number_at-then-number_at-number.ensures, c.number-then-number_at-number.ensures, c.length.ensures)
    (sym (types_left c.args.lms c.args.ots s size low ∙ rw (eq-eqb (number_at 4 s) (ots_row c.args.ots).number ots) refl))

pub returns-else-number_at-number : goal.returns-else-number_at-number
returns-else-number_at-number c =
    let s = c.args.signature.now in
    let size : length s ≡ lms_length c.args.lms c.args.ots = c.if-signature-signature_length.false ∙ c.signature_length.ensures in
    let low : number_at 0 s < leaves_of c.args.lms = rw (c.leaves.ensures, c.number_at.ensures) at c.if-number_at-leaves.false in
    let no : (number_at 4 s == (ots_row c.args.ots).number) ≡ false =
    ne_eqb (number_at 4 s) (ots_row c.args.ots).number (λ e. c.if-number_at-number.false (c.number_at-2.ensures ∙ e ∙ sym c.number.ensures)) in
    rw (c.number_at-2.ensures, c.number.ensures, no) (sym (types_left c.args.lms c.args.ots s size low ∙ rw no refl))
