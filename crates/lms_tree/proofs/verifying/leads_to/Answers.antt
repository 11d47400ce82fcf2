use Rattle.std.proofs.Common.{◌≡◌, ◌∙◌, true, false, refl, sym}
use Rattle.lms_tree.specs.Verifying.{is_signature, leads_to}
use Rattle.lms_tree.proofs.Conditions.{fits}
use Rattle.lms_tree.proofs.verifying.leads_to.Goals as goal

pub root_of-requires : goal.root_of-requires
root_of-requires c = fits c.args.lms c.args.ots c.args.signature.now (sym c.is_signature.ensures ∙ c.if-is_signature.true)

pub returns-then-is_signature : goal.returns-then-is_signature
unfolding leads_to
returns-then-is_signature c =
    let yes : is_signature c.args.lms c.args.ots c.args.signature.now ≡ true = sym c.is_signature.ensures ∙ c.if-is_signature.true in
    rw (c.eq.ensures, c.split_at.ensures.back, c.as_slice.ensures, c.root_of.ensures, c.copy_from_slice.ensures.after, yes) refl

pub returns-else-is_signature : goal.returns-else-is_signature
unfolding leads_to
returns-else-is_signature c =
    let no : is_signature c.args.lms c.args.ots c.args.signature.now ≡ false = sym c.is_signature.ensures ∙ c.if-is_signature.false in
    rw (c.is_signature.ensures, no) refl
