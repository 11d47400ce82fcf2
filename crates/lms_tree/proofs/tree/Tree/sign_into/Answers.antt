use Rattle.std.proofs.Common.{◌≡◌, ◌∙◌, length, refl, ap, subst, append_assoc}
use Rattle.lms_ots.specs.Digits.{u32str}
use Rattle.lms_ots.proofs.Buffers.{u32str_is}
use Rattle.lms_tree.specs.declared.tree_key.TreeKey.{TreeKey}
use Rattle.lms_tree.specs.LmsKinds.{lms_row}
use Rattle.lms_tree.specs.Signatures.{leaf_signature, signature_of}
use Rattle.lms_tree.proofs.Verified.{signed_verifies}
use Rattle.lms_tree.proofs.tree.Tree.sign_into.Goals as goal

pub returns-clause-bytes : goal.returns-clause-bytes
unfolding signature_of
returns-clause-bytes c =
    let key = c.args.self.now in
    let leaf : c.copy_from_slice.new.self ≡ u32str c.args.q = c.copy_from_slice.ensures.after ∙ c.to_be_bytes.ensures ∙ u32str_is c.args.q in
    let one : c.sign_leaf.new.out ≡ leaf_signature key c.args.q c.args.message.now =
    c.sign_leaf.ensures ∙ ap (λ (k : TreeKey). leaf_signature k c.args.q c.args.message.now) c.self.view_is in
    let number : c.copy_from_slice-2.new.self ≡ u32str (lms_row key.lms).number =
    c.copy_from_slice-2.ensures.after ∙ c.to_be_bytes-2.ensures ∙ u32str_is c.number.result
    ∙ ap u32str (c.number.ensures ∙ ap (λ (k : TreeKey). (lms_row k.lms).number) c.self.view_is) in
    rw (leaf, one, number, c.write_path.ensures, append_assoc, append_assoc) refl

pub returns-clause-verifies : goal.returns-clause-verifies
returns-clause-verifies c =
    let size : length c.args.self.now.id ≡ 16 = subst (λ (k : TreeKey). length k.id ≡ 16) c.self.view_is c.self.invariant.id in
    rw (returns-clause-bytes c) (signed_verifies c.args.self.now c.args.q c.args.message.now size c.requires.leaf)
