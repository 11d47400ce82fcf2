use Rattle.std.proofs.Common.{◌≡◌, ◌+◌, ◌-◌, ◌∙◌, refl, arith, take, drop}
use Rattle.std.proofs.lemmas.Bool.{false≢true}
use Rattle.lms_ots.specs.Kinds.{ots_length}
use Rattle.lms_ots.specs.Ots.{candidate}
use Rattle.tg_text.specs.Spelling.{number_at}
use Rattle.lms_tree.specs.Verifying.{root_of}
use Rattle.lms_tree.proofs.Conditions.{from_fits, within_is_ots}
use Rattle.lms_tree.proofs.verifying.root_of.Goals as goal

pub unreachable-requires : goal.unreachable-requires
unreachable-requires c =
    let s = c.args.signature.now in
    let long : 4 + c.length-end.result - 4 ≡ ots_length c.args.ots = omega (arith, c.length-end.ensures) in
    false≢true (c.in_default.ensures.form.1 (rw long (within_is_ots c.args.lms c.args.ots s (from_fits c.args.lms c.args.ots s c.requires))))

pub returns : goal.returns
unfolding root_of
returns c =
    let s = c.args.signature.now in
    let long : 4 + c.length-end.result - 4 ≡ ots_length c.args.ots = omega (arith, c.length-end.ensures) in
    let end : 4 + c.length-end.result + 4 ≡ 8 + ots_length c.args.ots = omega (arith, c.length-end.ensures) in
    let key : c.in-Some.key ≡ candidate c.args.ots c.args.id.now (number_at 0 s) c.args.message.now (take (ots_length c.args.ots) (drop 4 s)) =
    c.in-Some.ensures.key ∙ rw (c.number_at-q.ensures, long) refl in
    rw (c.climb.ensures, c.leaf_hash.ensures, key, c.leaves.ensures, c.number_at-q.ensures, c.split_at.ensures.back, c.height.ensures, end) refl
