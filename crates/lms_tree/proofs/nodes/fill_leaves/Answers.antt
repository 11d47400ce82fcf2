use Rattle.std.proofs.Common.{◌≡◌, ◌<◌, ◌+◌, ◌*◌, ◌∙◌, arith, length}
use Rattle.lms_tree.specs.LmsKinds.{leaves_of}
use Rattle.lms_tree.specs.Nodes.{node}
use Rattle.lms_tree.proofs.Filled.{leaf_step, leaf_is, leaves_hold}
use Rattle.lms_tree.proofs.nodes.fill_leaves.Goals as goal

pub loop-q-preserved : goal.loop-q-preserved
loop-q-preserved c =
    let key = c.args.key.now in
    let q = c.loop-q.q in
    let e : leaves_of key.lms + (q + 1) ≡ leaves_of key.lms + q + 1 = omega arith in
    let is : c.leaf_hash.result ≡ node key 0 (leaves_of key.lms + q) =
    c.leaf_hash.ensures ∙ rw (c.ots_public-public.ensures, c.leaves-leaves.ensures) (leaf_is key q) in
    let within : leaves_of key.lms + q < length c.loop-q.nodes = omega arith in
    rw (e, c.leaves-leaves.ensures) (leaf_step key (leaves_of key.lms + q) c.loop-q.nodes c.leaf_hash.result within c.loop-q.invariant is)

pub returns : goal.returns
returns c =
    let all : leaves_of c.args.key.now.lms + c.loop-q.q ≡ 2 * leaves_of c.args.key.now.lms = omega arith in
    leaves_hold c.args.key.now c.loop-q.nodes (rw all at c.loop-q.invariant)
