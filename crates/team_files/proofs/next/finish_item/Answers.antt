use Rattle.std.proofs.Common.{◌++◌, sym, subst, rules}
use Rattle.team_files.specs.Bundles.{Begins, IsFront}
use Rattle.team_files.proofs.Growing.{all_kept, bad_grown, taken_fits, whole_grown}
use Rattle.team_files.proofs.next.finish_item.Goals as goal

pub overflow_sub-taken-in-Whole : goal.overflow_sub-taken-in-Whole
overflow_sub-taken-in-Whole c =
    let grown = c.loop-rest.invariant.grown in
    (taken_fits c.args.kept.now c.args.piece.now grown.0 c.loop-rest.kept c.loop-rest.rest.now c.split_at.result.0.now c.split_at.result.1.now c.append.new.self
    grown.1 grown.2 c.split_at.ensures.by_index.0 c.in_ok-append.ensures.ok c.in-Whole.item c.in-Whole.after.now c.requires
    (search rules) c.len-before.result c.len.result c.len-before.ensures c.len.ensures).0

pub returns-in-Whole-clause-ok : goal.returns-in-Whole-clause-ok
returns-in-Whole-clause-ok c =
    let grown = c.loop-rest.invariant.grown in
    subst (Begins (c.args.kept.now ++ c.args.piece.now) c.in-Whole.item) (sym c.split_at-in-Whole.ensures.back)
    (whole_grown c.args.kept.now c.args.piece.now grown.0 c.loop-rest.kept c.loop-rest.rest.now c.split_at.result.0.now c.split_at.result.1.now c.append.new.self
    grown.1 grown.2 c.split_at.ensures.by_index.0 c.in_ok-append.ensures.ok c.in-Whole.item c.in-Whole.after.now c.requires
    (search rules) c.len-before.result c.len.result c.len-before.ensures c.len.ensures)

pub returns-in-Bad-clause-ok : goal.returns-in-Bad-clause-ok
returns-in-Bad-clause-ok c =
    let grown = c.loop-rest.invariant.grown in
    bad_grown c.args.kept.now c.args.piece.now grown.0 c.loop-rest.kept c.loop-rest.rest.now c.split_at.result.0.now c.split_at.result.1.now c.append.new.self
    grown.1 grown.2 c.split_at.ensures.by_index.0 c.in_ok-append.ensures.ok (search rules)

pub returns-clause-ok : goal.returns-clause-ok
returns-clause-ok c =
    let grown = c.loop-rest.invariant.grown in
    subst IsFront (all_kept c.args.kept.now c.args.piece.now grown.0 c.loop-rest.kept c.loop-rest.rest.now grown.1 grown.2 c.loop-rest-test.ensures)
    c.loop-rest.invariant.unfinished
