use Rattle.std.proofs.Common.{rules, ◌≡◌, ◌∙◌, false, length, replicate}
use Rattle.ancestry.proofs.Marks.{past-next}
use Rattle.ancestry.proofs.row.next_past.Goals as goal

pub returns : goal.returns
returns c =
    let none : c.in_ok-marks.marks.items ≡ replicate (length c.args.rows.now) false = search rules in
    c.from_vec.ensures
    ∙ past-next c.args.rows.now c.args.parents.now c.in_ok-marks.marks.items c.mark_with_pasts.new.marks.items c.deref.result.now c.in_ok-past.past.items c.requires.rows c.requires.given
    none c.mark_with_pasts.ensures.size c.mark_with_pasts.ensures.told c.deref.ensures.value c.in_ok-past.ensures
