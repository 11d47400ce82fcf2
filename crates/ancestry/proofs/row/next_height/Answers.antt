use Rattle.std.proofs.Common.{arith, ◌≡◌, ◌+◌, ◌∙◌, ◌++◌, ◌∷◌, [], ap, max, fold, take, length}
use Rattle.std.proofs.lemmas.List.{take_all}
use Rattle.ancestry.specs.Positions.{height_of}
use Rattle.ancestry.specs.Rows.{parents_of}
use Rattle.ancestry.proofs.Heights.{next-height}
use Rattle.ancestry.proofs.Rows.{as-many, given-in}
use Rattle.ancestry.proofs.row.next_height.Goals as goal

pub returns-clause-height : goal.returns-clause-height
returns-clause-height c =
    let end = c.loop-parent-test.false in
    let whole : take c.loop-parent.parent-index c.args.parents.now ≡ c.args.parents.now = take_all c.loop-parent.parent-index c.args.parents.now (omega (arith, end)) in
    c.loop-parent.invariant.height ∙ ap (λ l. fold (λ h p. max h (height_of (parents_of c.args.rows.now) p + 1)) 0 l) whole
    ∙ next-height (parents_of c.args.rows.now) c.args.parents.now c.requires.rows.parents_first (given-in c.args.rows.now c.args.parents.now c.requires.given)
    ∙ ap (λ n. height_of (parents_of c.args.rows.now ++ c.args.parents.now ∷ []) n) (as-many c.args.rows.now)
