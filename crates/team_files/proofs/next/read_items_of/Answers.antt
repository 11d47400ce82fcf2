use Rattle.std.proofs.Common.{[], ◌∷◌, ◌++◌, ap, ◌∙◌, append_assoc, rules}
use Rattle.team_files.specs.Bundles.{Begins}
use Rattle.team_files.proofs.ItemLists.{run_push}
use Rattle.team_files.proofs.next.read_items_of.Goals as goal

pub loop-item-preserved : goal.loop-item-preserved
loop-item-preserved c =
    let was = c.loop-item.invariant in
    let item = c.in-Whole.item in
    let begins : Begins c.loop-item.rest.now item c.in-Whole.behind.now = search rules in (
      was.0 ++ item ∷ [],
      c.in_ok-push-in-Whole.ensures.ok ∙ ap (λ l. l ++ item ∷ []) was.1 ∙ append_assoc c.args.items.now was.0 (item ∷ []),
      run_push c.args.bytes.now was.0 c.loop-item.rest.now item c.in-Whole.behind.now was.2 begins,
    )
