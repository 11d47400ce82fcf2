use Rattle.std.proofs.Common.{sym, ◌∙◌}
use Rattle.std.specs.Cmp.Lexicographic.{nat_list_cmp_total}
use Rattle.std.specs.FinMap as map
use Rattle.tg_outside.proofs.table.Table.get.Goals as goal

pub returns : goal.returns
returns c =
    let found = rw (c.deref.ensures.value, c.as_bytes.ensures.value) at c.find.ensures in
    rw (← c.self.view_is) (found ∙ sym (map.get-from_entries nat_list_cmp_total c.self.inside.entries.items c.args.name.now))
