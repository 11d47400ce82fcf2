use Rattle.std.proofs.Common.{rules, ◌≡◌, length}
use Rattle.ancestry.proofs.Rows.{all-of}
use Rattle.ancestry.proofs.ancestry.Ancestry.is_all_past.Goals as goal

pub returns : goal.returns
returns c =
    let count : c.len.result ≡ length c.self.inside.rows.items = search rules in
    all-of c.deref.result.now c.self.inside.rows.items c.args.self.now c.past_at.result.now c.args.position c.len.result c.self.invariant c.deref.ensures.value c.self.view_is c.past_at.ensures
    count c.requires.given
