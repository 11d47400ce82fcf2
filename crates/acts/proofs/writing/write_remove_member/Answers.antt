use Rattle.std.proofs.Common.{codes}
use Rattle.acts.proofs.Appends.{appends_last}
use Rattle.acts.proofs.writing.write_remove_member.Goals as goal

pub returns-clause-ok : goal.returns-clause-ok
returns-clause-ok c = rw (← c.as_slice.ensures.bytes) (appends_last c.add_text.result c.args.out.now (codes "remove_member") _ _ c.add_text.new.out c.in_ok-append.ensures.ok c.add_text.ensures.ok)
