use Rattle.acts.specs.ActText.{IsName}
use Rattle.acts.specs.Fields.{spell_text}
use Rattle.acts.proofs.Pairs.{two_read, name_word}
use Rattle.acts.proofs.fields.read_user_role.Goals as goal

pub returns : goal.returns
returns c = rw c.zip.ensures (two_read IsName IsName spell_text spell_text _ _ _ _ _ (name_word) c.in_ok-user.ensures.some.0 c.in_ok-user.ensures.some.1 c.read_user.ensures c.read_role.ensures)
