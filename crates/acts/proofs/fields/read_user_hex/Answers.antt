use Rattle.tg_text.specs.Spelling.{IsHash, spell_hex}
use Rattle.acts.specs.ActText.{IsName}
use Rattle.acts.specs.Fields.{spell_text}
use Rattle.acts.proofs.Pairs.{two_read, name_word}
use Rattle.acts.proofs.fields.read_user_hex.Goals as goal

pub returns : goal.returns
returns c = rw c.zip.ensures (two_read IsName IsHash spell_text spell_hex _ _ _ _ _ (name_word) c.in_ok-user.ensures.some.0 c.in_ok-user.ensures.some.1 c.read_user.ensures c.read_hex32.ensures)
