use Rattle.acts.proofs.Pairs.{two_read}
use Rattle.tg_text.specs.KeySpelling.{IsKeyId, spell_key_id}
use Rattle.tg_text.specs.Spelling.{spell_base64}
use Rattle.tg_text.proofs.KeyTexts.{key_in_line}
use Rattle.link_text.specs.KeyRanges.{IsSealed}
use Rattle.link_text.proofs.key_lines.read_of.Goals as goal

pub returns : goal.returns
returns c = rw c.zip.ensures (two_read IsKeyId IsSealed spell_key_id spell_base64 _ _ _ _ _ (λ k is. (key_in_line k is).1) c.in-Some.ensures.some.0 c.in-Some.ensures.some.1 c.read.ensures c.in_ok-sealed.ensures)
