use Rattle.tg_text.proofs.FieldLaws.{base64_once, decimal_once, hex_once}
use Rattle.tg_text.proofs.KeyTexts.{key_once, scope_once}
use Rattle.tg_text.proofs.laws.spellings_differ.Goals as goal

pub returns : goal.returns
returns c = record { decimal = decimal_once; hex = hex_once; base64 = base64_once; scope = scope_once; key = key_once }
