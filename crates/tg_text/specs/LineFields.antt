-- What may stand in a line after its word. Only private contracts cite it.
use Rattle.std.specs.Prelude.{ℕ, List}
use Rattle.tg_text.specs.Spelling.{spell_base64, spell_decimal, spell_hex}
use Rattle.tg_text.specs.declared.line_writing.Field.{Field}
use Rattle.tg_text.specs.declared.line_writing.Field.TheVariants.{Hex, Base64, Decimal, Text}

-- A field is spelled as its kind says, a text as it stands.
abbrev pub spell_field : Field → List ℕ
spell_field (Hex bytes) = spell_hex bytes.now
spell_field (Base64 bytes) = spell_base64 bytes.now
spell_field (Decimal number) = spell_decimal number
spell_field (Text text) = text.now
