use Rattle.std.proofs.Common.{refl}
use Rattle.tg_text.proofs.FieldLaws.{base64_lacks, decimal_lacks, hex_lacks, name_lacks, title_lacks}
use Rattle.tg_text.proofs.KeyTexts.{key_in_line, scope_in_line}
use Rattle.tg_text.proofs.laws.fields_are_whole.Goals as goal

pub returns : goal.returns
returns c = record {
  decimal = λ n small. (decimal_lacks 10 n refl small, decimal_lacks 32 n refl small);
  hex = λ x. (hex_lacks 10 x refl, hex_lacks 32 x refl);
  base64 = λ x. (base64_lacks 10 x refl refl, base64_lacks 32 x refl refl);
  name = λ x is. (name_lacks 10 x refl is, name_lacks 32 x refl is);
  title = λ x is. title_lacks 10 x refl is;
  scope = scope_in_line;
  key = key_in_line;
}
